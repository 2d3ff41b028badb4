-- The one text of each scenario.
use Rattle.std.specs.Prelude.{◌≡◌, ℕ, ◌<◌, ◌≤◌, List, [], ◌∷◌, ◌++◌, length, map, codes}
use Rattle.std.specs.List.{flat_map, AllByRecursion}
use Rattle.std.specs.declared.net.ip_addr.IpAddr.{IpAddr}
use Rattle.dns_core.specs.declared.request.Question.{Question}
use Rattle.dns_core.specs.declared.request.Turn.{Turn}
use Rattle.recursor_types.specs.declared.options.RecursorOptions.{RecursorOptions}
use Rattle.script_upstream.specs.declared.script.script.ScriptLine.{ScriptLine}
use Rattle.text_lines.specs.declared.lines.option_form.OptionLine.{OptionLine}
use Rattle.recursor_text.specs.WorldSpelling.{world_lines, IsWorld}
use Rattle.recursor_text.specs.declared.scenario.Scenario.{Scenario}
use Rattle.recursor_text.specs.declared.scenario.Upstream.{Upstream}
use Rattle.recursor_text.specs.declared.scenario.Upstream.TheVariants.{Script as FromScript, World as FromWorld}
use Rattle.text_lines.specs.Spelling.{spelled, IsAddress}
use Rattle.text_lines.specs.LineSpelling.{head_words, patience_words, told_words, end_words, script_lines, root_line, option_line, question_line, turn_line, IsScriptLine, IsQuestion, IsTurn, IsOption, RiseAbove, options_with}

-- ---- the lines of a scenario, in order

-- the rules of a script; a world has none
abbrev pub rules_of : Upstream → List ScriptLine
rules_of (FromScript script) = script.lines
rules_of (FromWorld w) = []

abbrev pub to_roots : List IpAddr → List (List ℕ)
to_roots roots = spelled head_words ∷ map root_line roots

abbrev pub to_options : List IpAddr → List OptionLine → List (List ℕ)
to_options roots written = to_roots roots ++ map option_line written

abbrev pub to_patience : List IpAddr → List OptionLine → ℕ → List (List ℕ)
to_patience roots written patience = to_options roots written ++ spelled (patience_words patience) ∷ []

abbrev pub to_told : List IpAddr → List OptionLine → ℕ → List (List ℕ)
to_told roots written patience = to_patience roots written patience ++ spelled told_words ∷ []

abbrev pub told_world_words : List (List ℕ)
told_world_words = codes "told" ∷ codes "world" ∷ []

abbrev pub to_world : List IpAddr → List OptionLine → ℕ → List (List ℕ)
to_world roots written patience = to_patience roots written patience ++ spelled told_world_words ∷ []

-- up to the lines of a script or of a world, and with these
abbrev pub to_upstream : List IpAddr → List OptionLine → ℕ → Upstream → List (List ℕ)
to_upstream roots written patience (FromScript script) = to_told roots written patience ++ flat_map script_lines script.lines
to_upstream roots written patience (FromWorld w) = to_world roots written patience ++ world_lines w

abbrev pub to_rules : List OptionLine → Scenario → List (List ℕ)
to_rules written s = to_upstream s.roots written s.patience s.upstream

abbrev pub to_questions : List OptionLine → Scenario → List (List ℕ)
to_questions written s = to_rules written s ++ map question_line s.questions

abbrev pub to_turns : List OptionLine → Scenario → List (List ℕ)
to_turns written s = to_questions written s ++ map turn_line s.turns

-- the lines of a scenario whose options these lines say
abbrev pub scenario_lines : List OptionLine → Scenario → List (List ℕ)
scenario_lines written s = to_turns written s ++ spelled end_words ∷ []

-- each line ends with a line feed
abbrev pub text_of : List (List ℕ) → List ℕ
text_of lines = flat_map (λ line. line ++ 10 ∷ []) lines

-- ---- what a scenario may say

-- no turn comes before the one ahead of it, nor before this moment
abbrev pub NoneFalls : ℕ → List Turn → Type 0
NoneFalls low [] = Unit {0}
NoneFalls low (t ∷ ts) = (low ≤ t.moment) × NoneFalls t.moment ts

-- the moment of the last turn, and this one where there is none
abbrev pub last_moment : ℕ → List Turn → ℕ
last_moment low [] = low
last_moment low (t ∷ ts) = last_moment t.moment ts

-- a question of fewer labels than there may be zones on its way
abbrev pub IsAsked : RecursorOptions → Question → Type 0
IsAsked options q = IsQuestion q × (length q.query.name.labels < options.ns_recursion_limit)

-- ---- a whole scenario

-- how many roots, questions and turns a scenario may have
abbrev pub most_roots : ℕ
most_roots = 64

abbrev pub most_questions : ℕ
most_questions = 10000

abbrev pub most_turns : ℕ
most_turns = 100000

abbrev pub IsUpstream : Upstream → Type 0
IsUpstream (FromScript script) = AllByRecursion IsScriptLine script.lines
IsUpstream (FromWorld w) = IsWorld w

-- the scenario has the options that these lines say
pub record IsScenario (written : List OptionLine) (s : Scenario) : Type 0 where
  pub rooted : 0 < length s.roots
  pub few_roots : length s.roots ≤ most_roots
  pub roots : AllByRecursion IsAddress s.roots
  pub ordered : RiseAbove 0 written
  pub valued : AllByRecursion IsOption written
  pub options : s.options ≡ options_with written
  pub patience : (1 ≤ s.patience) × (s.patience ≤ 1000)
  pub upstream : IsUpstream s.upstream
  pub few_questions : length s.questions ≤ most_questions
  pub questions : AllByRecursion (IsAsked s.options) s.questions
  pub few_turns : length s.turns ≤ most_turns
  pub turns : AllByRecursion IsTurn s.turns
  pub timed : NoneFalls 0 s.turns

-- The bytes are the text of the scenario, its options said by some option lines.
pub record Reads (bytes : List ℕ) (s : Scenario) : Type 0 where
  pub written : List OptionLine
  pub short : length bytes ≤ 16777216
  pub fits : IsScenario written s
  pub text : bytes ≡ text_of (scenario_lines written s)
