-- A text of a scenario over a script says so at a line.
use Rattle.std.proofs.Common.{◌≡◌, ◌≤◌, ℕ, ◌+◌, Bool, true, false, cond, eqb, ltb, List, [], ◌∷◌, ◌++◌, length, map, Option, Some, None, Result, Ok, refl, sym, ap, subst, ◌∙◌, arith, append_assoc, length-append}
use Rattle.std.specs.List.{flat_map}
use Rattle.std.proofs.lemmas.Bool.{ltb-false, eqb-true}
use Rattle.std.proofs.lemmas.List.{nil_from_length, append-nil}
use Rattle.text_lines.specs.Pieces.{pieces}
use Rattle.text_lines.specs.Spelling.{spelled}
use Rattle.text_lines.proofs.TextIsCut.{split_cons}
use Rattle.script_upstream.specs.declared.script.script.Script.{Script}
use Rattle.text_lines.specs.declared.lines.option_form.OptionLine.{OptionLine}
use Rattle.text_lines.specs.LineSpelling.{script_lines, question_line, turn_line, end_words}
use Rattle.recursor_text.specs.declared.reading.whole.WholeDraft.{WholeDraft}
use Rattle.recursor_text.specs.declared.reading.draft.Refusal.{Refusal}
use Rattle.recursor_text.specs.declared.scenario.Scenario.{Scenario}
use Rattle.recursor_text.specs.declared.scenario.ScenarioError.{ScenarioError}
use Rattle.recursor_text.specs.declared.scenario.Cause.{Cause}
use Rattle.recursor_text.specs.declared.scenario.Upstream.TheVariants.{Script as FromScript}
use Rattle.recursor_text.specs.Steps.{is_ended}
use Rattle.recursor_text.specs.Whole.{start, taken, scenario_of, refusal_of}
use Rattle.recursor_text.specs.Reading.{fails_at, step_by, finish, onward, read_from, scenario_in}
use Rattle.recursor_text.specs.Spelling.{to_patience, to_upstream, scenario_lines, IsScenario}
use Rattle.recursor_text.proofs.BesideLaws.{Good, so_far, taken_takes, start_good, ended_is}
use Rattle.recursor_command.specs.Checking.{TellsScript, first_told}
use Rattle.recursor_command.proofs.Scripts.{told, Stood, tells, within, length_push}
use Rattle.recursor_text.specs.declared.scenario.Cause.TheVariants as cause

abbrev Read : Type 0
Read = Result Scenario ScenarioError

ok_in : (b : Bool) (r : Read) (n : ℕ) (why : Cause) (s : Scenario) → cond b r (fails_at n why) ≡ Ok s → (b ≡ true) × (r ≡ Ok s)
ok_in true r n why s e = (refl, e)
ok_in false r n why s e = absurd cc

ok_past : (b : Bool) (r : Read) (n : ℕ) (why : Cause) (s : Scenario) → cond b (fails_at n why) r ≡ Ok s → (b ≡ false) × (r ≡ Ok s)
ok_past true r n why s e = absurd cc
ok_past false r n why s e = (refl, e)

abbrev ok : Scenario → Read
ok s = Ok s

ok_is : (s t : Scenario) → ok s ≡ ok t → s ≡ t
ok_is s t e = cc

took : (n : ℕ) (o : Option WholeDraft) (why : Refusal) (next : WholeDraft → Read) (s : Scenario) → onward n (step_by o why) next ≡ Ok s → (e : WholeDraft) × (o ≡ Some e) × (next e ≡ Ok s)
took n None why next s e = absurd cc
took n (Some d) why next s e = (d, refl, e)

-- what follows the last line feed of a scenario is nothing, and the lines are its own
finish_takes : (d : WholeDraft) (n : ℕ) (rest : List ℕ) (s : Scenario) → Good d → finish d n rest ≡ Ok s → (rest ≡ []) × (so_far d ≡ scenario_lines d.draft.written s) × IsScenario d.draft.written s
finish_takes d n rest s g e =
    let a = ok_in (is_ended d.draft.stage) (cond (eqb (length rest) 0) (Ok (scenario_of d)) (fails_at n cause.Line)) n cause.Cut s e in
    let b = ok_in (eqb (length rest) 0) (Ok (scenario_of d)) n cause.Line s a.1 in
    let is : scenario_of d ≡ s = ok_is (scenario_of d) s b.1 in
    let t = ended_is d g a.0 in
    (nil_from_length rest (eqb-true _ _ b.0), t.1 ∙ ap (scenario_lines d.draft.written) is, subst (IsScenario d.draft.written) is t.0)

lines_from : (d : WholeDraft) (n : ℕ) (line : List ℕ) (more : List (List ℕ)) (s : Scenario) → Good d → read_from d n (line ∷ more) ≡ Ok s
    → (written : List OptionLine) × (ls : List (List ℕ)) × (line ∷ more ≡ ls ++ [] ∷ []) × (so_far d ++ ls ≡ scenario_lines written s) × IsScenario written s
unfolding read_from
lines_from d n line [] s g e =
    let t = finish_takes d n line s g e in
    (d.draft.written, [], ap (λ (l : List ℕ). l ∷ []) t.0, append-nil (so_far d) ∙ t.1, t.2)
lines_from d n line (next ∷ more) s g e =
    let t = took n (taken d line) (refusal_of d line) (λ e. read_from e (n + 1) (next ∷ more)) s e in
    let p = taken_takes d line t.0 g t.1 in
    let r = lines_from t.0 (n + 1) next more s p.0 t.2 in
    (r.0, line ∷ r.1, ap (λ (l : List (List ℕ)). line ∷ l) r.2, sym (append_assoc (so_far d) (line ∷ []) r.1) ∙ ap (λ (l : List (List ℕ)). l ++ r.1) (sym p.1) ∙ r.3, r.4)

-- the lines of a text that is read are those of its scenario
lines_are : (bytes : List ℕ) (s : Scenario) → scenario_in bytes ≡ Ok s → (length bytes ≤ 16777216) × (written : List OptionLine) × IsScenario written s × (pieces 10 bytes ≡ scenario_lines written s ++ [] ∷ [])
lines_are bytes s e =
    let a = ok_past (ltb 16777216 (length bytes)) (read_from start 1 (pieces 10 bytes)) 0 cause.Long s e in
    let c = split_cons (λ b. eqb b 10) bytes in
    let h : read_from start 1 (c.0 ∷ c.1) ≡ Ok s = ap (read_from start 1) (sym c.2) ∙ a.1 in
    let t = lines_from start 1 c.0 c.1 s start_good h in
    (ltb-false _ _ a.0, t.0, t.4, c.2 ∙ t.2 ∙ ap (λ (ls : List (List ℕ)). ls ++ [] ∷ []) t.3)

-- ---- the line of a script

behind_four : (a b c d e : List (List ℕ)) → (((a ++ b) ++ c) ++ d) ++ e ≡ a ++ (b ++ (c ++ (d ++ e)))
behind_four a b c d e = append_assoc ((a ++ b) ++ c) d e ∙ append_assoc (a ++ b) c (d ++ e) ∙ append_assoc a b (c ++ (d ++ e))

abbrev head_of : List OptionLine → Scenario → List (List ℕ)
head_of written s = to_patience s.roots written s.patience

-- the line stands behind that of the patience
told_after : (written : List OptionLine) (s : Scenario) (script : Script) → s.upstream ≡ FromScript script → (more : List (List ℕ)) × (scenario_lines written s ≡ (head_of written s ++ told ∷ []) ++ more)
told_after written s script is =
    let rules = flat_map script_lines script.lines in
    let questions = map question_line s.questions in
    let turns = map turn_line s.turns in
    let last = spelled end_words ∷ [] in (
      rules ++ (questions ++ (turns ++ last)),
      ap (λ (u : _). ((to_upstream s.roots written s.patience u ++ questions) ++ turns) ++ last) is ∙ behind_four (head_of written s ++ told ∷ []) rules questions turns last,
    )

some_follow : (ls : List (List ℕ)) (l : List ℕ) → (next : List ℕ) × (more : List (List ℕ)) × (ls ++ l ∷ [] ≡ next ∷ more)
some_follow [] l = (l, [], refl)
some_follow (x ∷ ls) l = (x, ls ++ l ∷ [], refl)

whole_stood : (bytes : List ℕ) (s : Scenario) (written : List OptionLine) → IsScenario written s → pieces 10 bytes ≡ scenario_lines written s ++ [] ∷ [] → Stood bytes (length (scenario_lines written s) + 1)
whole_stood bytes s written fits cut = record {
  before = scenario_lines written s;
  line = [];
  more = [];
  cut = cut;
  place = refl;
  stands = (written, s, [], fits, sym (append-nil (scenario_lines written s)));
  fails = λ next rest e c. absurd cc;
}

pub script_told : (bytes : List ℕ) (s : Scenario) (script : Script) → scenario_in bytes ≡ Ok s → s.upstream ≡ FromScript script
    → (length bytes ≤ 16777216) × (m : ℕ) × (first_told 1 (pieces 10 bytes) ≡ Some m) × TellsScript bytes m
script_told bytes s script e is =
    let r = lines_are bytes s e in
    let head = head_of r.1 s in
    let t = told_after r.1 s script is in
    let f = some_follow t.0 [] in
    let cut : pieces 10 bytes ≡ head ++ told ∷ f.0 ∷ f.1 =
    r.3 ∙ ap (λ (ls : List (List ℕ)). ls ++ [] ∷ []) t.1 ∙ append_assoc (head ++ told ∷ []) t.0 ([] ∷ []) ∙ ap (λ (ls : List (List ℕ)). (head ++ told ∷ []) ++ ls) f.2
    ∙ append_assoc head (told ∷ []) (f.0 ∷ f.1) in
    let w = within 1 head f.0 f.1 in
    let found = ap (first_told 1) cut ∙ w.1 in
    let lengths = ap length t.1 ∙ length-append (head ++ told ∷ []) t.0 in
    let pushed = length_push head told in
    let most = w.2 in
    (r.0, w.0, found, tells bytes (length (scenario_lines r.1 s) + 1) w.0 r.0 (whole_stood bytes s r.1 r.2 r.3) found (omega (arith, most, lengths, pushed)))
