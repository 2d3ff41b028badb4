-- What `check` tells of a world, and its text.
use Rattle.std.specs.Prelude.{◌≡◌, ◌↔◌, ℕ, Bool, true, false, IsTrue, List, [], ◌∷◌, ◌++◌, codes, decimal}
use Rattle.std.specs.declared.net.ip_addr.IpAddr.{IpAddr}
use Rattle.dns_core.specs.declared.request.Question.{Question}
use Rattle.recursor_types.specs.Options.{server_filter_of, answer_filter_of}
use Rattle.recursor_types.specs.declared.options.RecursorOptions.{RecursorOptions}
use Rattle.transcript_printer.specs.Log.{numbered_text}
use Rattle.world_check.specs.Clauses.{clauses, IsVerdict}
use Rattle.world_check.specs.declared.filters.WorldFilters.{WorldFilters}
use Rattle.world_check.specs.declared.verdict.Verdict.{Verdict}
use Rattle.world_check.specs.declared.verdict.Verdict.TheVariants.{Yes, No}
use Rattle.zone_worlds.specs.Valid.{IsValid}
use Rattle.zone_rules.specs.declared.world.World.{World}

-- the filters that options say
abbrev pub filters_of : RecursorOptions → WorldFilters
filters_of options = record { server = server_filter_of options; answer = answer_filter_of options }

-- each question has its truth, in order: whether it is valid for a recursor of these depth limits
abbrev pub AreValid : World → ℕ → ℕ → List Question → List Bool → Type 0
AreValid w depth ns_depth [] [] = Unit {0}
AreValid w depth ns_depth [] (valid ∷ more) = ⊥
AreValid w depth ns_depth (q ∷ qs) [] = ⊥
AreValid w depth ns_depth (q ∷ qs) (valid ∷ more) = (IsTrue valid ↔ IsValid w depth ns_depth q.query) × AreValid w depth ns_depth qs more

-- a world is well served, or this is the lowest clause that fails
abbrev pub verdict_text : Verdict → List ℕ
verdict_text Yes = codes "verdict yes\n"
verdict_text (No clause) = codes "verdict no " ++ decimal clause ++ codes "\n"

-- whether the question of a number is valid
abbrev pub valid_text : ℕ → Bool → List ℕ
valid_text n true = codes "valid " ++ decimal n ++ codes " yes\n"
valid_text n false = codes "valid " ++ decimal n ++ codes " no\n"

-- the verdict, each question by its number from 1, and the word that shows that nothing is cut off
abbrev pub check_text : Verdict → List Bool → List ℕ
check_text verdict valid = verdict_text verdict ++ numbered_text valid_text 1 valid ++ codes "end\n"

-- The text tells the verdict on the world, for a recursor of these roots, options and patience, and which of these questions are valid.
pub record Tells (w : World) (roots : List IpAddr) (options : RecursorOptions) (patience : ℕ) (questions : List Question) (text : List ℕ) : Type 0 where
  pub verdict : Verdict
  pub valid : List Bool
  pub judged : IsVerdict (clauses w roots (filters_of options) patience) verdict
  pub asked : AreValid w options.recursion_limit options.ns_recursion_limit questions valid
  pub is : text ≡ check_text verdict valid
