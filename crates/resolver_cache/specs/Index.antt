-- The entries under numbers, and the number of each under its question.
use Rattle.std.specs.Prelude.{◌≡◌, ◌≤◌, ℕ, List, Option, count_by}
use Rattle.std.specs.BTreeMap.{BTreeMap, get}
use Rattle.std.specs.Map.{values_of}
use Rattle.dns_core.specs.declared.message.Query.{Query}
use Rattle.dns_core.specs.contracts.message.QueryOrd.TheImpl as question_order
use Rattle.kept_responses.specs.declared.entry.Entry.{Entry}
use Rattle.kept_responses.specs.Entry.{is_for}
use Rattle.resolver_cache.specs.Writings.{number_of}

-- the number that stands under a question
abbrev pub number_at : BTreeMap Query ℕ → Query → Option ℕ
number_at places query = get question_order.ghosts.cmp places query

-- under each question stands the number of its entry
abbrev pub ArePlaced : List (ℕ × Entry) → BTreeMap Query ℕ → Type 0
ArePlaced es places = (q : Query) → number_at places q ≡ number_of (is_for q) es

-- no two entries are for one question
abbrev pub AreSingle : List (ℕ × Entry) → Type 0
AreSingle es = (q : Query) → count_by (is_for q) (values_of es) ≤ 1
