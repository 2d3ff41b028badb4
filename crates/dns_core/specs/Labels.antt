-- The labels of names (RFC 1035 sections 2.3.4 and 3.1; RFC 2181 section 11).
use Rattle.std.specs.Prelude.{ℕ, ◌<◌, ◌≤◌, false, List, length, IsTrue}
use Rattle.std.specs.List.{AllByRecursion, list_all}
use Rattle.dns_core.specs.NameText.{is_allowed, wire_length}

-- 1 to 63 bytes, each of them one that a relaxed name may have
pub record IsLabel (label : List ℕ) : Type 0 where
  pub some : 0 < length label
  pub few : length label < 64
  pub allowed : IsTrue (list_all (is_allowed false) label)

-- what a name may have: labels, with at most 255 bytes in wire form
pub record AreLabels (labels : List (List ℕ)) : Type 0 where
  pub each : AllByRecursion IsLabel labels
  pub short : wire_length labels ≤ 255
