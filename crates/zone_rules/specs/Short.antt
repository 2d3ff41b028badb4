-- Ways of few names, with few labels.
use Rattle.std.specs.Prelude.{ℕ, ◌+◌, ◌<◌, ◌≤◌, List, length, sum_by}
use Rattle.dns_core.specs.Name.{DomainName}

-- the labels of these names, and their number
abbrev pub weight : List DomainName → ℕ
weight names = sum_by (λ n. length n.labels) names + length names

-- the names on a way are so few, with so few labels, that no limit is met
pub record IsShort (names : List DomainName) (recursion_limit ns_recursion_limit : ℕ) : Type 0 where
  pub few : length names ≤ 65
  pub light : weight names ≤ 200
  pub below_limit : weight names < recursion_limit
  pub below_ns_limit : weight names < ns_recursion_limit
