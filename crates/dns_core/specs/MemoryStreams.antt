-- What a source and a sink in memory are.
use Rattle.std.specs.Prelude.{ℕ, ◌+◌, ◌-◌, ◌^◌, min, Bool, List, ◌==◌}
use Rattle.std.specs.List.{list_any}

-- what is left to read, the numbers of the calls that fail, and the counts of calls and of faults
pub record Reading : Type 0 where
  pub left : List ℕ
  pub failing : List ℕ
  pub calls : ℕ
  pub faults : ℕ

pub record Writing : Type 0 where
  pub written : List ℕ
  pub failing : List ℕ
  pub calls : ℕ
  pub faults : ℕ

abbrev pub contains_number : List ℕ → ℕ → Bool
contains_number numbers n = list_any (λ x. x == n) numbers

-- the number of the next call, which stays at the last of 64 bits
abbrev pub next_call : ℕ → ℕ
next_call calls = min (calls + 1) (2 ^ 64 - 1)
