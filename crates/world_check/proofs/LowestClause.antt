-- The verdict names the lowest clause that fails.
use Rattle.std.proofs.Common.{◌≡◌, ℕ, zero, suc, ◌+◌, ◌-◌, ◌<◌, Bool, true, false, List, [], ◌∷◌, length, Some, refl, sym, ap, ◌∙◌, arith}
use Rattle.std.specs.Prelude.{slice_get}
use Rattle.world_check.specs.Clauses.{first_failing, IsLowest, IsVerdict}
use Rattle.world_check.specs.declared.verdict.Verdict.TheVariants.{Yes, No}

all_hold : (k : ℕ) (bs : List Bool) → first_failing k bs ≡ Yes → (j : ℕ) → j < length bs → slice_get bs j ≡ Some true
all_hold k [] e j low = absurd (omega arith)
all_hold k (true ∷ bs) e zero low = refl
all_hold k (true ∷ bs) e (suc j) low = all_hold (k + 1) bs e j (omega arith)
all_hold k (false ∷ bs) e j low = cc

none_fails : (k : ℕ) (bs : List Bool) → ((j : ℕ) → j < length bs → slice_get bs j ≡ Some true) → first_failing k bs ≡ Yes
none_fails k [] all = refl
none_fails k (true ∷ bs) all = none_fails (k + 1) bs (λ j low. all (suc j) (omega arith))
none_fails k (false ∷ bs) all = let first : Some false ≡ Some true = all 0 (omega arith) in cc

-- the place of the first that fails, counted from 0
record FailsAt (k : ℕ) (bs : List Bool) (n : ℕ) : Type 0 where
  pub place : ℕ
  pub number : k + place ≡ n
  pub fails : slice_get bs place ≡ Some false
  pub others : (j : ℕ) → j < place → slice_get bs j ≡ Some true

below_suc : (b : Bool) (bs : List Bool) (place : ℕ) → b ≡ true → ((j : ℕ) → j < place → slice_get bs j ≡ Some true) → (j : ℕ) → j < suc place → slice_get (b ∷ bs) j ≡ Some true
below_suc b bs place e all zero low = ap Some e
below_suc b bs place e all (suc j) low = all j (omega arith)

fails_at : (k : ℕ) (bs : List Bool) (n : ℕ) → first_failing k bs ≡ No n → FailsAt k bs n
fails_at k [] n e = cc
fails_at k (true ∷ bs) n e =
    let f = fails_at (k + 1) bs n e in
    let at = f.number in
    record { place = suc f.place; number = omega arith; fails = f.fails; others = below_suc true bs f.place refl f.others }
fails_at k (false ∷ bs) n e = let same : k ≡ n = cc in record { place = 0; number = omega arith; fails = refl; others = λ j low. absurd (omega arith) }

fails_first : (k : ℕ) (bs : List Bool) (place : ℕ) → slice_get bs place ≡ Some false → ((j : ℕ) → j < place → slice_get bs j ≡ Some true) → first_failing k bs ≡ No (k + place)
fails_first k [] zero e all = cc
fails_first k [] (suc place) e all = cc
fails_first k (true ∷ bs) zero e all = cc
fails_first k (false ∷ bs) zero e all = let same : k ≡ k + 0 = omega arith in ap No same
fails_first k (true ∷ bs) (suc place) e all =
    let rest = fails_first (k + 1) bs place e (λ j low. all (suc j) (omega arith)) in
    let same : (k + 1) + place ≡ k + suc place = omega arith in
    rest ∙ ap No same
fails_first k (false ∷ bs) (suc place) e all = let first : Some false ≡ Some true = all 0 (omega arith) in cc

lowest_at : (bs : List Bool) (n : ℕ) → first_failing 1 bs ≡ No n → IsLowest bs n
lowest_at bs n e =
    let f = fails_at 1 bs n e in
    let at = f.number in
    let same : f.place ≡ n - 1 = omega arith in
    record {
      numbered = omega arith;
      fails = ap (λ (i : ℕ). slice_get bs i) (sym same) ∙ f.fails;
      others = λ k low. f.others k (omega arith);
    }

at_lowest : (bs : List Bool) (n : ℕ) → IsLowest bs n → first_failing 1 bs ≡ No n
at_lowest bs n l =
    let low = l.numbered in
    let same : 1 + (n - 1) ≡ n = omega arith in
    fails_first 1 bs (n - 1) l.fails l.others ∙ ap No same

pub verdict-lowest : (bs : List Bool) → IsVerdict bs (first_failing 1 bs)
verdict-lowest bs = record {
  well_served = ((λ e. all_hold 1 bs e), (λ all. none_fails 1 bs all));
  lowest = λ n. ((λ e. lowest_at bs n e), (λ l. at_lowest bs n l));
}
