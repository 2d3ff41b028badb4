-- Runs of lookups: with their servers in another order, at a later moment, and by entries of a log; and answers that count as they are.
use Rattle.std.proofs.Common.{◌≡◌, ℕ, suc, ◌≤◌, Bool, true, false, not, ◌||◌, cond, List, [], ◌∷◌, find, length, Option, Some, None, refl, ap, subst, arith}
use Rattle.std.specs.Prelude.{◌==◌}
use Rattle.std.specs.List.{list_all, AllByRecursion}
use Rattle.std.specs.List.Sorted.{IsPermutation}
use Rattle.std.proofs.lemmas.Bool.{and_parts}
use Rattle.std.proofs.lemmas.Option.{same_Some}
use Rattle.std.proofs.lemmas.List.Elements.{All-from_recursion, recursion_from_All}
use Rattle.std.proofs.lemmas.List.Sorted.{All-permutation}
use Rattle.std.specs.declared.net.ip_addr.IpAddr.{IpAddr}
use Rattle.dns_core.specs.Log.{Log}
use Rattle.dns_core.specs.declared.message.Query.{Query}
use Rattle.dns_core.specs.declared.message.Message.{Message}
use Rattle.dns_core.specs.declared.record.Record.{Record}
use Rattle.dns_core.specs.declared.log.ToldOutcome.{ToldOutcome}
use Rattle.dns_core.specs.Classifying.{no_records}
use Rattle.resolution.specs.Class.{class_of, class_of_message, has_no_data_for, is_foreign}
use Rattle.resolution.specs.Records.{records}
use Rattle.recursor_types.specs.declared.policy.Policy.{Policy}
use Rattle.resolution.specs.Lookups.{Answered, End, Rules, PoolRun}
use Rattle.resolution.specs.Lookups.PoolRun.{decided, spent, late}
use Rattle.resolution.specs.Ending.{EndSends}
use Rattle.resolution.specs.Ending.EndSends.{no_send, and_send}
use Rattle.resolution.specs.declared.class.Class.{Class}
use Rattle.resolution.specs.declared.class.Class.TheVariants.{Code, Truncated, Negative, Foreign, Positive}
use Rattle.resolution.proofs.Caseless.{both}
use Rattle.resolution.proofs.NoAddressIsInvented.{class_of-positive}

-- ---- whole answers

-- an answer is not cut, and has no record of another class
whole_by : (q : Query) (m m' : Message) (code cut bare : Bool) (o : Option Record)
    → cond code (Code m.response_code) (cond cut Truncated (cond bare (Negative (no_records m)) (elim o [ Some r ↦ Foreign r | None ↦ Positive m ]))) ≡ Positive m' → (cut ≡ false) × (o ≡ None)
whole_by q m m' true cut bare o e = cc
whole_by q m m' false true bare o e = cc
whole_by q m m' false false true o e = cc
whole_by q m m' false false false (Some r) e = cc
whole_by q m m' false false false None e = (refl, refl)

pub answer_whole : (outcome : ToldOutcome) (q : Query) (m : Message) → class_of outcome q ≡ Some (Positive m) → (m.truncation ≡ false) × (find (is_foreign q) (records m) ≡ None)
answer_whole outcome q m is =
    let told : class_of_message m q ≡ Positive m = same_Some _ _ (subst (λ (o : ToldOutcome). class_of o q ≡ Some (Positive m)) (class_of-positive outcome q m is) is) in
    whole_by q m m (not (m.response_code.code == 0 || m.response_code.code == 3)) m.truncation (has_no_data_for q m) (find (is_foreign q) (records m)) told

-- ---- the servers in another order

passes : {X : Type 0} (p : X → Bool) (xs : List X) → list_all p xs ≡ true → AllByRecursion (λ x. p x ≡ true) xs
passes p [] h = tt
passes p (x ∷ xs) h = let b = and_parts (p x) (list_all p xs) h in (b.0, passes p xs b.1)

passed : {X : Type 0} (p : X → Bool) (xs : List X) → AllByRecursion (λ x. p x ≡ true) xs → list_all p xs ≡ true
passed p [] a = refl
passed p (x ∷ xs) a = both (p x) (list_all p xs) a.0 (passed p xs a.1)

all_permuted : {X : Type 0} (p : X → Bool) (xs ys : List X) → IsPermutation xs ys → list_all p xs ≡ true → list_all p ys ≡ true
all_permuted p xs ys same h =
    passed p ys (recursion_from_All (λ x. p x ≡ true) ys (All-permutation (λ x. p x ≡ true) xs ys same (All-from_recursion (λ x. p x ≡ true) xs (passes p xs h))))

-- a lookup at servers is one at the same servers in another order
pub PoolRun-permuted : {S : Type 0} {rules : Rules S} {class : Answered → Class} {ends : List (End S)} {result : Answered} {start now : ℕ} (xs ys : List S) → IsPermutation xs ys
    → PoolRun rules class xs ends result start now → PoolRun rules class ys ends result start now
PoolRun-permuted xs ys same (decided d) = decided d
PoolRun-permuted xs ys same (spent s) =
    spent (record { none = s.none; tried = all_permuted _ xs ys same s.tried; again = s.again; busy = all_permuted _ xs ys same s.busy; answers = s.answers })
PoolRun-permuted xs ys same (late l) = late l

-- what was answered at a moment was so by a later one
pub run_later : {S : Type 0} {rules : Rules S} {class : Answered → Class} {servers : List S} {ends : List (End S)} {result : Answered} {start : ℕ} (now later : ℕ) → now ≤ later
    → PoolRun rules class servers ends result start now → PoolRun rules class servers ends result start later
run_later now later le (decided d) = decided d
run_later now later le (spent s) = spent s
run_later now later le (late l) = late (record { none = l.none; answers = l.answers; reached = let r = l.reached in omega arith; some = l.some })

-- ---- the entries of ends

-- there is one for each end, at one moment
pub sends_length : {policy : Policy} {log : Log} {q : Query} {ips : List IpAddr} {g moments : List ℕ} {ends : List (End IpAddr)} → EndSends policy log q ips g ends moments
    → (length g ≡ length ends) × (length moments ≡ length ends)
sends_length no_send = (refl, refl)
sends_length (and_send s c rest) = let more = sends_length rest in (ap suc more.0, ap suc more.1)
