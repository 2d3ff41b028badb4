-- Names over pointers: what is read stands there, and what stands there is read.
use Rattle.std.proofs.Common.{◌≡◌, ℕ, zero, suc, ◌-◌, ◌<◌, ◌≤◌, cond, eqb, ltb, List, [], ◌∷◌, ◌++◌, length, drop, Result, Ok, Err, refl, sym, ap, subst, ◌∙◌, append-nil, inl, inr, arith, length-append, length-drop, ltb-false, le-ltb, ne_eqb, eq-eqb, eqb-true}
use Rattle.std.specs.List.{AllByRecursion}
use Rattle.std.proofs.lemmas.Bool.{cases_eq}
use Rattle.dns_core.specs.NameText.{wire_length}
use Rattle.dns_core.specs.Labels.{IsLabel}
use Rattle.wire_names.specs.Names.{NameAt, run, pointer}
use Rattle.wire_names.specs.Names.NameAt.{whole, led}
use Rattle.wire_names.specs.declared.errors.WireError.{WireError}
use Rattle.wire_names.specs.declared.errors.WireError.TheVariants.{BadPointer, LongName}
use Rattle.wire_names.specs.declared.runs.RunEnd.{RunEnd}
use Rattle.wire_names.specs.declared.runs.RunEnd.TheVariants.{Root, Pointer}
use Rattle.wire_names.specs.Reading.{◌>>=◌, Run, run_of, led_of, whole_of, labels_of}
use Rattle.wire_names.proofs.Binds.{bind_ok, guard_ok, chosen, ok_is}
use Rattle.wire_names.proofs.RunLaws.{IsBytes, IsBytes-drop, RunIs, ending, run_takes, run_again}

-- the labels from a place of the message on, and those to which they lead
abbrev pub from_place : ℕ → List ℕ → Result (List (List ℕ)) WireError
from_place to message = run_of 0 (drop to message) >>= λ x. led_of to message x.1 >>= λ others. Ok (x.0 ++ others)

led_here : (n : ℕ) (message : List ℕ) → led_of (suc n) message (Pointer n) ≡ from_place n message
unfolding led_of
led_here n message = rw (eq-eqb n n refl) refl

pub led_below : (n to : ℕ) (message : List ℕ) → to < n → led_of n message (Pointer to) ≡ from_place to message
unfolding led_of
led_below zero to message lt = absurd (omega (arith, lt))
led_below (suc n) to message lt =
    elim (cases_eq to n) [
      | inl same ↦ subst (λ (k : ℕ). led_of (suc n) message (Pointer k) ≡ from_place k message) (sym same) (led_here n message)
      | inr other ↦ rw (ne_eqb to n other) (led_below n to message (omega (arith, lt, other)))
    ]

pub led_past : (n to : ℕ) (message : List ℕ) → n ≤ to → led_of n message (Pointer to) ≡ Err BadPointer
unfolding led_of
led_past zero to message le = refl
led_past (suc n) to message le = rw (ne_eqb to n (λ e. omega (arith, le, e))) (led_past n to message (omega (arith, le)))

-- ---- what is read stands there

-- where the end of a run leads that began at the place n
abbrev pub LedTo : List ℕ → ℕ → RunEnd → List (List ℕ) → Type 0
LedTo message n Root others = others ≡ []
LedTo message n (Pointer to) others = (after : List ℕ) × (to < n) × NameAt message (drop to message) others after

name_by : (message bytes : List ℕ) (ls : List (List ℕ)) (end : RunEnd) (rest : List ℕ) (others : List (List ℕ)) → RunIs bytes (ls, end, rest) → LedTo message (length message - length bytes) end others → NameAt message bytes (ls ++ others) rest
name_by message bytes ls Root rest others is leads = subst (λ (o : List (List ℕ)). NameAt message bytes (ls ++ o) rest) (sym leads) (subst (λ (k : List (List ℕ)). NameAt message bytes k rest) (sym (append-nil ls)) (whole is.labels is.parts))
name_by message bytes ls (Pointer to) rest others is leads = led ls is.labels is.parts is.is_end leads.1 leads.2

some_bytes : (bytes : List ℕ) (x : Run) → RunIs bytes x → 0 < length bytes
some_bytes bytes x is = rw is.parts (more x.1)
  where
    more : (end : RunEnd) → 0 < length (run x.0 ++ (ending end ++ x.2))
    more Root = omega (arith, length-append (run x.0) (0 ∷ x.2))
    more (Pointer to) = omega (arith, length-append (run x.0) (pointer to ++ x.2))

arrives : (n to : ℕ) (message : List ℕ) (others : List (List ℕ)) → IsBytes message → to ≡ n → ((end : RunEnd) (o : List (List ℕ)) → led_of n message end ≡ Ok o → LedTo message n end o) → from_place n message ≡ Ok others → LedTo message (suc n) (Pointer to) others
arrives n to message others fits same goes_on e =
    let a = bind_ok (run_of 0 (drop n message)) (λ x. led_of n message x.1 >>= λ o. Ok (x.0 ++ o)) others e in
    let b = bind_ok (led_of n message a.0.1) (λ o. Ok (a.0.0 ++ o)) others a.2 in
    let is : RunIs (drop n message) a.0 = run_takes 0 (drop n message) a.0 (omega arith) (IsBytes-drop n message fits) a.1 in
    let place : n ≡ length message - length (drop n message) = omega (arith, length-drop n message, some_bytes (drop n message) a.0 is) in
    let leads : LedTo message (length message - length (drop n message)) a.0.1 b.0 = subst (λ (k : ℕ). LedTo message k a.0.1 b.0) place (goes_on a.0.1 b.0 b.1) in
    let named : NameAt message (drop n message) (a.0.0 ++ b.0) a.0.2 = name_by message (drop n message) a.0.0 a.0.1 a.0.2 b.0 is leads in
    let whole_name : NameAt message (drop n message) others a.0.2 = subst (λ (o : List (List ℕ)). NameAt message (drop n message) o a.0.2) (ok_is (a.0.0 ++ b.0) others b.2) named in
    (a.0.2, omega (arith, same), subst (λ (k : ℕ). NameAt message (drop k message) others a.0.2) (sym same) whole_name)

further : (n to : ℕ) (message : List ℕ) (others : List (List ℕ)) → LedTo message n (Pointer to) others → LedTo message (suc n) (Pointer to) others
further n to message others leads = (leads.0, omega (arith, leads.1), leads.2)

pub led_takes : (n : ℕ) (message : List ℕ) (end : RunEnd) (others : List (List ℕ)) → IsBytes message → led_of n message end ≡ Ok others → LedTo message n end others
unfolding led_of
led_takes n message Root others fits e = sym (ok_is [] others e)
led_takes zero message (Pointer to) others fits e = absurd cc
led_takes (suc n) message (Pointer to) others fits e =
    elim (chosen (eqb to n) _ _ _ e) [
      | inl here ↦ arrives n to message others fits (eqb-true to n here.0) (λ end o given. led_takes n message end o fits given) here.1
      | inr other ↦ further n to message others (led_takes n message (Pointer to) others fits other.1)
    ]

pub whole_takes : (message bytes : List ℕ) (x : List (List ℕ) × List ℕ) → IsBytes message → IsBytes bytes → whole_of message bytes ≡ Ok x → NameAt message bytes x.0 x.1
whole_takes message bytes x fits these e =
    let a = bind_ok (run_of 0 bytes) (λ y. led_of (length message - length bytes) message y.1 >>= λ o. Ok (y.0 ++ o, y.2)) x e in
    let b = bind_ok (led_of (length message - length bytes) message a.0.1) (λ o. Ok (a.0.0 ++ o, a.0.2)) x a.2 in
    let is : RunIs bytes a.0 = run_takes 0 bytes a.0 (omega arith) these a.1 in
    let named = name_by message bytes a.0.0 a.0.1 a.0.2 b.0 is (led_takes (length message - length bytes) message a.0.1 b.0 fits b.1) in
    subst (λ (y : List (List ℕ) × List ℕ). NameAt message bytes y.0 y.1) (ok_is (a.0.0 ++ b.0, a.0.2) x b.2) named

pub labels_take : (message bytes : List ℕ) (x : List (List ℕ) × List ℕ) → IsBytes message → IsBytes bytes → labels_of message bytes ≡ Ok x → NameAt message bytes x.0 x.1 × (wire_length x.0 ≤ 255)
unfolding labels_of
labels_take message bytes x fits these e =
    let a = bind_ok (whole_of message bytes) (λ y. cond (ltb 255 (wire_length y.0)) (Err LongName) (Ok y)) x e in
    let g = guard_ok (ltb 255 (wire_length a.0.0)) LongName (Ok a.0) x a.2 in
    let same = ok_is a.0 x g.1 in
    subst (λ (y : List (List ℕ) × List ℕ). NameAt message bytes y.0 y.1 × (wire_length y.0 ≤ 255)) same (whole_takes message bytes a.0 fits these a.1, ltb-false 255 (wire_length a.0.0) g.0)

-- ---- what stands there is read

root_leads : (n : ℕ) (message : List ℕ) → led_of n message Root ≡ Ok []
unfolding led_of
root_leads n message = refl

whole_again : (message bytes : List ℕ) (labels : List (List ℕ)) (rest : List ℕ) → AllByRecursion IsLabel labels → bytes ≡ run labels ++ 0 ∷ rest → whole_of message bytes ≡ Ok (labels, rest)
whole_again message bytes labels rest good parts =
    let read : run_of 0 bytes ≡ Ok (labels, Root, rest) = ap (run_of 0) parts ∙ run_again labels Root rest good tt in
    rw (read, root_leads) (ap (λ (k : List (List ℕ)). Ok (k, rest)) (append-nil labels))

pub led_on : (message bytes : List ℕ) (first others : List (List ℕ)) (rest after : List ℕ) (to : ℕ)
    → run_of 0 bytes ≡ Ok (first, Pointer to, rest) → to < length message - length bytes
    → whole_of message (drop to message) ≡ Ok (others, after) → whole_of message bytes ≡ Ok (first ++ others, rest)
led_on message bytes first others rest after to read below again =
    let a = bind_ok (run_of 0 (drop to message)) (λ y. led_of (length message - length (drop to message)) message y.1 >>= λ o. Ok (y.0 ++ o, y.2)) (others, after) again in
    let b = bind_ok (led_of (length message - length (drop to message)) message a.0.1) (λ o. Ok (a.0.0 ++ o, a.0.2)) (others, after) a.2 in
    let place : length message - length (drop to message) ≡ to = omega (arith, length-drop to message, below) in
    let then_led : led_of to message a.0.1 ≡ Ok b.0 = ap (λ (k : ℕ). led_of k message a.0.1) (sym place) ∙ b.1 in
    let sum : a.0.0 ++ b.0 ≡ others = ap (λ (y : List (List ℕ) × List ℕ). y.0) (ok_is (a.0.0 ++ b.0, a.0.2) (others, after) b.2) in
    let from : from_place to message ≡ Ok others = rw (a.1, then_led) (ap (λ (k : List (List ℕ)). Ok k) sum) in
    let leads : led_of (length message - length bytes) message (Pointer to) ≡ Ok others = led_below (length message - length bytes) to message below ∙ from in
    rw (read, leads) refl

led_again : (message bytes : List ℕ) (first others : List (List ℕ)) (rest after : List ℕ) (to : ℕ)
    → AllByRecursion IsLabel first → bytes ≡ run first ++ (pointer to ++ rest) → to < 16384 → to < length message - length bytes
    → whole_of message (drop to message) ≡ Ok (others, after) → whole_of message bytes ≡ Ok (first ++ others, rest)
led_again message bytes first others rest after to good parts low below again =
    led_on message bytes first others rest after to (ap (run_of 0) parts ∙ run_again first (Pointer to) rest good low) below again

pub name_again : {message bytes : List ℕ} {labels : List (List ℕ)} {rest : List ℕ} → NameAt message bytes labels rest → whole_of message bytes ≡ Ok (labels, rest)
name_again {message} (whole {bytes} {labels} {rest} good parts) = whole_again message bytes labels rest good parts
name_again {message} (led {bytes} first {others} {rest} {after} {to} good parts low below more) = led_again message bytes first others rest after to good parts low below (name_again more)

pub labels_again : (message bytes : List ℕ) (labels : List (List ℕ)) (rest : List ℕ) → NameAt message bytes labels rest → wire_length labels ≤ 255 → labels_of message bytes ≡ Ok (labels, rest)
unfolding labels_of
labels_again message bytes labels rest named few = rw (name_again named, le-ltb 255 (wire_length labels) few) refl
