-- What a name says of its labels and of what follows it, and what names that are only pointers say.
use Rattle.std.proofs.Common.{◌≡◌, ℕ, ◌-◌, ◌<◌, ◌≤◌, true, false, cond, ltb, List, [], ◌∷◌, ◌++◌, length, drop, Result, Ok, Err, refl, sym, ap, subst, ◌∙◌, append_assoc, inl, inr, arith, length-drop}
use Rattle.std.specs.List.{AllByRecursion}
use Rattle.std.proofs.lemmas.Bool.{cases_lt}
use Rattle.dns_core.specs.Labels.{IsLabel, AreLabels}
use Rattle.dns_core.specs.Name.{DomainName}
use Rattle.dns_core.specs.NameText.{wire_length}
use Rattle.wire_names.specs.Kept.{IsRest, IsReadAt}
use Rattle.wire_names.specs.Names.{NameAt, IsName, run, pointer}
use Rattle.wire_names.specs.Names.NameAt.{whole, led}
use Rattle.wire_names.specs.Reading.{◌>>=◌, Run, run_of, led_of, whole_of, labels_of, name_of}
use Rattle.wire_names.specs.declared.errors.WireError.{WireError}
use Rattle.wire_names.specs.declared.errors.WireError.TheVariants.{BadPointer, LongName}
use Rattle.wire_names.specs.declared.runs.RunEnd.{RunEnd}
use Rattle.wire_names.specs.declared.runs.RunEnd.TheVariants.{Pointer}
use Rattle.wire_names.proofs.Binds.{bind_ok, guard_ok, ok_is}
use Rattle.wire_names.proofs.Pointers.{from_place, led_below, led_past, led_on, labels_take, labels_again}
use Rattle.wire_names.proofs.Rests.{rest_on}
use Rattle.wire_names.proofs.RunLaws.{IsBytes}

-- ---- labels

labels_after : (first others : List (List ℕ)) → AllByRecursion IsLabel first → AllByRecursion IsLabel others → AllByRecursion IsLabel (first ++ others)
labels_after [] others h k = k
labels_after (l ∷ ls) others h k = (h.0, labels_after ls others h.1 k)

pub labels_at : {message bytes : List ℕ} {labels : List (List ℕ)} {rest : List ℕ} → NameAt message bytes labels rest → AllByRecursion IsLabel labels
labels_at (whole good parts) = good
labels_at (led first {others} good parts low below more) = labels_after first others good (labels_at more)

-- ---- what follows a name

pub front_of : {message bytes : List ℕ} {labels : List (List ℕ)} {rest : List ℕ} → NameAt message bytes labels rest → (front : List ℕ) × (bytes ≡ front ++ rest)
front_of (whole {bytes} {labels} {rest} good parts) = (run labels ++ 0 ∷ [], parts ∙ sym (append_assoc (run labels) (0 ∷ []) rest))
front_of (led {bytes} first {others} {rest} {after} {to} good parts low below more) = (run first ++ pointer to, parts ∙ sym (append_assoc (run first) (pointer to) rest))

pub rest_of_name : (message bytes : List ℕ) (labels : List (List ℕ)) (rest : List ℕ) → IsRest message bytes → NameAt message bytes labels rest → IsRest message rest
rest_of_name message bytes labels rest is named = let front = front_of named in rest_on message bytes front.0 rest is front.1

-- ---- names as they are read

abbrev as_name : List (List ℕ) → DomainName
as_name labels = record { labels = labels; fqdn = true }

pub name_found : (message bytes : List ℕ) (name : DomainName) (rest : List ℕ) → IsBytes message → IsBytes bytes → name_of message bytes ≡ Ok (name, rest) → IsName message bytes name rest
name_found message bytes name rest fits these e =
    let a = bind_ok (labels_of message bytes) (λ x. Ok (as_name x.0, x.1)) (name, rest) e in
    let same : (as_name a.0.0, a.0.1) ≡ (name, rest) = ok_is (as_name a.0.0, a.0.1) (name, rest) a.2 in
    let taken = labels_take message bytes a.0 fits these a.1 in
    let made : IsName message bytes (as_name a.0.0) a.0.1 = record { named = taken.0; absolute = refl; short = taken.1 } in
    subst (λ (x : DomainName × List ℕ). IsName message bytes x.0 x.1) same made

pub name_again : (message bytes : List ℕ) (name : DomainName) (rest : List ℕ) → IsName message bytes name rest → name_of message bytes ≡ Ok (name, rest)
name_again message bytes name rest is =
    let again = labels_again message bytes name.labels rest is.named is.short in
    let absolute : as_name name.labels ≡ name = rw (← is.absolute) refl in
    rw again (ap (λ (m : DomainName). Ok (m, rest)) absolute)

-- ---- names that are only pointers

labels_by : (message bytes : List ℕ) (labels : List (List ℕ)) (rest : List ℕ) → whole_of message bytes ≡ Ok (labels, rest) → ltb 255 (wire_length labels) ≡ false → labels_of message bytes ≡ Ok (labels, rest)
unfolding labels_of
labels_by message bytes labels rest read short = rw (read, short) refl

labels_parts : (message bytes : List ℕ) (x : List (List ℕ) × List ℕ) → labels_of message bytes ≡ Ok x → (whole_of message bytes ≡ Ok x) × (ltb 255 (wire_length x.0) ≡ false)
unfolding labels_of
labels_parts message bytes x e =
    let a = bind_ok (whole_of message bytes) (λ y. cond (ltb 255 (wire_length y.0)) (Err LongName) (Ok y)) x e in
    let g = guard_ok (ltb 255 (wire_length a.0.0)) LongName (Ok a.0) x a.2 in
    let same = ok_is a.0 x g.1 in
    subst (λ (y : List (List ℕ) × List ℕ). (whole_of message bytes ≡ Ok y) × (ltb 255 (wire_length y.0) ≡ false)) same (a.1, g.0)

-- the labels of a name that was read
parts_of : (message bytes : List ℕ) (name : DomainName) (rest : List ℕ) → name_of message bytes ≡ Ok (name, rest) → (labels : List (List ℕ)) × (whole_of message bytes ≡ Ok (labels, rest)) × (ltb 255 (wire_length labels) ≡ false) × (as_name labels ≡ name)
parts_of message bytes name rest e =
    let a = bind_ok (labels_of message bytes) (λ x. Ok (as_name x.0, x.1)) (name, rest) e in
    let same : (as_name a.0.0, a.0.1) ≡ (name, rest) = ok_is (as_name a.0.0, a.0.1) (name, rest) a.2 in
    let parts = labels_parts message bytes a.0 a.1 in
    let whole_is = parts.0 ∙ ap (λ (x : DomainName × List ℕ). Ok (a.0.0, x.1)) same in
    (a.0.0, whole_is, parts.1, ap (λ (x : DomainName × List ℕ). x.0) same)

name_by : (message bytes : List ℕ) (labels : List (List ℕ)) (name : DomainName) (rest : List ℕ) → whole_of message bytes ≡ Ok (labels, rest) → ltb 255 (wire_length labels) ≡ false → as_name labels ≡ name → name_of message bytes ≡ Ok (name, rest)
name_by message bytes labels name rest read short is = rw (labels_by message bytes labels rest read short) (ap (λ (m : DomainName). Ok (m, rest)) is)

-- such a name is the one to which it leads
pub pointed_name : (message bytes rest : List ℕ) (to : ℕ) (name : DomainName) → run_of 0 bytes ≡ Ok ([], Pointer to, rest) → to < length message - length bytes → IsReadAt message to name → name_of message bytes ≡ Ok (name, rest)
pointed_name message bytes rest to name read below kept =
    let p = parts_of message (drop to message) name kept.0 kept.1 in
    name_by message bytes p.0 name rest (led_on message bytes [] p.0 rest kept.0 to read below p.1) p.2 p.3

-- and the one to which it leads is read there
led_to : (message : List ℕ) (before to : ℕ) (others : List (List ℕ)) → led_of before message (Pointer to) ≡ Ok others → (to < before) × (from_place to message ≡ Ok others)
led_to message before to others e = elim (cases_lt to before) [
  | inl below ↦ (below, sym (led_below before to message below) ∙ e)
  | inr past ↦ absurd (fault (sym (led_past before to message past) ∙ e))
]
  where
    fault : Err BadPointer ≡ Ok others → ⊥
    fault h = cc

both_read : (r : Result Run WireError) (lead : RunEnd → Result (List (List ℕ)) WireError) (x : Run) (others : List (List ℕ)) → r ≡ Ok x → lead x.1 ≡ Ok others → (let read : Result (List (List ℕ) × List ℕ) WireError = r >>= λ y. lead y.1 >>= λ o. Ok (y.0 ++ o, y.2) in read) ≡ Ok (x.0 ++ others, x.2)
both_read r lead x others e f = rw (e, f) refl

whole_there : (message : List ℕ) (to : ℕ) (others : List (List ℕ)) → to ≤ length message → from_place to message ≡ Ok others → (after : List ℕ) × (whole_of message (drop to message) ≡ Ok (others, after))
whole_there message to others within e =
    let a = bind_ok (run_of 0 (drop to message)) (λ x. led_of to message x.1 >>= λ o. Ok (x.0 ++ o)) others e in
    let b = bind_ok (led_of to message a.0.1) (λ o. Ok (a.0.0 ++ o)) others a.2 in
    let place : to ≡ length message - length (drop to message) = omega (arith, length-drop to message, within) in
    let then_led : led_of (length message - length (drop to message)) message a.0.1 ≡ Ok b.0 = ap (λ (k : ℕ). led_of k message a.0.1) (sym place) ∙ b.1 in
    let sum = ok_is (a.0.0 ++ b.0) others b.2 in
    (a.0.2, both_read (run_of 0 (drop to message)) (led_of (length message - length (drop to message)) message) a.0 b.0 a.1 then_led ∙ ap (λ (k : List (List ℕ)). Ok (k, a.0.2)) sum)

pub read_there : (message bytes rest after : List ℕ) (to : ℕ) (name : DomainName) → run_of 0 bytes ≡ Ok ([], Pointer to, rest) → name_of message bytes ≡ Ok (name, after) → IsReadAt message to name
read_there message bytes rest after to name read e =
    let p = parts_of message bytes name after e in
    let before : ℕ = length message - length bytes in
    let tail : Run → Result (List (List ℕ) × List ℕ) WireError = λ y. led_of before message y.1 >>= λ o. Ok (y.0 ++ o, y.2) in
    let a = bind_ok (run_of 0 bytes) tail (p.0, after) p.1 in
    let run_is : a.0 ≡ ([], Pointer to, rest) = ok_is a.0 ([], Pointer to, rest) (sym a.1 ∙ read) in
    let led_is = sym (ap tail run_is) ∙ a.2 in
    let behind : List (List ℕ) → Result (List (List ℕ) × List ℕ) WireError = λ o. Ok ([] ++ o, rest) in
    let b = bind_ok (led_of before message (Pointer to)) behind (p.0, after) led_is in
    let same : b.0 ≡ p.0 = ap (λ (y : List (List ℕ) × List ℕ). y.0) (ok_is (b.0, rest) (p.0, after) b.2) in
    let t = led_to message before to b.0 b.1 in
    let low : to < before = t.0 in
    let w = whole_there message to p.0 (omega (arith, low)) (t.1 ∙ ap (λ (k : List (List ℕ)). Ok k) same) in
    (w.0, name_by message (drop to message) p.0 name w.0 w.1 p.2 p.3)

-- ---- labels of a name that is read

pub labels_fit : (message bytes : List ℕ) (labels : List (List ℕ)) (rest : List ℕ) → IsBytes message → IsBytes bytes → labels_of message bytes ≡ Ok (labels, rest) → AreLabels labels
labels_fit message bytes labels rest fits these e =
    let taken = labels_take message bytes (labels, rest) fits these e in
    record { each = labels_at taken.0; short = taken.1 }
