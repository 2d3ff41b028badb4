-- Items that are read one after the other, as loops do.
use Rattle.std.proofs.Common.{◌≡◌, ℕ, zero, suc, ◌-◌, ◌<◌, List, [], ◌∷◌, ◌++◌, Ok, Err, refl, sym, ap, ◌∙◌, arith, append_assoc, append-nil}
use Rattle.std.specs.Option.{is_some}
use Rattle.dns_core.specs.declared.record.Record.{Record}
use Rattle.wire_names.specs.Reading.{◌>>=◌, Fails}
use Rattle.wire_names.specs.declared.errors.WireError.{WireError}
use Rattle.wire_names.proofs.Loops.{fails_on}
use Rattle.wire_records.specs.Numbers.{Read}
use Rattle.wire_records.specs.Reading.{extra_of}
use Rattle.wire_records.specs.Records.{plain_of}
use Rattle.wire_records.specs.Sections.{in_turn, with_items, Told, told_after, extras_of, with_records}
use Rattle.wire_records.specs.declared.edns.Extra.{Extra}

one_less : (n : ℕ) → suc n - 1 ≡ n
one_less n = omega arith

pub turn_begins : {X : Type 0} (read : Read (List X)) → with_items [] read ≡ read
turn_begins (Ok x) = refl
turn_begins (Err e) = refl

pub turns_done : {X : Type 0} (read : List ℕ → List ℕ → Read X) (front : List X) (left : ℕ) (message bytes : List ℕ) → left ≡ 0 → with_items front (in_turn read left message bytes) ≡ Ok (front, bytes)
unfolding in_turn
turns_done read front zero message bytes done = ap (λ (xs : List _). Ok (xs, bytes)) (append-nil front)
turns_done read front (suc left) message bytes done = absurd (omega (arith, done))

regrouped : {X : Type 0} (front : List X) (x : X) (read : Read (List X)) → with_items front (read >>= λ xs. Ok (x ∷ xs.0, xs.1)) ≡ with_items (front ++ x ∷ []) read
regrouped front x (Ok xs) = ap (λ (ys : List _). Ok (ys, xs.1)) (sym (append_assoc front (x ∷ []) xs.0))
regrouped front x (Err e) = refl

pub turn_on : {X : Type 0} (read : List ℕ → List ℕ → Read X) (front : List X) (left : ℕ) (message bytes after : List ℕ) (x : X) → 0 < left → read message bytes ≡ Ok (x, after)
    → with_items front (in_turn read left message bytes) ≡ with_items (front ++ x ∷ []) (in_turn read (left - 1) message after)
unfolding in_turn
turn_on read front zero message bytes after x some e = absurd (omega (arith, some))
turn_on {X} read front (suc left) message bytes after x some e =
    let tail : X × List ℕ → Read (List X) = λ y. in_turn read left message y.1 >>= λ ys. Ok (y.0 ∷ ys.0, ys.1) in
    ap (λ (r : Read X). with_items front (r >>= tail)) e ∙ regrouped front x (in_turn read left message after) ∙ ap (λ (k : ℕ). with_items (front ++ x ∷ []) (in_turn read k message after)) (sym (one_less left))

pub turn_fails : {X : Type 0} (e : WireError) (read : List ℕ → List ℕ → Read X) (front : List X) (left : ℕ) (message bytes : List ℕ) → 0 < left → Fails e (read message bytes) → Fails e (with_items front (in_turn read left message bytes))
unfolding in_turn
turn_fails e read front zero message bytes some h = absurd (omega (arith, some))
turn_fails {X} e read front (suc left) message bytes some h =
    let tail : X × List ℕ → Read (List X) = λ y. in_turn read left message y.1 >>= λ ys. Ok (y.0 ∷ ys.0, ys.1) in
    fails_on e (read message bytes >>= tail) (λ xs. Ok (front ++ xs.0, xs.1)) (fails_on e (read message bytes) tail h)

-- ---- the additional section

pub extras_begin : (read : Read (List Record × Told)) → with_records [] read ≡ read
extras_begin (Ok x) = refl
extras_begin (Err e) = refl

pub extras_done : (front : List Record) (left : ℕ) (told : Told) (message bytes : List ℕ) → left ≡ 0 → with_records front (extras_of left told message bytes) ≡ Ok ((front, told), bytes)
unfolding extras_of
extras_done front zero told message bytes done = ap (λ (xs : List Record). Ok ((xs, told), bytes)) (append-nil front)
extras_done front (suc left) told message bytes done = absurd (omega (arith, done))

extras_regrouped : (front more : List Record) (read : Read (List Record × Told)) → with_records front (read >>= λ xs. Ok ((more ++ xs.0.0, xs.0.1), xs.1)) ≡ with_records (front ++ more) read
extras_regrouped front more (Ok xs) = ap (λ (ys : List Record). Ok ((ys, xs.0.1), xs.1)) (sym (append_assoc front more xs.0.0))
extras_regrouped front more (Err e) = refl

abbrev extras_tail : ℕ → Told → List ℕ → Extra × List ℕ → Read (List Record × Told)
extras_tail left told message x = extras_of left (told_after told x.0) message x.1 >>= λ xs. Ok ((plain_of x.0 ++ xs.0.0, xs.0.1), xs.1)

pub extra_on : (front : List Record) (left : ℕ) (told : Told) (message bytes after : List ℕ) (x : Extra) → 0 < left → extra_of (is_some told) message bytes ≡ Ok (x, after)
    → with_records front (extras_of left told message bytes) ≡ with_records (front ++ plain_of x) (extras_of (left - 1) (told_after told x) message after)
unfolding extras_of
extra_on front zero told message bytes after x some e = absurd (omega (arith, some))
extra_on front (suc left) told message bytes after x some e =
    ap (λ (r : Read Extra). with_records front (r >>= extras_tail left told message)) e ∙ extras_regrouped front (plain_of x) (extras_of left (told_after told x) message after)
    ∙ ap (λ (k : ℕ). with_records (front ++ plain_of x) (extras_of k (told_after told x) message after)) (sym (one_less left))

pub extra_fails : (e : WireError) (front : List Record) (left : ℕ) (told : Told) (message bytes : List ℕ) → 0 < left → Fails e (extra_of (is_some told) message bytes) → Fails e (with_records front (extras_of left told message bytes))
unfolding extras_of
extra_fails e front zero told message bytes some h = absurd (omega (arith, some))
extra_fails e front (suc left) told message bytes some h =
    fails_on e (extra_of (is_some told) message bytes >>= extras_tail left told message) (λ xs. Ok ((front ++ xs.0.0, xs.0.1), xs.1)) (fails_on e (extra_of (is_some told) message bytes) (extras_tail left told message) h)
