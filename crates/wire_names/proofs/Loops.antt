-- Reading labels one after the other, and runs one after the other, as loops do.
use Rattle.std.proofs.Common.{◌≡◌, ℕ, ◌<◌, ◌≤◌, false, not, cond, ltb, List, [], ◌∷◌, ◌++◌, length, take, drop, Result, Ok, Err, refl, sym, ap, subst, ◌∙◌, append_assoc, append-nil, arith, ltb-false, le-ltb, lt-ltb, ne_eqb}
use Rattle.std.specs.List.{list_all}
use Rattle.dns_core.specs.NameText.{is_allowed}
use Rattle.wire_names.specs.declared.errors.WireError.{WireError}
use Rattle.wire_names.specs.declared.errors.WireError.TheVariants.{Short, BadLabel, BadPointer, BadByte, LongName, BadData, BadOpt, Trailing, NoMemory}
use Rattle.wire_names.specs.declared.runs.RunEnd.{RunEnd}
use Rattle.wire_names.specs.declared.runs.RunEnd.TheVariants.{Root, Pointer}
use Rattle.wire_names.specs.Reading.{◌>>=◌, Fails, Run, Gives, label_of, end_of, run_of, led_of, with_front, joined}
use Rattle.wire_names.proofs.Binds.{bind_ok, guard_ok, done, ok_is}
use Rattle.wire_names.proofs.RunLaws.{skipped}
use Rattle.wire_names.proofs.Pointers.{from_place, led_below}

-- what fails goes on failing
pub fails_on : {A B : Type 0} (e : WireError) (r : Result A WireError) (f : A → Result B WireError) → Fails e r → Fails e (r >>= f)
fails_on NoMemory r f h = tt
fails_on Short r f h = rw h refl
fails_on BadLabel r f h = rw h refl
fails_on BadPointer r f h = rw h refl
fails_on BadByte r f h = rw h refl
fails_on LongName r f h = rw h refl
fails_on BadData r f h = rw h refl
fails_on BadOpt r f h = rw h refl
fails_on Trailing r f h = rw h refl

pub fails_as : {A : Type 0} (e : WireError) (r s : Result A WireError) → r ≡ s → Fails e r → Fails e s
fails_as {A = A} e r s same h = subst (λ (x : Result A WireError). Fails e x) same h

-- ---- a label at the front

at_label : (count : ℕ) (bytes : List ℕ) → 0 < count → count < 64 → run_of 0 (count ∷ bytes) ≡ (label_of count bytes >>= λ l. run_of count bytes >>= λ x. Ok (l.0 ∷ x.0, x.1, x.2))
unfolding run_of
at_label count bytes some few = rw (ne_eqb count 0 (λ e. omega (arith, some, e)), lt-ltb count 64 few) refl

label_is : (count : ℕ) (bytes : List ℕ) (l : List ℕ × List ℕ) → label_of count bytes ≡ Ok l → (count ≤ length bytes) × (drop count bytes ≡ l.1)
label_is count bytes l e =
    let g = guard_ok (ltb (length bytes) count) Short (cond (not (list_all (is_allowed false) (take count bytes))) (Err BadByte) (Ok (take count bytes, drop count bytes))) l e in
    let h = guard_ok (not (list_all (is_allowed false) (take count bytes))) BadByte (Ok (take count bytes, drop count bytes)) l g.1 in
    (ltb-false (length bytes) count g.0, ap (λ (x : List ℕ × List ℕ). x.1) (ok_is (take count bytes, drop count bytes) l h.1))

regroup : (front : List (List ℕ)) (l : List ℕ) (r : Result Run WireError) → with_front front (r >>= λ x. Ok (l ∷ x.0, x.1, x.2)) ≡ with_front (front ++ l ∷ []) r
regroup front l (Ok x) = ap (λ (ls : List (List ℕ)). Ok (ls, x.1, x.2)) (sym (append_assoc front (l ∷ []) x.0))
regroup front l (Err e) = refl

pub label_on : (front : List (List ℕ)) (count : ℕ) (bytes : List ℕ) (l after : List ℕ) → 0 < count → count < 64 → label_of count bytes ≡ Ok (l, after) → with_front front (run_of 0 (count ∷ bytes)) ≡ with_front (front ++ l ∷ []) (run_of 0 after)
label_on front count bytes l after some few e =
    let is = label_is count bytes (l, after) e in
    let next : run_of count bytes ≡ run_of 0 after = skipped count bytes is.0 ∙ ap (run_of 0) is.1 in
    let one : run_of 0 (count ∷ bytes) ≡ (run_of 0 after >>= λ x. Ok (l ∷ x.0, x.1, x.2)) = at_label count bytes some few ∙ rw (e, next) refl in
    ap (with_front front) one ∙ regroup front l (run_of 0 after)

pub label_fails : (e : WireError) (front : List (List ℕ)) (count : ℕ) (bytes : List ℕ) → 0 < count → count < 64 → Fails e (label_of count bytes) → Fails e (with_front front (run_of 0 (count ∷ bytes)))
label_fails e front count bytes some few h =
    let deep = fails_on e (label_of count bytes) (λ l. run_of count bytes >>= λ x. Ok (l.0 ∷ x.0, x.1, x.2)) h in
    fails_on e (run_of 0 (count ∷ bytes)) (λ x. Ok (front ++ x.0, x.1, x.2)) (fails_as e _ (run_of 0 (count ∷ bytes)) (sym (at_label count bytes some few)) deep)

-- ---- the other ends of the loop

pub at_end : (front : List (List ℕ)) → with_front front (run_of 0 []) ≡ Err Short
unfolding run_of
at_end front = refl

pub at_root : (front : List (List ℕ)) (after : List ℕ) → with_front front (run_of 0 (0 ∷ after)) ≡ Ok (front, Root, after)
unfolding run_of
at_root front after = ap (λ (ls : List (List ℕ)). Ok (ls, Root, after)) (append-nil front)

at_high : (b : ℕ) (bytes : List ℕ) → 64 ≤ b → run_of 0 (b ∷ bytes) ≡ end_of b bytes
unfolding run_of
at_high b bytes ge = rw (ne_eqb b 0 (λ e. omega (arith, ge, e)), le-ltb b 64 ge) refl

-- the same as an end behind labels that were read
pub end_given : {X : Type 0} (view : X → RunEnd × List ℕ) (r : Result X WireError) (front : List (List ℕ)) (b : ℕ) (bytes : List ℕ) → 64 ≤ b → Gives (λ x. ([], (view x).0, (view x).1)) r (end_of b bytes) → Gives (λ x. (front, (view x).0, (view x).1)) r (with_front front (run_of 0 (b ∷ bytes)))
end_given view (Ok x) front b bytes ge given = ap (with_front front) (at_high b bytes ge ∙ given) ∙ ap (λ (ls : List (List ℕ)). Ok (ls, (view x).0, (view x).1)) (append-nil front)
end_given view (Err e) front b bytes ge given = fails_on e (run_of 0 (b ∷ bytes)) (λ x. Ok (front ++ x.0, x.1, x.2)) (fails_as e (end_of b bytes) (run_of 0 (b ∷ bytes)) (sym (at_high b bytes ge)) given)

-- ---- a pointer

pub root_on : (front : List (List ℕ)) (n : ℕ) (message : List ℕ) → joined front (led_of n message Root) ≡ Ok front
unfolding led_of
root_on front n message = ap (λ (ls : List (List ℕ)). Ok ls) (append-nil front)

front_ok : (front new : List (List ℕ)) (end : RunEnd) (rest : List ℕ) (r : Result Run WireError) → with_front front r ≡ Ok (new, end, rest) → (x : Run) × (r ≡ Ok x) × (front ++ x.0 ≡ new) × (x.1 ≡ end)
front_ok front new end rest r e =
    let a = bind_ok r (λ x. Ok (front ++ x.0, x.1, x.2)) (new, end, rest) e in
    let same = ok_is (front ++ a.0.0, a.0.1, a.0.2) (new, end, rest) a.2 in
    (a.0, a.1, ap (λ (x : Run). x.0) same, ap (λ (x : Run). x.1) same)

deeper : (front ls : List (List ℕ)) (r : Result (List (List ℕ)) WireError) → joined front (r >>= λ o. Ok (ls ++ o)) ≡ joined (front ++ ls) r
deeper front ls (Ok o) = ap (λ (k : List (List ℕ)). Ok k) (sym (append_assoc front ls o))
deeper front ls (Err e) = refl

pub pointer_on : (front new : List (List ℕ)) (before to : ℕ) (message : List ℕ) (next : RunEnd) (rest : List ℕ) → to < before → with_front front (run_of 0 (drop to message)) ≡ Ok (new, next, rest) → joined front (led_of before message (Pointer to)) ≡ joined new (led_of to message next)
pointer_on front new before to message next rest lt e =
    let f = front_ok front new next rest (run_of 0 (drop to message)) e in
    let place : led_of before message (Pointer to) ≡ (led_of to message f.0.1 >>= λ o. Ok (f.0.0 ++ o)) = led_below before to message lt ∙ ap (λ (r : Result Run WireError). r >>= λ x. led_of to message x.1 >>= λ o. Ok (x.0 ++ o)) f.1 in
    ap (joined front) place ∙ deeper front f.0.0 (led_of to message f.0.1) ∙ ap (λ (k : List (List ℕ)). joined k (led_of to message f.0.1)) f.2 ∙ ap (λ (k : RunEnd). joined new (led_of to message k)) f.3

-- what was read is no failure
ok_fails : {A B : Type 0} (e : WireError) (x : A) (r : Result B WireError) → Fails e (done x) → Fails e r
ok_fails NoMemory x r h = tt
ok_fails Short x r h = absurd cc
ok_fails BadLabel x r h = absurd cc
ok_fails BadPointer x r h = absurd cc
ok_fails BadByte x r h = absurd cc
ok_fails LongName x r h = absurd cc
ok_fails BadData x r h = absurd cc
ok_fails BadOpt x r h = absurd cc
ok_fails Trailing x r h = absurd cc

-- a run that fails does so whatever stands before it
unfront : (e : WireError) (front : List (List ℕ)) (r : Result Run WireError) → Fails e (with_front front r) → Fails e r
unfront e front (Ok x) h = ok_fails e (front ++ x.0, x.1, x.2) (Ok x) h
unfront e front (Err d) h = h

pub pointer_fails : (e : WireError) (front : List (List ℕ)) (before to : ℕ) (message : List ℕ) → to < before → Fails e (with_front front (run_of 0 (drop to message))) → Fails e (joined front (led_of before message (Pointer to)))
pointer_fails e front before to message lt h =
    let deep = fails_on e (run_of 0 (drop to message)) (λ x. led_of to message x.1 >>= λ o. Ok (x.0 ++ o)) (unfront e front (run_of 0 (drop to message)) h) in
    fails_on e (led_of before message (Pointer to)) (λ o. Ok (front ++ o)) (fails_as e (from_place to message) (led_of before message (Pointer to)) (sym (led_below before to message lt)) deep)
