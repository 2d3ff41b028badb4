-- What stays true of a log when an entry is added.
use Rattle.std.proofs.Common.{◌≡◌, ℕ, zero, suc, ◌+◌, ◌-◌, ◌<◌, ◌≤◌, Bool, false, cond, List, [], ◌∷◌, ◌++◌, length, take, drop, Option, Some, None, slice_get, refl, ap, ◌∙◌, sym, subst, arith, count_by, length-append, length-take}
use Rattle.std.specs.Prelude.{IsSomeAnd, ◌||◌}
use Rattle.std.specs.List.{list_any}
use Rattle.std.proofs.lemmas.List.{take-append-le, take_all, drop-append-le}
use Rattle.std.proofs.lemmas.List.Folds.{list_any-append}
use Rattle.std.proofs.lemmas.Option.{slice_get_within}
use Rattle.std.proofs.Math.ListN.{drop_of_length-le}
use Rattle.std.proofs.lemmas.Grind.{common_steps}
use Rattle.std.proofs.lemmas.Bool.Decides.{nat_tests}
use Rattle.dns_core.specs.Log.{numbered}
use Rattle.dns_core.specs.declared.log.LogEntry.{LogEntry}
use Rattle.dns_core.specs.declared.log.LogEntry.TheVariants.{Opened, Asked, Waited, Told, GaveUp}
use Rattle.script_upstream.specs.Giving.{waits, waits_of, ends, HasNoEnd}
use Rattle.world_upstream.specs.Giving.{Gives, Fits, delay}
use Rattle.zone_rules.specs.declared.world.World.{World}

-- an item of the longer list is one of the shorter, or the new one
slice_get-push : {X : Type 0} (xs : List X) (x y : X) (i : ℕ) (P : Type 0) → slice_get (xs ++ x ∷ []) i ≡ Some y → (slice_get xs i ≡ Some y → i < length xs → P) → (i ≡ length xs → x ≡ y → P) → P
slice_get-push [] x y zero P e old new = new refl cc
slice_get-push [] x y (suc i) P e old new = cc
slice_get-push (z ∷ xs) x y zero P e old new = old e (omega arith)
slice_get-push (z ∷ xs) x y (suc i) P e old new =
    slice_get-push xs x y i P e (λ h b. old h (omega arith)) (λ h g. new (ap suc h) g)

slice_get-front : {X : Type 0} (xs ys : List X) (x : X) (i : ℕ) → slice_get xs i ≡ Some x → slice_get (xs ++ ys) i ≡ Some x
slice_get-front [] ys x i e = cc
slice_get-front (z ∷ xs) ys x zero e = e
slice_get-front (z ∷ xs) ys x (suc i) e = slice_get-front xs ys x i e

pub slice_get-end : {X : Type 0} (xs : List X) (x : X) → slice_get (xs ++ x ∷ []) (length xs) ≡ Some x
slice_get-end [] x = refl
slice_get-end (z ∷ xs) x = slice_get-end xs x

take_front : {X : Type 0} (xs ys : List X) (n : ℕ) → n ≤ length xs → take n (xs ++ ys) ≡ take n xs
take_front xs ys n h = take-append-le n xs ys h

take_whole : {X : Type 0} (xs ys : List X) (n : ℕ) → n ≡ length xs → take n (xs ++ ys) ≡ xs
take_whole xs ys n h = take-append-le n xs ys (omega arith) ∙ take_all n xs (omega arith)

-- a log whose entries fit, and one entry more that fits
pub gives_more : (w : World) (es : List LogEntry) (e : LogEntry) → Gives w es → Fits w es e → Gives w (es ++ e ∷ [])
gives_more w es e g f zero x h = cc
gives_more w es e g f (suc i) x h =
    slice_get-push es e x i (Fits w (take (suc i - 1) (es ++ e ∷ [])) x) h
    (λ old below. subst (λ (t : List LogEntry). Fits w t x) (sym (take_front es (e ∷ []) (suc i - 1) (omega arith))) (g (suc i) x old))
    (λ end same. subst (λ (t : List LogEntry). Fits w t x) (sym (take_whole es (e ∷ []) (suc i - 1) (omega arith))) (subst (λ (y : LogEntry). Fits w es y) same f))

-- the front of a log that the world gives is one
pub gives_front : (w : World) (es more : List LogEntry) → Gives w (es ++ more) → Gives w es
gives_front w es more g zero x h = cc
gives_front w es more g (suc i) x h =
    let below = slice_get_within es i x h in
    subst (λ (t : List LogEntry). Fits w t x) (take_front es more (suc i - 1) (omega arith)) (g (suc i) x (slice_get-front es more x i h))

-- ---- the entry of a number

numbered-front : (es more : List LogEntry) (n : ℕ) (e : LogEntry) → numbered es n ≡ Some e → numbered (es ++ more) n ≡ Some e
numbered-front es more zero e h = cc
numbered-front es more (suc i) e h = slice_get-front es more e i h

numbered-within : (es : List LogEntry) (n : ℕ) (e : LogEntry) → numbered es n ≡ Some e → n ≤ length es
numbered-within es zero e h = omega arith
numbered-within es (suc i) e h = let below = slice_get_within es i e h in omega arith

pub some_within : (es : List LogEntry) (n : ℕ) (P : LogEntry → Type 0) → IsSomeAnd (numbered es n) P → n ≤ length es
some_within es n P h = at (numbered es n) refl h
  where
    at : (o : Option LogEntry) → numbered es n ≡ o → IsSomeAnd o P → n ≤ length es
    at None e h = absurd h
    at (Some x) e h = numbered-within es n x e

pub some_front : (es more : List LogEntry) (n : ℕ) (P Q : LogEntry → Type 0) → IsSomeAnd (numbered es n) P → ((e : LogEntry) → P e → Q e) → IsSomeAnd (numbered (es ++ more) n) Q
some_front es more n P Q h f = at (numbered es n) refl h
  where
    at : (o : Option LogEntry) → numbered es n ≡ o → IsSomeAnd o P → IsSomeAnd (numbered (es ++ more) n) Q
    at None e h = absurd h
    at (Some x) e h = subst (λ (o : Option LogEntry). IsSomeAnd o Q) (sym (numbered-front es more n x e)) (f x h)

-- what holds of a value by two facts
pub some_both : {X : Type 0} (o : Option X) (P Q R : X → Type 0) → IsSomeAnd o P → IsSomeAnd o Q → ((x : X) → P x → Q x → R x) → IsSomeAnd o R
some_both None P Q R p q f = absurd p
some_both (Some x) P Q R p q f = f x p q

-- ---- how often an entry waited

abbrev pub one_if : Bool → ℕ
one_if b = cond b 1 0

pub waits_more : (n : ℕ) (es : List LogEntry) (e : LogEntry) → waits n (es ++ e ∷ []) ≡ waits n es + one_if (waits_of n e)
waits_more n es e = grind (arith, common_steps)

pub waits_same : (n : ℕ) (es : List LogEntry) (e : LogEntry) → waits_of n e ≡ false → waits n (es ++ e ∷ []) ≡ waits n es
waits_same n es e h = let k = ap one_if h in omega (arith, waits_more n es e, k)

-- no entry waits for one that comes after it
unwaited : (w : World) (before : List LogEntry) (n : ℕ) (x : LogEntry) → Fits w before x → length before < n → waits_of n x ≡ false
unwaited w before n (Opened ip protocol moment refused) f h = refl
unwaited w before n (Asked ip protocol q moment refused) f h = refl
unwaited w before n (Told of moment outcome) f h = refl
unwaited w before n (GaveUp of moment) f h = refl
unwaited w before n (Waited of) f h =
    let low = some_within before of (λ e. waits of before < delay w e) f.1 in
    grind (arith, nat_tests)

count_cons : {X : Type 0} (p : X → Bool) (x : X) (xs : List X) → count_by p (x ∷ xs) ≡ one_if (p x) + count_by p xs
count_cons p x xs = grind (arith, common_steps)

count_none : {X : Type 0} (p : X → Bool) (xs : List X) → ((i : ℕ) (x : X) → slice_get xs i ≡ Some x → p x ≡ false) → count_by p xs ≡ 0
count_none p [] h = refl
count_none p (x ∷ xs) h =
    let here = ap one_if (h zero x refl) in
    let rest = count_none p xs (λ i y e. h (suc i) y e) in
    omega (arith, here, rest, count_cons p x xs)

pub waits_none : (w : World) (es : List LogEntry) → Gives w es → waits (suc (length es)) es ≡ 0
waits_none w es g = count_none (waits_of (suc (length es))) es (λ i x e.
    let below = slice_get_within es i x e in
    unwaited w (take (suc i - 1) es) (suc (length es)) x (g (suc i) x e) (omega (arith, length-take (suc i - 1) es)))

-- ---- whether an entry ended

pub first_unended : (es : List LogEntry) (e : LogEntry) → HasNoEnd (suc (length es)) (es ++ e ∷ [])
first_unended es e =
    let past : length (es ++ e ∷ []) ≤ suc (length es) = omega (arith, length-append es (e ∷ [])) in
    ap (list_any (ends (suc (length es)))) (drop_of_length-le (es ++ e ∷ []) past)

pub unended_more : (n : ℕ) (es : List LogEntry) (e : LogEntry) → n ≤ length es → ends n e ≡ false → HasNoEnd n es → HasNoEnd n (es ++ e ∷ [])
unended_more n es e b idle h =
    ap (list_any (ends n)) (drop-append-le n es (e ∷ []) b) ∙ list_any-append (ends n) (drop n es) (e ∷ [])
    ∙ ap (λ x. x || list_any (ends n) (e ∷ [])) h ∙ ap (λ x. x || false) idle
