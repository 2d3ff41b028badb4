-- What stays true of a log and of what is open when an entry is added.
use Rattle.std.proofs.Common.{◌≡◌, ℕ, zero, suc, ◌+◌, ◌-◌, ◌<◌, ◌≤◌, Bool, true, false, cond, List, [], ◌∷◌, ◌++◌, length, take, drop, Option, Some, None, slice_get, refl, ap, ◌∙◌, sym, subst, arith, nat_eq, count_by, IsTrue, add-one, length-append, length-take}
use Rattle.std.specs.Prelude.{IsSomeAnd, option_and_then, ◌==◌, ◌||◌}
use Rattle.std.specs.List.{list_any}
use Rattle.std.proofs.lemmas.List.{take-append-le, take_all, drop-append-le}
use Rattle.std.proofs.lemmas.List.Folds.{list_any-append}
use Rattle.std.proofs.Math.ListN.{drop_of_length-le}
use Rattle.std.proofs.lemmas.Option.{option_and_then_some}
use Rattle.std.proofs.lemmas.Grind.{common_steps}
use Rattle.std.proofs.lemmas.Bool.Decides.{nat_tests, Decides-eqb}
use Rattle.dns_core.specs.declared.log.LogEntry.{LogEntry}
use Rattle.dns_core.specs.declared.log.LogEntry.TheVariants.{Opened, Asked, Waited, Told, GaveUp}
use Rattle.script_upstream.specs.Course.{lengthened, shortened, IsWaiting, is_qualified_course}
use Rattle.script_upstream.specs.Giving.{Gives, Fits, MayWait, course, course_after, waits, waits_of, ends, HasNoEnd}
use Rattle.script_upstream.specs.Book.{IsKept, Awaits}
use Rattle.script_upstream.specs.declared.courses.course.ScriptedReply.{ScriptedReply}
use Rattle.script_upstream.specs.declared.courses.course.ScriptedReply.TheVariants.{Never, After}
use Rattle.script_upstream.specs.declared.script.script.Script.{Script}

-- an item of the longer list is one of the shorter, or the new one
slice_get-push : {X : Type 0} (xs : List X) (x y : X) (i : ℕ) (P : Type 0) → slice_get (xs ++ x ∷ []) i ≡ Some y → (slice_get xs i ≡ Some y → i < length xs → P) → (i ≡ length xs → x ≡ y → P) → P
slice_get-push [] x y zero P e old new = new refl cc
slice_get-push [] x y (suc i) P e old new = cc
slice_get-push (z ∷ xs) x y zero P e old new = old e (omega arith)
slice_get-push (z ∷ xs) x y (suc i) P e old new =
    slice_get-push xs x y i P e (λ h b. old h (omega arith)) (λ h g. new (ap suc h) g)

slice_get-front : {X : Type 0} (xs ys : List X) (x : X) (i : ℕ) → slice_get xs i ≡ Some x → slice_get (xs ++ ys) i ≡ Some x
slice_get-front [] ys x i e = cc
slice_get-front (z ∷ xs) ys x zero e = e
slice_get-front (z ∷ xs) ys x (suc i) e = slice_get-front xs ys x i e

slice_get-end : {X : Type 0} (xs : List X) (x : X) → slice_get (xs ++ x ∷ []) (length xs) ≡ Some x
slice_get-end [] x = refl
slice_get-end (z ∷ xs) x = slice_get-end xs x

within : {X : Type 0} (xs : List X) (x : X) (i : ℕ) → slice_get xs i ≡ Some x → i < length xs
within [] x i e = cc
within (z ∷ xs) x zero e = omega arith
within (z ∷ xs) x (suc i) e = let h = within xs x i e in omega arith

take_front : {X : Type 0} (xs ys : List X) (n : ℕ) → n ≤ length xs → take n (xs ++ ys) ≡ take n xs
take_front xs ys n h = take-append-le n xs ys h

take_whole : {X : Type 0} (xs ys : List X) (n : ℕ) → n ≡ length xs → take n (xs ++ ys) ≡ xs
take_whole xs ys n h = take-append-le n xs ys (omega arith) ∙ take_all n xs (omega arith)

-- a log whose entries fit, and one entry more that fits
pub gives_more : (s : Script) (es : List LogEntry) (e : LogEntry) → Gives s es → Fits s es e → Gives s (es ++ e ∷ [])
gives_more s es e g f zero x h = cc
gives_more s es e g f (suc i) x h =
    slice_get-push es e x i (Fits s (take (suc i - 1) (es ++ e ∷ [])) x) h
    (λ old below. subst (λ (t : List LogEntry). Fits s t x) (sym (take_front es (e ∷ []) (suc i - 1) (omega arith))) (g (suc i) x old))
    (λ end same. subst (λ (t : List LogEntry). Fits s t x) (sym (take_whole es (e ∷ []) (suc i - 1) (omega arith))) (subst (λ (y : LogEntry). Fits s es y) same f))

-- the front of a log that the script gives is one
pub gives_front : (s : Script) (es more : List LogEntry) → Gives s (es ++ more) → Gives s es
gives_front s es more g zero x h = cc
gives_front s es more g (suc i) x h =
    let below = within es x i h in
    subst (λ (t : List LogEntry). Fits s t x) (take_front es more (suc i - 1) (omega arith)) (g (suc i) x (slice_get-front es more x i h))

-- what an entry comes to stays so
course_front : (s : Script) (es more : List LogEntry) (n : ℕ) (c : ScriptedReply) → course s es n ≡ Some c → course s (es ++ more) n ≡ Some c
course_front s es more zero c h = cc
course_front s es more (suc i) c h =
    option_and_then_some (course_after s (take (suc i - 1) es)) (slice_get es i) c h (λ x at is.
    let below = within es x i at in
    ap (option_and_then (course_after s (take (suc i - 1) (es ++ more)))) (slice_get-front es more x i at)
    ∙ ap (λ t. course_after s t x) (take_front es more (suc i - 1) (omega arith)) ∙ is)

course_within : (s : Script) (es : List LogEntry) (n : ℕ) (c : ScriptedReply) → course s es n ≡ Some c → n ≤ length es
course_within s es zero c h = omega arith
course_within s es (suc i) c h =
    option_and_then_some (course_after s (take (suc i - 1) es)) (slice_get es i) c h (λ x at is. let below = within es x i at in omega arith)

course_end : (s : Script) (es : List LogEntry) (e : LogEntry) → course s (es ++ e ∷ []) (suc (length es)) ≡ course_after s es e
course_end s es e = ap (option_and_then (course_after s (take (suc (length es) - 1) (es ++ e ∷ [])))) (slice_get-end es e) ∙ ap (λ t. course_after s t e) (take_whole es (e ∷ []) (suc (length es) - 1) (omega arith))

abbrev one_if : Bool → ℕ
one_if b = cond b 1 0

-- how often an entry waited, with one entry more
waits_more : (n : ℕ) (es : List LogEntry) (e : LogEntry) → waits n (es ++ e ∷ []) ≡ waits n es + cond (waits_of n e) 1 0
waits_more n es e = grind (arith, common_steps)

waits_same : (n : ℕ) (es : List LogEntry) (e : LogEntry) → waits_of n e ≡ false → waits n (es ++ e ∷ []) ≡ waits n es
waits_same n es e h = let k = ap one_if h in omega (arith, waits_more n es e, k)

-- no entry waits for one that comes after it
course_of_some : (o : Option ScriptedReply) (P : ScriptedReply → Type 0) → IsSomeAnd o P → (c : ScriptedReply) × (o ≡ Some c) × P c
course_of_some None P h = absurd h
course_of_some (Some c) P h = (c, refl, h)

unwaited : (s : Script) (before : List LogEntry) (n : ℕ) (x : LogEntry) → Fits s before x → length before < n → waits_of n x ≡ false
unwaited s before n (Opened ip protocol moment refused) f h = refl
unwaited s before n (Asked ip protocol q moment refused) f h = refl
unwaited s before n (Told of moment outcome) f h = refl
unwaited s before n (GaveUp of moment) f h = refl
unwaited s before n (Waited of) f h =
    let some = course_of_some (course s before of) (MayWait (waits of before)) f.1 in
    let low = course_within s before of some.0 some.1 in
    grind (arith, nat_tests)

count_cons : {X : Type 0} (p : X → Bool) (x : X) (xs : List X) → count_by p (x ∷ xs) ≡ one_if (p x) + count_by p xs
count_cons p x xs = grind (arith, common_steps)

count_none : {X : Type 0} (p : X → Bool) (xs : List X) → ((i : ℕ) (x : X) → slice_get xs i ≡ Some x → p x ≡ false) → count_by p xs ≡ 0
count_none p [] h = refl
count_none p (x ∷ xs) h =
    let here = ap one_if (h zero x refl) in
    let rest = count_none p xs (λ i y e. h (suc i) y e) in
    omega (arith, here, rest, count_cons p x xs)

waits_none : (s : Script) (es : List LogEntry) → Gives s es → waits (suc (length es)) es ≡ 0
waits_none s es g = count_none (waits_of (suc (length es))) es (λ i x e.
    let below = within es x i e in
    unwaited s (take (suc i - 1) es) (suc (length es)) x (g (suc i) x e) (omega (arith, length-take (suc i - 1) es)))

-- an entry that opened or asked waits for none
begun_unwaited : (s : Script) (es : List LogEntry) (e : LogEntry) (c : ScriptedReply) (n : ℕ) → course_after s es e ≡ Some c → waits_of n e ≡ false
begun_unwaited s es (Opened ip protocol moment refused) c n h = refl
begun_unwaited s es (Asked ip protocol q moment refused) c n h = refl
begun_unwaited s es (Told of moment outcome) c n h = refl
begun_unwaited s es (GaveUp of moment) c n h = refl
begun_unwaited s es (Waited of) c n h = cc

-- an entry that opened or asked ends none, and none has ended it
begun_unended : (s : Script) (es : List LogEntry) (e : LogEntry) (c : ScriptedReply) (n : ℕ) → course_after s es e ≡ Some c → ends n e ≡ false
begun_unended s es (Opened ip protocol moment refused) c n h = refl
begun_unended s es (Asked ip protocol q moment refused) c n h = refl
begun_unended s es (Told of moment outcome) c n h = cc
begun_unended s es (GaveUp of moment) c n h = cc
begun_unended s es (Waited of) c n h = refl

first_unended : (es : List LogEntry) (e : LogEntry) → HasNoEnd (suc (length es)) (es ++ e ∷ [])
first_unended es e =
    let past : length (es ++ e ∷ []) ≤ suc (length es) = omega (arith, length-append es (e ∷ [])) in
    ap (list_any (ends (suc (length es)))) (drop_of_length-le (es ++ e ∷ []) past)

unended_more : (n : ℕ) (es : List LogEntry) (e : LogEntry) → n ≤ length es → ends n e ≡ false → HasNoEnd n es → HasNoEnd n (es ++ e ∷ [])
unended_more n es e b idle h =
    ap (list_any (ends n)) (drop-append-le n es (e ∷ []) b) ∙ list_any-append (ends n) (drop n es) (e ∷ [])
    ∙ ap (λ x. x || list_any (ends n) (e ∷ [])) h ∙ ap (λ x. x || false) idle

-- the entry leaves the entry of this number as it is
pub record Leaves (n : ℕ) (e : LogEntry) : Type 0 where
  pub unwaited : waits_of n e ≡ false
  pub unended : ends n e ≡ false

awaits_more : (s : Script) (es : List LogEntry) (e : LogEntry) (n : ℕ) (c : ScriptedReply) → Leaves n e → Awaits s es n c → Awaits s (es ++ e ∷ []) n c
awaits_more s es e n c h a = record {
  unended = unended_more n es e (course_within s es n _ a.due) h.unended a.unended;
  due = course_front s es (e ∷ []) n _ a.due ∙ ap (λ w. Some (lengthened w c)) (sym (waits_same n es e h.unwaited));
  qualified = a.qualified;
}

-- what is under a number after a change at one
on_number : (b : Bool) (new put old : Option ScriptedReply) (c : ScriptedReply) (P : Type 0) → new ≡ cond b put old → new ≡ Some c → (b ≡ true → put ≡ Some c → P) → (b ≡ false → old ≡ Some c → P) → P
on_number true new put old c P e h here apart = here refl (sym e ∙ h)
on_number false new put old c P e h here apart = apart refl (sym e ∙ h)

same_number : (m n : ℕ) → nat_eq m n ≡ true → m ≡ n
same_number m n = (Decides-eqb m n).0

-- fewer are open
pub kept_fewer : (s : Script) (es : List LogEntry) (old new : ℕ → Option ScriptedReply) (k : ℕ) → IsKept s es old → ((n : ℕ) → new n ≡ cond (nat_eq k n) None (old n)) → IsKept s es new
kept_fewer s es old new k h e = record {
  gives = h.gives;
  awaited = λ n c is. on_number (nat_eq k n) (new n) None (old n) c (Awaits s es n c) (e n) is (λ here none. cc) (λ apart was. h.awaited n c was);
}

-- an entry that leaves what is open
pub kept_more : (s : Script) (es : List LogEntry) (e : LogEntry) (open_of : ℕ → Option ScriptedReply) → IsKept s es open_of → Fits s es e → ((n : ℕ) (c : ScriptedReply) → open_of n ≡ Some c → Leaves n e) → IsKept s (es ++ e ∷ []) open_of
kept_more s es e open_of h f idle = record {
  gives = gives_more s es e h.gives f;
  awaited = λ n c is. awaits_more s es e n c (idle n c is) (h.awaited n c is);
}

-- an entry that ends the entry of a number which is no more open
pub kept_ended : (s : Script) (es : List LogEntry) (e : LogEntry) (old new : ℕ → Option ScriptedReply) (k : ℕ) → IsKept s es old → ((n : ℕ) → new n ≡ cond (nat_eq k n) None (old n)) → Fits s es e
    → ((n : ℕ) → (waits_of n e ≡ false) × (ends n e ≡ nat_eq k n)) → IsKept s (es ++ e ∷ []) new
kept_ended s es e old new k h fewer f at =
    kept_more s es e new (kept_fewer s es old new k h fewer) f (λ n c is.
    on_number (nat_eq k n) (new n) None (old n) c (Leaves n e) (fewer n) is (λ here none. cc) (λ apart was. record { unwaited = (at n).0; unended = (at n).1 ∙ apart }))

zero_more : (c : ScriptedReply) → lengthened 0 c ≡ c
zero_more Never = refl
zero_more (After polls outcome) = ap (λ p. After p outcome) (omega arith)

-- an entry that opened or asked
pub kept_begun : (s : Script) (es : List LogEntry) (e : LogEntry) (old new : ℕ → Option ScriptedReply) (c : ScriptedReply) → IsKept s es old → Fits s es e → course_after s es e ≡ Some c → IsTrue (is_qualified_course c)
    → ((n : ℕ) → new n ≡ cond (nat_eq (length es + 1) n) (Some c) (old n)) → IsKept s (es ++ e ∷ []) new
kept_begun s es e old new c h f is qualified at = record {
  gives = gives_more s es e h.gives f;
  awaited = λ n d given. on_number (nat_eq (length es + 1) n) (new n) (Some c) (old n) d (Awaits s (es ++ e ∷ []) n d) (at n) given
      (λ here same.
      let number : suc (length es) ≡ n = sym (add-one (length es)) ∙ same_number (length es + 1) n here in
      let none : waits (suc (length es)) (es ++ e ∷ []) ≡ 0 = waits_same (suc (length es)) es e (begun_unwaited s es e c _ is) ∙ waits_none s es h.gives in
      let due : course s (es ++ e ∷ []) (suc (length es)) ≡ Some (lengthened (waits (suc (length es)) (es ++ e ∷ [])) c) = course_end s es e ∙ is ∙ ap Some (sym (zero_more c)) ∙ ap (λ w. Some (lengthened w c)) (sym none) in
      let first : Awaits s (es ++ e ∷ []) (suc (length es)) c = record { unended = first_unended es e; due = due; qualified = qualified } in
      let equal : c ≡ d = cc in
      subst (λ (x : ScriptedReply). Awaits s (es ++ e ∷ []) n x) equal (subst (λ (m : ℕ). Awaits s (es ++ e ∷ []) m c) number first))
      (λ apart was. awaits_more s es e n d (record { unwaited = begun_unwaited s es e c n is; unended = begun_unended s es e c n is }) (h.awaited n d was));
}

-- one poll less is left, and one more was waited
moved : (w : ℕ) (c : ScriptedReply) → IsWaiting c → lengthened (w + 1) (shortened c) ≡ lengthened w c
moved w Never h = refl
moved w (After polls outcome) h = ap (λ p. After p outcome) (omega arith)

may_wait : (w : ℕ) (c : ScriptedReply) → IsWaiting c → MayWait w (lengthened w c)
may_wait w Never h = tt
may_wait w (After polls outcome) h = omega arith

qualified_still : (c : ScriptedReply) → IsTrue (is_qualified_course c) → IsTrue (is_qualified_course (shortened c))
qualified_still Never h = h
qualified_still (After polls outcome) h = h

and_some : (o : Option ScriptedReply) (c : ScriptedReply) (P : ScriptedReply → Type 0) → o ≡ Some c → P c → IsSomeAnd o P
and_some o c P e p = subst (λ (x : Option ScriptedReply). IsSomeAnd x P) (sym e) p

pub fits_wait : (s : Script) (es : List LogEntry) (k : ℕ) (c : ScriptedReply) → Awaits s es k c → IsWaiting c → Fits s es (Waited k)
fits_wait s es k c a w = (a.unended, and_some (course s es k) (lengthened (waits k es) c) (MayWait (waits k es)) a.due (may_wait (waits k es) c w))

itself : (k : ℕ) → (k == k) ≡ true
itself k = (Decides-eqb k k).1 refl

apart_waits : (k n : ℕ) → nat_eq k n ≡ false → (k == n) ≡ false
apart_waits k n h = h

-- a wait
pub kept_waited : (s : Script) (es : List LogEntry) (k : ℕ) (old new : ℕ → Option ScriptedReply) (c : ScriptedReply) → IsKept s es old → old k ≡ Some c → IsWaiting c
    → ((n : ℕ) → new n ≡ cond (nat_eq k n) (Some (shortened c)) (old n)) → IsKept s (es ++ Waited k ∷ []) new
kept_waited s es k old new c h was w at =
    let a = h.awaited k c was in
    record {
      gives = gives_more s es (Waited k) h.gives (fits_wait s es k c a w);
      awaited = λ n d given. on_number (nat_eq k n) (new n) (Some (shortened c)) (old n) d (Awaits s (es ++ Waited k ∷ []) n d) (at n) given
          (λ here same.
          let number : k ≡ n = same_number k n here in
          let one = ap one_if (itself k) in
          let more : waits k (es ++ Waited k ∷ []) ≡ waits k es + 1 = omega (arith, waits_more k es (Waited k), one) in
          let due : course s (es ++ Waited k ∷ []) k ≡ Some (lengthened (waits k (es ++ Waited k ∷ [])) (shortened c)) = course_front s es (Waited k ∷ []) k _ a.due ∙ ap Some (sym (moved (waits k es) c w)) ∙ ap (λ x. Some (lengthened x (shortened c))) (sym more) in
          let unended = unended_more k es (Waited k) (course_within s es k _ a.due) refl a.unended in
          let next : Awaits s (es ++ Waited k ∷ []) k (shortened c) = record { unended = unended; due = due; qualified = qualified_still c a.qualified } in
          let equal : shortened c ≡ d = cc in
          subst (λ (x : ScriptedReply). Awaits s (es ++ Waited k ∷ []) n x) equal (subst (λ (m : ℕ). Awaits s (es ++ Waited k ∷ []) m (shortened c)) number next))
          (λ apart left. awaits_more s es (Waited k) n d (record { unwaited = apart; unended = refl }) (h.awaited n d left));
    }
