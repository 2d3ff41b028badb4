-- What stays true of what is open when an entry is added.
use Rattle.std.proofs.Common.{◌≡◌, ℕ, suc, ◌+◌, ◌-◌, ◌<◌, Bool, true, false, cond, List, [], ◌∷◌, ◌++◌, length, Option, Some, None, refl, ap, ◌∙◌, sym, subst, arith, nat_eq, add-one, IsTrue}
use Rattle.std.specs.Prelude.{IsSomeAnd, ◌==◌}
use Rattle.std.specs.HashMap.{get}
use Rattle.std.proofs.lemmas.List.{append-nil}
use Rattle.std.proofs.lemmas.Bool.Decides.{Decides-eqb}
use Rattle.dns_core.specs.Log.{numbered}
use Rattle.dns_core.specs.declared.log.LogEntry.{LogEntry}
use Rattle.dns_core.specs.declared.log.LogEntry.TheVariants.{Opened, Asked, Waited, Told, GaveUp}
use Rattle.dns_core.specs.declared.log.ToldOutcome.{ToldOutcome}
use Rattle.script_upstream.specs.Giving.{waits, waits_of, ends}
use Rattle.world_upstream.specs.Giving.{Gives, Fits, ComesTo, delay}
use Rattle.world_upstream.specs.Qualified.{is_qualified_world}
use Rattle.world_upstream.specs.Book.{told, open_at, IsKept, Awaits, Begins, Holds}
use Rattle.world_upstream.specs.declared.book.WorldLog.{WorldLog}
use Rattle.zone_rules.specs.declared.world.World.{World}
use Rattle.world_upstream.proofs.LogStaysTrue.{gives_more, some_within, some_front, some_both, one_if, waits_more, waits_same, waits_none, slice_get-end, first_unended, unended_more}

-- the entry leaves the entry of this number as it is
pub record Leaves (n : ℕ) (e : LogEntry) : Type 0 where
  pub unwaited : waits_of n e ≡ false
  pub unended : ends n e ≡ false

abbrev Left : World → List LogEntry → ℕ → ℕ → LogEntry → Type 0
Left w es n polls e = waits n es + polls ≡ delay w e

awaits_more : (w : World) (es : List LogEntry) (e : LogEntry) (n polls : ℕ) → Leaves n e → Awaits w es n polls → Awaits w (es ++ e ∷ []) n polls
awaits_more w es e n polls h a = record {
  unended = unended_more n es e (some_within es n (Left w es n polls) a.left) h.unended a.unended;
  left = some_front es (e ∷ []) n (Left w es n polls) (Left w (es ++ e ∷ []) n polls) a.left (λ x p. ap (λ k. k + polls) (waits_same n es e h.unwaited) ∙ p);
}

-- what is under a number after a change at one
on_number : (b : Bool) (new put old : Option ℕ) (polls : ℕ) (P : Type 0) → new ≡ cond b put old → new ≡ Some polls → (b ≡ true → put ≡ Some polls → P) → (b ≡ false → old ≡ Some polls → P) → P
on_number true new put old polls P e h here apart = here refl (sym e ∙ h)
on_number false new put old polls P e h here apart = apart refl (sym e ∙ h)

same_number : (m n : ℕ) → nat_eq m n ≡ true → m ≡ n
same_number m n = (Decides-eqb m n).0

-- fewer are open
pub kept_fewer : (w : World) (es : List LogEntry) (old new : ℕ → Option ℕ) (k : ℕ) → IsKept w es old → ((n : ℕ) → new n ≡ cond (nat_eq k n) None (old n)) → IsKept w es new
kept_fewer w es old new k h e = record {
  gives = h.gives;
  awaited = λ n polls is. on_number (nat_eq k n) (new n) None (old n) polls (Awaits w es n polls) (e n) is (λ here none. cc) (λ apart was. h.awaited n polls was);
}

pub kept_same : (w : World) (es : List LogEntry) (old new : ℕ → Option ℕ) → IsKept w es old → ((n : ℕ) → new n ≡ old n) → IsKept w es new
kept_same w es old new h e = record { gives = h.gives; awaited = λ n polls is. h.awaited n polls (sym (e n) ∙ is) }

-- an entry that ends the entry of a number which is no more open
pub kept_ended : (w : World) (es : List LogEntry) (e : LogEntry) (old new : ℕ → Option ℕ) (k : ℕ) → IsKept w es old → ((n : ℕ) → new n ≡ cond (nat_eq k n) None (old n)) → Fits w es e
    → ((n : ℕ) → (waits_of n e ≡ false) × (ends n e ≡ nat_eq k n)) → IsKept w (es ++ e ∷ []) new
kept_ended w es e old new k h fewer f at = record {
  gives = gives_more w es e h.gives f;
  awaited = λ n polls is. on_number (nat_eq k n) (new n) None (old n) polls (Awaits w (es ++ e ∷ []) n polls) (fewer n) is (λ here none. cc)
      (λ apart was. awaits_more w es e n polls (record { unwaited = (at n).0; unended = (at n).1 ∙ apart }) (h.awaited n polls was));
}

-- an entry that opened or asked fits, waits for none and ends none
begun_fits : (w : World) (es : List LogEntry) (e : LogEntry) → Begins e → Fits w es e
begun_fits w es (Opened ip protocol moment refused) h = h
begun_fits w es (Asked ip protocol q moment refused) h = h
begun_fits w es (Waited of) h = absurd h
begun_fits w es (Told of moment outcome) h = absurd h
begun_fits w es (GaveUp of moment) h = absurd h

begun_leaves : (e : LogEntry) (n : ℕ) → Begins e → Leaves n e
begun_leaves (Opened ip protocol moment refused) n h = record { unwaited = refl; unended = refl }
begun_leaves (Asked ip protocol q moment refused) n h = record { unwaited = refl; unended = refl }
begun_leaves (Waited of) n h = absurd h
begun_leaves (Told of moment outcome) n h = absurd h
begun_leaves (GaveUp of moment) n h = absurd h

-- it awaits all that it has to wait
first_awaits : (w : World) (es : List LogEntry) (e : LogEntry) (polls : ℕ) → Gives w es → Begins e → polls ≡ delay w e → Awaits w (es ++ e ∷ []) (suc (length es)) polls
first_awaits w es e polls g begins is =
    let none : waits (suc (length es)) (es ++ e ∷ []) ≡ 0 = waits_same (suc (length es)) es e (begun_leaves e _ begins).unwaited ∙ waits_none w es g in
    let all : Left w (es ++ e ∷ []) (suc (length es)) polls e = omega (arith, none, is) in
    record {
      unended = first_unended es e;
      left = subst (λ (o : Option LogEntry). IsSomeAnd o (Left w (es ++ e ∷ []) (suc (length es)) polls)) (sym (slice_get-end es e)) all;
    }

pub kept_begun : (w : World) (es : List LogEntry) (e : LogEntry) (old new : ℕ → Option ℕ) (polls : ℕ) → IsKept w es old → Begins e → polls ≡ delay w e
    → ((n : ℕ) → new n ≡ cond (nat_eq (length es + 1) n) (Some polls) (old n)) → IsKept w (es ++ e ∷ []) new
kept_begun w es e old new polls h begins is at = record {
  gives = gives_more w es e h.gives (begun_fits w es e begins);
  awaited = λ n left given. on_number (nat_eq (length es + 1) n) (new n) (Some polls) (old n) left (Awaits w (es ++ e ∷ []) n left) (at n) given
      (λ here same.
      let number : suc (length es) ≡ n = sym (add-one (length es)) ∙ same_number (length es + 1) n here in
      let equal : polls ≡ left = cc in
      subst (λ (x : ℕ). Awaits w (es ++ e ∷ []) n x) equal (subst (λ (m : ℕ). Awaits w (es ++ e ∷ []) m polls) number (first_awaits w es e polls h.gives begins is)))
      (λ apart was. awaits_more w es e n left (begun_leaves e n begins) (h.awaited n left was));
}

itself : (k : ℕ) → (k == k) ≡ true
itself k = (Decides-eqb k k).1 refl

-- one poll less is left, and one more was waited
waited_awaits : (w : World) (es : List LogEntry) (k polls : ℕ) → Awaits w es k polls → 0 < polls → Awaits w (es ++ Waited k ∷ []) k (polls - 1)
waited_awaits w es k polls a h =
    let one = ap one_if (itself k) in
    let more : waits k (es ++ Waited k ∷ []) ≡ waits k es + 1 = omega (arith, waits_more k es (Waited k), one) in
    record {
      unended = unended_more k es (Waited k) (some_within es k (Left w es k polls) a.left) refl a.unended;
      left = some_front es (Waited k ∷ []) k (Left w es k polls) (Left w (es ++ Waited k ∷ []) k (polls - 1)) a.left (λ x p. omega (arith, p, more, h));
    }

pub fits_wait : (w : World) (es : List LogEntry) (k polls : ℕ) → Awaits w es k polls → 0 < polls → Fits w es (Waited k)
fits_wait w es k polls a h = (a.unended, some_both (numbered es k) (Left w es k polls) (Left w es k polls) (λ e. waits k es < delay w e) a.left a.left (λ x p q. omega (arith, p, h)))

pub kept_waited : (w : World) (es : List LogEntry) (k polls : ℕ) (old new : ℕ → Option ℕ) → IsKept w es old → old k ≡ Some polls → 0 < polls
    → ((n : ℕ) → new n ≡ cond (nat_eq k n) (Some (polls - 1)) (old n)) → IsKept w (es ++ Waited k ∷ []) new
kept_waited w es k polls old new h was some at =
    let a = h.awaited k polls was in
    record {
      gives = gives_more w es (Waited k) h.gives (fits_wait w es k polls a some);
      awaited = λ n left given. on_number (nat_eq k n) (new n) (Some (polls - 1)) (old n) left (Awaits w (es ++ Waited k ∷ []) n left) (at n) given
          (λ here same.
          let number : k ≡ n = same_number k n here in
          let equal : polls - 1 ≡ left = cc in
          subst (λ (x : ℕ). Awaits w (es ++ Waited k ∷ []) n x) equal (subst (λ (m : ℕ). Awaits w (es ++ Waited k ∷ []) m (polls - 1)) number (waited_awaits w es k polls a some)))
          (λ apart left_was. awaits_more w es (Waited k) n left (record { unwaited = apart; unended = refl }) (h.awaited n left left_was));
    }

-- what is due is told as the world says
pub fits_told : (w : World) (es : List LogEntry) (k moment : ℕ) (outcome : ToldOutcome) → Awaits w es k 0 → IsSomeAnd (numbered es k) (ComesTo w outcome) → Fits w es (Told k moment outcome)
fits_told w es k moment outcome a comes =
    (a.unended, some_both (numbered es k) (Left w es k 0) (ComesTo w outcome) (λ e. (waits k es ≡ delay w e) × ComesTo w outcome e) a.left comes (λ x p c. (omega (arith, p), c)))

pub waits_some : (o : Option ℕ) → IsSomeAnd o (λ polls. 0 < polls) → (polls : ℕ) × (o ≡ Some polls) × (0 < polls)
waits_some None h = absurd h
waits_some (Some polls) h = (polls, refl, h)

-- the log with one entry more
pub pushed : (es log late more : List LogEntry) (e : LogEntry) → log ++ late ≡ es → late ≡ [] → more ≡ log ++ e ∷ [] → more ++ late ≡ es ++ e ∷ []
pushed es log late more e t l m = ap (λ x. more ++ x) l ∙ append-nil more ∙ m ∙ ap (λ x. x ++ e ∷ []) (sym (append-nil log) ∙ sym (ap (λ x. log ++ x) l) ∙ t)

-- what holds of a book, of what is kept under its log
pub hold : (b : WorldLog) (w : World) (es : List LogEntry) → b.world ≡ w → told b ≡ es → IsKept w es (open_at b) → IsTrue (is_qualified_world w) → Holds b
hold b w es is_world is_told keeps qualified = record {
  keeps = subst (λ (x : World). IsKept x (told b) (open_at b)) (sym is_world) (subst (λ (y : List LogEntry). IsKept w y (open_at b)) (sym is_told) keeps);
  qualified = subst (λ (x : World). IsTrue (is_qualified_world x)) (sym is_world) qualified;
}

-- a book of which nothing changed that holds of it
pub hold_still : (b c : WorldLog) → told c ≡ told b → c.open ≡ b.open → c.world ≡ b.world → Holds b → Holds c
hold_still b c is_told is_open is_world h =
    hold c b.world (told b) is_world is_told (kept_same b.world (told b) (open_at b) (open_at c) h.keeps (λ n. ap (λ m. get nat_eq m n) is_open)) h.qualified

-- put and taken out again
pub put_back : (b : Bool) (put old mid new : Option ℕ) → mid ≡ cond b put old → new ≡ cond b None mid → new ≡ cond b None old
put_back true put old mid new m n = n
put_back false put old mid new m n = n ∙ m
