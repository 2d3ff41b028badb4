-- A log that a world gives is one that it tells.
use Rattle.std.proofs.Common.{◌≡◌, ℕ, zero, suc, ◌+◌, ◌-◌, ◌<◌, ◌≤◌, Bool, true, false, cond, List, [], ◌∷◌, take, Option, Some, None, refl, sym, ap, subst, ◌∙◌, arith}
use Rattle.std.specs.Prelude.{IsSomeAnd, slice_get, count_by, ◌==◌}
use Rattle.std.proofs.lemmas.Grind.{common_steps}
use Rattle.std.proofs.lemmas.Bool.Decides.{Decides-eqb}
use Rattle.dns_core.specs.Log.{numbered, log_of}
use Rattle.dns_core.specs.declared.log.LogEntry.{LogEntry}
use Rattle.dns_core.specs.declared.log.LogEntry.TheVariants.{Opened, Asked, Waited, Told, GaveUp}
use Rattle.resolution.specs.Ending.{is_wait_for, waits}
use Rattle.script_upstream.specs.Giving.{waits_of, waits as script_waits, HasNoEnd}
use Rattle.world_upstream.specs.Giving.{Gives, ComesTo, delay}
use Rattle.zone_rules.specs.declared.world.World.{World}
use Rattle.world_facts.specs.Told.{TellsLog}

front : {X : Type 0} (m : ℕ) (xs : List X) (k : ℕ) (x : X) → slice_get (take m xs) k ≡ Some x → slice_get xs k ≡ Some x
front zero xs k x e = cc
front (suc m) [] k x e = cc
front (suc m) (y ∷ ys) zero x e = e
front (suc m) (y ∷ ys) (suc k) x e = front m ys k x e

numbered_front : (m : ℕ) (es : List LogEntry) (k : ℕ) (x : LogEntry) → numbered (take m es) k ≡ Some x → numbered es k ≡ Some x
numbered_front m es zero x e = cc
numbered_front m es (suc k) x e = front m es k x e

-- what holds of what stands in a front under a number, where that is known
at_number : (P : LogEntry → Type 0) (m : ℕ) (es : List LogEntry) (k : ℕ) (x : LogEntry) → numbered es k ≡ Some x → IsSomeAnd (numbered (take m es) k) P → P x
at_number P m es k x e h = of_found (numbered (take m es) k) refl h
  where
    of_found : (o : Option LogEntry) → numbered (take m es) k ≡ o → IsSomeAnd o P → P x
    of_found None f p = absurd p
    of_found (Some y) f p =
        let both_are : Some y ≡ Some x = sym (numbered_front m es k y f) ∙ e in
        let same : y ≡ x = cc in
        subst P same p

abbrev waited : ℕ → Option LogEntry → Bool
waited of None = false
waited of (Some e) = waits_of of e

wait_is : (of : ℕ) (o : Option LogEntry) → is_wait_for of o ≡ waited of o
wait_is of None = refl
wait_is of (Some (Opened ip protocol moment refused)) = refl
wait_is of (Some (Asked ip protocol q moment refused)) = refl
wait_is of (Some (Waited k)) = refl
wait_is of (Some (Told k moment o)) = refl
wait_is of (Some (GaveUp k moment)) = refl

abbrev one_if : Bool → ℕ
one_if b = cond b 1 0

count_cons : {X : Type 0} (p : X → Bool) (x : X) (xs : List X) → count_by p (x ∷ xs) ≡ one_if (p x) + count_by p xs
count_cons p x xs = grind (arith, common_steps)

more : (of : ℕ) (m : ℕ) (es : List LogEntry) → count_by (waits_of of) (take (suc m) es) ≡ count_by (waits_of of) (take m es) + one_if (waited of (slice_get es m))
more of zero [] = refl
more of (suc m) [] = refl
more of zero (e ∷ es) = let one = count_cons (waits_of of) e [] in omega (arith, one)
more of (suc m) (e ∷ es) =
    let rest = more of m es in
    let longer = count_cons (waits_of of) e (take (suc m) es) in
    let shorter = count_cons (waits_of of) e (take m es) in
    omega (arith, rest, longer, shorter)

counted : (of : ℕ) (es : List LogEntry) (n : ℕ) → waits (log_of es) of n ≡ script_waits of (take (n - 1) es)
counted of es zero = refl
counted of es (suc zero) = refl
counted of es (suc (suc m)) =
    let before = counted of es (suc m) in
    let one : suc m - 1 ≡ m = omega arith in
    let two : suc (suc m) - 1 ≡ suc m = omega arith in
    let step = more of m es in
    let same = ap one_if (wait_is of (slice_get es m)) in
    let low = ap (λ (j : ℕ). script_waits of (take j es)) one in
    let high = ap (λ (j : ℕ). script_waits of (take j es)) two in
    omega (arith, before, step, same, low, high)

few : (w : World) (e : LogEntry) → delay w e ≤ w.delay
few w (Opened ip protocol moment refused) = omega arith
few w (Asked ip protocol q moment refused) = omega arith
few w (Waited of) = omega arith
few w (Told of moment o) = omega arith
few w (GaveUp of moment) = omega arith

pub gives-tells : (w : World) (es : List LogEntry) → Gives w es → TellsLog w (log_of es)
gives-tells w es g = record {
  opened = λ n ip protocol moment refused h. g n (Opened ip protocol moment refused) h.is;
  asked = λ n ip protocol q moment refused h. g n (Asked ip protocol q moment refused) h.is;
  connected = λ n k at moment o ip protocol h s. (at_number (λ e. (script_waits k (take (n - 1) es) ≡ delay w e) × ComesTo w o e) (n - 1) es k (Opened ip protocol moment None) s.is (g n (Told k at o) h.is).1).1;
  told = λ n k at moment o ip protocol q h s. (at_number (λ e. (script_waits k (take (n - 1) es) ≡ delay w e) × ComesTo w o e) (n - 1) es k (Asked ip protocol q moment None) s.is (g n (Told k at o) h.is).1).1;
  patient = λ n k. patient k n;
}
  where
    -- an entry that waits is not the last that may
    once_more : (k n j : ℕ) → numbered es n ≡ Some (Waited j) → (j == k) ≡ true → waits (log_of es) k n + 1 ≤ w.delay
    once_more k n j e same =
        let fits : HasNoEnd j (take (n - 1) es) × IsSomeAnd (numbered (take (n - 1) es) j) (λ e. script_waits j (take (n - 1) es) < delay w e) = g n (Waited j) e in
        let less = some_less (numbered (take (n - 1) es) j) fits.1 in
        let is : j ≡ k = (Decides-eqb j k).0 same in
        let so_many = counted k es n in
        let moved = ap (λ (x : ℕ). script_waits x (take (n - 1) es)) is in
        omega (arith, less, so_many, moved)
      where
        some_less : (o : Option LogEntry) → IsSomeAnd o (λ e. script_waits j (take (n - 1) es) < delay w e) → script_waits j (take (n - 1) es) < w.delay
        some_less None h = absurd h
        some_less (Some e) h = let low = few w e in omega (arith, h, low)

    patient : (k n : ℕ) → waits (log_of es) k n ≤ w.delay
    patient k zero = omega arith
    patient k (suc n) = at_entry (numbered es n) refl (patient k n)
      where
        at_entry : (o : Option LogEntry) → numbered es n ≡ o → waits (log_of es) k n ≤ w.delay → waits (log_of es) k (suc n) ≤ w.delay
        at_entry o e h = at_wait (is_wait_for k (numbered es n)) refl
          where
            at_wait : (b : Bool) → is_wait_for k (numbered es n) ≡ b → waits (log_of es) k (suc n) ≤ w.delay
            at_wait false f = let none = ap one_if f in omega (arith, none, h)
            at_wait true f = let one = ap one_if f in let less = waits_entry o e (sym (ap (is_wait_for k) e) ∙ f) in omega (arith, one, less)
              where
                waits_entry : (o : Option LogEntry) → numbered es n ≡ o → is_wait_for k o ≡ true → waits (log_of es) k n + 1 ≤ w.delay
                waits_entry None e f = cc
                waits_entry (Some (Opened ip protocol moment refused)) e f = cc
                waits_entry (Some (Asked ip protocol q moment refused)) e f = cc
                waits_entry (Some (Waited j)) e f = once_more k n j e f
                waits_entry (Some (Told j moment o)) e f = cc
                waits_entry (Some (GaveUp j moment)) e f = cc
