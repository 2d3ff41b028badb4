-- A log grows by the entries that a call appends, each at its moment.
use Rattle.std.proofs.Common.{◌≡◌, ◌≤◌, ◌<◌, ◌+◌, ◌⊎◌, ⊎_elim, inl, inr, ℕ, zero, suc, List, [], ◌∷◌, ◌++◌, length, Option, Some, None, refl, sym, ◌∙◌, ap, subst, arith, length-append, add-one, slice_get}
use Rattle.std.proofs.lemmas.Option.{same_Some}
use Rattle.dns_core.specs.Log.{Log, Extends, log_of, added}
use Rattle.dns_core.specs.declared.log.LogEntry.{LogEntry}
use Rattle.dns_core.specs.declared.net_error.NetError.{NetError}
use Rattle.resolution.specs.Telling.{Logged, moment_of}
use Rattle.server_core.specs.declared.orders.order.Order.{Order}
use Rattle.server_core.specs.declared.orders.order.Order.TheVariants.{Open, Ask, Sleep}
use Rattle.server_core.specs.declared.orders.order.Outcome.{Outcome}
use Rattle.server_core.specs.declared.orders.order.SentBy.{SentBy}
use Rattle.order_carrier.specs.Did.{Did, State, Carried, start_entry, poll_entry, appended, sent_in}
use Rattle.order_carrier.specs.Did.Did.{Barred, LacksMemory, Refused, Started, Polled}
use Rattle.order_carrier.specs.GivingUp.{GivenUp, give_up_entry}
use Rattle.order_carrier.specs.Growing.{Counted, with_entries, Grown}
use Rattle.order_carrier.specs.declared.key.OrderKey.{OrderKey}
use Rattle.order_carrier.specs.declared.polling.Heard.{Heard}
use Rattle.order_carrier.specs.declared.polling.Heard.TheVariants.{Waiting, OutOfMemory, Connected, Answered, Failed, Resting, Slept}

-- a log extends itself
pub Extends-refl : (log : Log) → Extends log log
Extends-refl log = record { later = omega arith; kept = λ n h. refl }

-- what extends an extension extends the first
pub Extends-trans : (a b c : Log) → Extends a b → Extends b c → Extends a c
Extends-trans a b c x y = record { later = omega (arith, x.later, y.later); kept = λ n h. y.kept n (omega (arith, h, x.later)) ∙ x.kept n h }

-- the entries of a list stay where another is put behind it
slice_get-front : {X : Type 0} (xs ys : List X) (n : ℕ) → n < length xs → slice_get (xs ++ ys) n ≡ slice_get xs n
slice_get-front [] ys n h = absurd (omega arith)
slice_get-front (x ∷ xs) ys zero h = refl
slice_get-front (x ∷ xs) ys (suc n) h = slice_get-front xs ys n (omega arith)

-- the entry behind a list
slice_get-end : {X : Type 0} (xs : List X) (x : X) → slice_get (xs ++ x ∷ []) (length xs) ≡ Some x
slice_get-end [] x = refl
slice_get-end (y ∷ xs) x = slice_get-end xs x

-- a log with one entry more extends it
pub Extends-added : (es : List LogEntry) (e : LogEntry) → Extends (log_of es) (log_of (es ++ e ∷ []))
Extends-added es e = record { later = omega (arith, length-append es (e ∷ [])); kept = kept_at es e }
  where
    kept_at : (es : List LogEntry) (e : LogEntry) (n : ℕ) → n < length es + 1 → (log_of (es ++ e ∷ [])).entry n ≡ (log_of es).entry n
    kept_at es e zero h = refl
    kept_at es e (suc n) h = slice_get-front es (e ∷ []) n (omega arith)

-- the newest entry
pub Logged-newest : (es : List LogEntry) (e : LogEntry) → Logged (log_of (es ++ e ∷ [])) (length es + 1) e
Logged-newest es e = record { below = omega (arith, length-append es (e ∷ [])); is = rw add-one (slice_get-end es e) }

-- a log without entries has none under any number
pub unlogged : (n : ℕ) (e : LogEntry) → Logged (log_of []) n e → ⊥
unlogged zero e h = let is : None ≡ Some e = h.is in cc
unlogged (suc n) e h = let is : None ≡ Some e = h.is in cc

-- each entry of a longer log is an old one, or the newest
pub entry_cases : (es : List LogEntry) (e : LogEntry) (n : ℕ) (f : LogEntry)
    → Logged (log_of (es ++ e ∷ [])) n f → Logged (log_of es) n f ⊎ ((n ≡ length es + 1) × (e ≡ f))
entry_cases es e n f h = by_number n h.is
  where
    in_list : (es : List LogEntry) (n : ℕ) → slice_get (es ++ e ∷ []) n ≡ Some f → ((n < length es) × (slice_get es n ≡ Some f)) ⊎ ((n ≡ length es) × (e ≡ f))
    in_list [] zero is = inr (refl, cc)
    in_list [] (suc n) is = cc
    in_list (x ∷ es) zero is = inl (omega arith, is)
    in_list (x ∷ es) (suc n) is = ⊎_elim (λ old. inl (omega (arith, old.0), old.1)) (λ p. inr (omega (arith, p.0), p.1)) (in_list es n is)

    by_number : (n : ℕ) → (log_of (es ++ e ∷ [])).entry n ≡ Some f → Logged (log_of es) n f ⊎ ((n ≡ length es + 1) × (e ≡ f))
    by_number zero is = cc
    by_number (suc n) is = ⊎_elim (λ old. inl (record { below = omega (arith, old.0); is = old.1 })) (λ p. inr (omega (arith, p.0), p.1)) (in_list es n is)

-- A log with one entry more was told before.
pub record Longer (e : LogEntry) (told : Option (List LogEntry)) (es : List LogEntry) : Type 0 where
  pub before : List LogEntry
  pub was : told ≡ Some before
  pub is : es ≡ before ++ e ∷ []

-- the log to which an entry was appended
pub Longer-from_added : (e : LogEntry) (told : Option (List LogEntry)) (es : List LogEntry) → added e told ≡ Some es → Longer e told es
Longer-from_added e None es h = cc
Longer-from_added e (Some before) es h = record { before = before; was = refl; is = sym (same_Some _ _ h) }

-- the count of a log with one entry more
pub Counted-added : (e : LogEntry) (old : Option (List LogEntry)) (n : ℕ) → Counted old n → Counted (added e old) (n + 1)
Counted-added e old n counted es told =
    let l = Longer-from_added e old es told in
    omega (arith, ap (length {A = LogEntry}) l.is, length-append l.before (e ∷ []), counted l.before l.was)

-- the count of a log with these entries more
pub Counted-with : (more : List LogEntry) (old : Option (List LogEntry)) (n : ℕ) → Counted old n → Counted (with_entries more old) (n + length more)
Counted-with [] old n counted es told = omega (arith, counted es told)
Counted-with (e ∷ more) old n counted es told = omega (arith, Counted-with more (added e old) (n + 1) (Counted-added e old n counted) es told)

-- ---- moments

-- The moment of an entry is this one, where it has one.
abbrev pub IsAt : ℕ → Option ℕ → Type 0
IsAt now (Some moment) = moment ≡ now
IsAt now None = Unit {0}

-- the moment of an entry that has one
IsAt-is : (now moment : ℕ) (o : Option ℕ) → IsAt now o → o ≡ Some moment → moment ≡ now
IsAt-is now moment (Some m) h e = sym (same_Some _ _ e) ∙ h
IsAt-is now moment None h e = cc

-- a number is below another, or at or above it
pub below_or_from : (i n : ℕ) → (i < n) ⊎ (n ≤ i)
below_or_from i zero = inr (omega arith)
below_or_from zero (suc n) = inl (omega arith)
below_or_from (suc i) (suc n) = ⊎_elim (λ h. inl (omega (arith, h))) (λ h. inr (omega (arith, h))) (below_or_from i n)

-- an early entry of the longer log is one of the shorter
Logged-shrink : (old new : Log) → Extends old new → (i : ℕ) (e : LogEntry) → i < old.next → Logged new i e → Logged old i e
Logged-shrink old new x i e low h = record { below = low; is = sym (x.kept i low) ∙ h.is }

-- each entry of the longer log is one of the shorter, or a new one
pub entry_sides : (old new : Log) → Extends old new → (i : ℕ) (e : LogEntry) → Logged new i e → Logged old i e ⊎ (old.next ≤ i)
entry_sides old new x i e h = ⊎_elim (λ low. inl (Logged-shrink old new x i e low h)) (λ high. inr high) (below_or_from i old.next)

-- what does not change has grown
pub Grown-refl : (now : ℕ) (told : Option (List LogEntry)) → Grown now told told
Grown-refl now told es t = record {
  before = es;
  was = t;
  extends = Extends-refl (log_of es);
  at = λ i moment e after logged is. absurd (omega (arith, after, logged.below));
}

-- what has grown twice at a moment has grown at it
pub Grown-trans : (now : ℕ) (a b c : Option (List LogEntry)) → Grown now a b → Grown now b c → Grown now a c
Grown-trans now a b c x y es t =
    let two = y es t in
    let one = x two.before two.was in
    record {
      before = one.before;
      was = one.was;
      extends = Extends-trans _ _ _ one.extends two.extends;
      at = λ i moment e after logged is. ⊎_elim
          (λ early. one.at i moment e after early is)
          (λ late. two.at i moment e late logged is)
          (entry_sides (log_of two.before) (log_of es) two.extends i e logged);
    }

-- an entry of the moment, or of none, was appended
pub Grown-added : (now : ℕ) (e : LogEntry) (old : Option (List LogEntry)) → IsAt now (moment_of e) → Grown now old (added e old)
Grown-added now e old at es told =
    let l = Longer-from_added e old es told in
    record {
      before = l.before;
      was = l.was;
      extends = subst (λ (x : List LogEntry). Extends (log_of l.before) (log_of x)) (sym l.is) (Extends-added l.before e);
      at = λ i moment f after logged is. ⊎_elim
          (λ before. absurd (omega (arith, after, before.below)))
          (λ newest. IsAt-is now moment (moment_of e) at (ap moment_of newest.1 ∙ is))
          (entry_cases l.before e i f (subst (λ (x : List LogEntry). Logged (log_of x) i f) l.is logged));
    }

-- Each of these entries is of the moment, or of none.
abbrev pub AreAt : ℕ → List LogEntry → Type 0
AreAt now [] = Unit {0}
AreAt now (e ∷ more) = IsAt now (moment_of e) × AreAt now more

-- such entries were appended
pub Grown-with : (now : ℕ) (more : List LogEntry) (old new : Option (List LogEntry)) → AreAt now more → new ≡ with_entries more old → Grown now old new
Grown-with now [] old new at grew = subst (Grown now old) (sym grew) (Grown-refl now old)
Grown-with now (e ∷ more) old new at grew =
    Grown-trans now old (added e old) new (Grown-added now e old at.0) (Grown-with now more (added e old) new at.1 grew)

-- ---- the laws

-- the entry of a poll is of its moment
pub poll_at : (now : ℕ) (heard : Heard) → AreAt now (poll_entry now heard)
poll_at now (Waiting of) = (tt, tt)
poll_at now OutOfMemory = tt
poll_at now (Connected sent) = (refl, tt)
poll_at now (Answered sent message) = (refl, tt)
poll_at now (Failed sent error) = (refl, tt)
poll_at now Resting = tt
poll_at now Slept = tt

-- so is the entry of a start, before the ones that follow it
start_at : (now : ℕ) (refusal : Option NetError) (order : Order) (more : List LogEntry) → AreAt now more → AreAt now (start_entry now refusal order ++ more)
start_at now refusal (Open ip config) more at = (refl, at)
start_at now refusal (Ask conn ip protocol request) more at = (refl, at)
start_at now refusal (Sleep until) more at = at

-- and alone
start_at_alone : (now : ℕ) (refusal : Option NetError) (order : Order) → AreAt now (start_entry now refusal order)
start_at_alone now refusal (Open ip config) = (refl, tt)
start_at_alone now refusal (Ask conn ip protocol request) = (refl, tt)
start_at_alone now refusal (Sleep until) = tt

-- what a call appends is of its moment
appended_at : (now : ℕ) (order : Order) (d : Did) → AreAt now (appended now order d)
appended_at now order Barred = tt
appended_at now order LacksMemory = tt
appended_at now order (Refused sent error) = start_at_alone now (Some error) order
appended_at now order (Started heard) = start_at now None order (poll_entry now heard) (poll_at now heard)
appended_at now order (Polled heard) = poll_at now heard

-- a call grows the log by entries of its moment
pub carried-grown : {P : Type 0} (key : OrderKey) (order : Order) (now : ℕ) (old new : State P) (result : Option (Option Outcome)) → Carried key order now old new result → Grown now old.log new.log
carried-grown key order now old new result c = Grown-with now (appended now order c.did) old.log new.log (appended_at now order c.did) c.log

-- so does a give-up
pub given_up-grown : {P : Type 0} (key : OrderKey) (now : ℕ) (old new : State P) → GivenUp key now old new → Grown now old.log new.log
given_up-grown key now old new g =
    Grown-with now (give_up_entry now (sent_in (old.stands key))) old.log new.log (entry_at (sent_in (old.stands key))) g.log
  where
    entry_at : (sent : Option SentBy) → AreAt now (give_up_entry now sent)
    entry_at None = tt
    entry_at (Some sent) = (refl, tt)
