-- An entry is closed once: a call closes what was under way, which was open, and leaves it over.
use Rattle.std.proofs.Common.{Bool, true, false, cond, ◌≡◌, ◌==◌, ◌≤◌, ◌+◌, ℕ, List, [], ◌∷◌, ◌++◌, length, length-append, append-nil, append_assoc, Option, Some, None, refl, sym, ◌∙◌, ap, arith}
use Rattle.std.proofs.lemmas.Bool.{eqb-true}
use Rattle.dns_core.specs.Log.{added}
use Rattle.dns_core.specs.declared.log.LogEntry.{LogEntry}
use Rattle.dns_core.specs.declared.net_error.NetError.{NetError}
use Rattle.server_core.specs.declared.orders.order.Order.{Order}
use Rattle.server_core.specs.declared.orders.order.Order.TheVariants.{Open, Ask, Sleep}
use Rattle.server_core.specs.declared.orders.order.SentBy.{SentBy}
use Rattle.order_carrier.specs.Closing.{closings, closed_for, closed_by}
use Rattle.order_carrier.specs.Did.{Did, start_entry, poll_entry, appended}
use Rattle.order_carrier.specs.Did.Did.{Barred, LacksMemory, Refused, Started, Polled}
use Rattle.order_carrier.specs.GivingUp.{give_up_entry}
use Rattle.order_carrier.specs.Growing.{with_entries}
use Rattle.order_carrier.specs.Patience.{waits_more}
use Rattle.order_carrier.specs.declared.polling.Heard.{Heard}
use Rattle.order_carrier.specs.declared.polling.Heard.TheVariants.{Waiting, OutOfMemory, Connected, Answered, Failed, Resting, Slept}
use Rattle.order_carrier.proofs.LogGrowsByCalls.{Longer-from_added}

-- what closes an entry in two lists
closings-append : (of : ℕ) (xs ys : List LogEntry) → closings of (xs ++ ys) ≡ closings of xs + closings of ys
closings-append of [] ys = omega arith
closings-append of (e ∷ xs) ys = omega (arith, closings-append of xs ys)

-- A log with these entries more was told before.
pub record LongerBy (more : List LogEntry) (told : Option (List LogEntry)) (es : List LogEntry) : Type 0 where
  pub before : List LogEntry
  pub was : told ≡ Some before
  pub is : es ≡ before ++ more

-- the log to which entries were appended
pub LongerBy-from : (more : List LogEntry) (told : Option (List LogEntry)) (es : List LogEntry) → with_entries more told ≡ Some es → LongerBy more told es
LongerBy-from [] told es h = record { before = es; was = h; is = sym (append-nil es) }
LongerBy-from (e ∷ more) told es h =
    let l = LongerBy-from more (added e told) es h in
    let m = Longer-from_added e told l.before l.was in
    record { before = m.before; was = m.was; is = l.is ∙ ap (λ (xs : List LogEntry). xs ++ more) m.is ∙ append_assoc m.before (e ∷ []) more }

-- a start closes nothing
start-closes : (of now : ℕ) (refusal : Option NetError) (order : Order) → closings of (start_entry now refusal order) ≡ 0
start-closes of now refusal (Open ip config) = refl
start-closes of now refusal (Ask conn ip protocol request) = refl
start-closes of now refusal (Sleep until) = refl

-- a poll closes what it tells of
poll-closes : (of now : ℕ) (heard : Heard) → closings of (poll_entry now heard) ≡ waits_more (closed_for heard) of
poll-closes of now (Waiting k) = refl
poll-closes of now OutOfMemory = refl
poll-closes of now (Connected s) = omega arith
poll-closes of now (Answered s message) = omega arith
poll-closes of now (Failed s error) = omega arith
poll-closes of now Resting = refl
poll-closes of now Slept = refl

-- a call closes one entry, or none
pub appended-closes : (of now : ℕ) (order : Order) (d : Did) → closings of (appended now order d) ≡ waits_more (closed_by d) of
appended-closes of now order Barred = refl
appended-closes of now order LacksMemory = refl
appended-closes of now order (Refused s error) = start-closes of now (Some error) order
appended-closes of now order (Started heard) =
    omega (arith, closings-append of (start_entry now None order) (poll_entry now heard), start-closes of now None order, poll-closes of now heard)
appended-closes of now order (Polled heard) = poll-closes of now heard

-- which entry a give-up closes
abbrev pub closed_up : Option SentBy → Option ℕ
closed_up None = None
closed_up (Some s) = Some s.of

-- it closes that alone
pub given_up-closes : (of now : ℕ) (sent : Option SentBy) → closings of (give_up_entry now sent) ≡ waits_more (closed_up sent) of
given_up-closes of now None = refl
given_up-closes of now (Some s) = omega arith

-- the log closes this entry more, or none
pub closes-with : (more : List LogEntry) (closed : Option ℕ) (old new : Option (List LogEntry)) → ((of : ℕ) → closings of more ≡ waits_more closed of) → new ≡ with_entries more old
    → (es : List LogEntry) → new ≡ Some es → (before : List LogEntry) × (old ≡ Some before) × (length es ≡ length before + length more) × ((of : ℕ) → closings of es ≡ closings of before + waits_more closed of)
closes-with more closed old new adds grew es told =
    let l = LongerBy-from more old es (sym grew ∙ told) in (
      l.before,
      l.was,
      ap (length {A = LogEntry}) l.is ∙ length-append l.before more,
      (λ of. ap (closings of) l.is ∙ closings-append of l.before more ∙ ap (λ (k : ℕ). closings of l.before + k) (adds of)),
    )

-- an entry is closed at most once more
pub closed-once : (closed : Option ℕ) (of n m : ℕ) → m ≡ n + waits_more closed of → n ≤ 1 → ((k : ℕ) → closed ≡ Some k → k ≡ of → n ≡ 0) → m ≤ 1
closed-once None of n m is few was = omega (arith, is, few)
closed-once (Some k) of n m is few was = by (k == of) refl
  where
    by : (b : Bool) → (k == of) ≡ b → m ≤ 1
    by false other = omega (arith, is, few, ap {B = ℕ} (λ (b : Bool). cond b 1 0) other)
    by true same = omega (arith, is, was k refl (eqb-true k of same), ap {B = ℕ} (λ (b : Bool). cond b 1 0) same)

-- an entry that was open is so where another was closed
pub still-open : (closed : Option ℕ) (of n m : ℕ) → m ≡ n + waits_more closed of → n ≡ 0 → ((k : ℕ) → closed ≡ Some k → k ≡ of → ⊥) → m ≡ 0
still-open None of n m is was differs = omega (arith, is, was)
still-open (Some k) of n m is was differs = by (k == of) refl
  where
    by : (b : Bool) → (k == of) ≡ b → m ≡ 0
    by false other = omega (arith, is, was, ap {B = ℕ} (λ (b : Bool). cond b 1 0) other)
    by true same = absurd (differs k refl (eqb-true k of same))
