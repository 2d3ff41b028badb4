-- What is sought by a lookup after the outcome of its open order, as it is noted.
use Rattle.walk_lookup.proofs.Names.{◌≡◌, ◌≢◌, ℕ, ◌+◌, ◌<◌, Bool, true, false, not, List, [], ◌∷◌, length, Option, Some, None, IfSome, ⊎_elim, refl, sym, ap, subst, ◌∙◌, arith, length-append, if◌then◌else◌, ◌==◌, nat_lt, unwrap_or, IpAddr, Log, Extends, denies, Answered, entry_of, After, Outcome, SentBy, Tick, PoolServer, has_order, end_by, closing_entry, after_outcome, HeardEnd, entries_of, LookupState, IsBackingOffUnder, heard_after, with_end, closed_by, moved_to, IsOpenOrder, Shared, lookup_at, lookup_of, denied_in, SameBut, HasPut, OpenLookup, put_rest, last_entry, IsPut, seen_with, LogView, Advances, OrderTarget, PendingHolds, IsSentTo, OpenOrderHolds, MayTake, MayTakeBy, given_after, first_of, sent_to, polled_by, either, noted, OpenOrder, PendingLookup, heard_none, heard_some, heard_sleep, open_has, sleep_has, has_more_ends}
use Rattle.walk_lookup.proofs.SendEndsInLog.{done-so}
use Rattle.walk_lookup.proofs.AfterOutcome.{entries-more, come-stands, taken-holds, slept-holds}
use Rattle.walk_lookup.proofs.LogAfterPut.{goes-on, put-later, later-put}
use Rattle.walk_lookup.proofs.SharedAfterStep.{put-there, put-order}
use Rattle.walk_lookup.specs.declared.pending_lookup.OrderTarget.TheVariants as aim

-- ---- the open order

-- what holds of the order that is given
given-holds : (view : LogView) (shared : Shared) (n : ℕ) (s : PendingLookup) (servers : List PoolServer) (l : LookupState) (g : OpenOrder) (o : Option OpenOrder) → o ≡ Some g
    → IfSome o (λ k. OpenOrderHolds view shared n s.zone servers l k k.aim) → OpenOrderHolds view shared n s.zone servers l g g.aim
given-holds view shared n s servers l g o is holds = subst (λ (o : Option OpenOrder). IfSome o (λ k. OpenOrderHolds view shared n s.zone servers l k k.aim)) is holds

module _ (view : LogView) (old : Shared) (n : ℕ) (s : PendingLookup) (g : OpenOrder) (holds : PendingHolds view old n s) (given : s.given ≡ Some g) where
  abbrev l : LookupState
  l = holds.shared_by.lookup

  ordered : OpenOrderHolds view old n s.zone l.servers l g g.aim
  ordered = given-holds view old n s l.servers l g s.given given holds.given

  -- it stands under its number, and is open
  order-open : (a : OrderTarget) → OpenOrderHolds view old n s.zone l.servers l g a → (lookup_of old g.number ≡ Some n) × (has_order g.number l ≡ true)
  order-open (aim.Open ip) gave = (gave.of, open_has g.number gave.candidate false l gave.open_to)
  order-open (aim.Ask ip) gave = (gave.of, open_has g.number gave.candidate true l gave.open_to)
  order-open aim.Sleep gave = (gave.0, sleep_has g.number l gave.1)

  -- The open order of a lookup is open at it.
  pub open-order : IsOpenOrder g.number n holds.shared_by old
  open-order = let at = order-open g.aim ordered in record { order = at.0; there = holds.there; waits = at.1 }

-- ---- whether a send ended

abbrev is_some : Option Answered → Bool
is_some None = false
is_some (Some r) = true

same-lt : (k : ℕ) → nat_lt k k ≡ false
same-lt k = grind arith

more-lt : (k : ℕ) → nat_lt k (k + 1) ≡ true
more-lt k = grind arith

-- the moment of the last end is that of a new one
at-noted : (r : Option Answered) (ended : Bool) (now at : ℕ) → ended ≡ is_some r → (elim r [
  | None ↦ at
  | Some x ↦ now
]) ≡ unwrap_or (if ended then Some now else None) at
at-noted None ended now at is = ap (λ (b : Bool). unwrap_or (if b then Some now else None) at) (sym is)
at-noted (Some x) ended now at is = ap (λ (b : Bool). unwrap_or (if b then Some now else None) at) (sym is)

-- ---- what is sought

module _ (view : LogView) (longer : Log) (old new : Shared) (n : ℕ) (its : PendingLookup) (tick : Tick) (w : Option SentBy) (o : Outcome) (g : OpenOrder) (did : After)
    (put : IsPut view tick w o (done-so did) longer) (hold : PendingHolds view old n its) (given : its.given ≡ Some g) (denied : denied_in old ≡ denies view.policy.answer_filter)
    (puts : HasPut g.number n hold.shared_by o tick old (done-so did) new) where
  abbrev next : LogView
  next = seen_with view tick w o (done-so did) longer

  abbrev last : ℕ
  last = next.greatest

  abbrev again : OpenOrder
  again = record g { polled = polled_by o }

  abbrev ended : Bool
  ended = has_more_ends old new n

  -- what is noted
  abbrev after : PendingLookup
  after = noted (given_after again did) (first_of g.aim w o) (if ended then Some tick.now else None) its

  abbrev state : LookupState
  state = hold.shared_by.lookup

  abbrev come : LookupState
  come = after_outcome (denies view.policy.answer_filter) tick g.number o state

  ahead : Advances view next
  ahead = later-put view tick w o (done-so did) longer put

  on : Extends put.on.told longer
  on = goes-on tick.now w o (done-so did) put.on.told longer put.on.goes_on

  rest : SameBut n old new
  rest = put_rest g.number n hold.shared_by o tick old new (done-so did) (open-order view old n its g hold given).order puts

  -- the lookup as it came on
  there : lookup_at new n ≡ Some (moved_to come hold.shared_by)
  there =
      put-there g.number n hold.shared_by o tick old new (done-so did) hold.there puts
      ∙ ap (λ (d : IpAddr → Bool). Some (moved_to (after_outcome d tick g.number o state) hold.shared_by)) denied

  -- an order that is open still stands under its number
  order-new : has_order g.number come ≡ true → lookup_of new g.number ≡ Some n
  order-new still =
      put-order g.number n hold.shared_by o tick old new (done-so did) (open-order view old n its g hold given).order puts
      (subst (λ (d : IpAddr → Bool). has_order g.number (after_outcome d tick g.number o state) ≡ true) (sym denied) still)

  -- by how many entries the lookup stands says whether a send ended
  entries-come : come.closed_by ≡ entries_of (heard_after tick.patience g.number o hold.heard state)
  entries-come = (come-stands view last put.on.told longer put.on.tells.extends on ahead.extends old new n its tick w o put.patient ahead.moment ahead.greatest rest hold g there).keeps.entries

  ended-by_entries : (heard : List HeardEnd) → heard_after tick.patience g.number o hold.heard state ≡ heard → ended ≡ nat_lt (length (entries_of hold.heard)) (length (entries_of heard))
  ended-by_entries heard is =
      ap (λ (x : Option OpenLookup). nat_lt (length (closed_by x)) (length (closed_by (lookup_at new n)))) hold.there
      ∙ ap (λ (ns : List ℕ). nat_lt (length ns) (length (closed_by (lookup_at new n)))) hold.stands.keeps.entries
      ∙ ap (λ (x : Option OpenLookup). nat_lt (length (entries_of hold.heard)) (length (closed_by x))) there
      ∙ ap (λ (ns : List ℕ). nat_lt (length (entries_of hold.heard)) (length ns)) (entries-come ∙ ap entries_of is)

  none-ended : heard_after tick.patience g.number o hold.heard state ≡ hold.heard → ended ≡ false
  none-ended is = ended-by_entries hold.heard is ∙ same-lt (length (entries_of hold.heard))

  some-ended : (c : PoolServer) (r : Answered) (entry : ℕ) → heard_after tick.patience g.number o hold.heard state ≡ with_end hold.heard c r entry → ended ≡ true
  some-ended c r entry is =
      ended-by_entries (with_end hold.heard c r entry) is
      ∙ ap (λ (ns : List ℕ). nat_lt (length (entries_of hold.heard)) (length ns)) (entries-more hold.heard c r entry)
      ∙ ap (nat_lt (length (entries_of hold.heard))) (length-append (entries_of hold.heard) (entry ∷ []))
      ∙ more-lt (length (entries_of hold.heard))

  -- what is sought, with another first address and moment
  abbrev with_both : Option IpAddr → ℕ → PendingLookup
  with_both first at = record its { given = given_after again did; first = either its.first first; at = at; came = None }

  module _ (ended_before : Bool) (before : ended_before ≡ not (length (closed_by (lookup_at old n)) == 0)) where
    -- an order to open or to ask
    sent-after : (asks : Bool) (ip : IpAddr) (to : IsSentTo view old n its.zone state.servers state g asks ip) → entry_of o ≢ 0
        → MayTake its.start its.query its.first ended_before g.since g.polled asks ip w o
        → (IsSentTo next new n its.zone come.servers come again asks ip → OpenOrderHolds next new n its.zone come.servers come again again.aim)
        → first_of g.aim w o ≡ sent_to w o → PendingHolds next new n after
    sent-after asks ip to some may as_given first =
        let under : view.greatest < entry_of o = ⊎_elim (λ less. less) (λ none. absurd (some none)) put.next in
        let most = put-later view tick w o (done-so did) longer put in
        let greater : last ≡ last_entry (done-so did) w o = omega (arith, under, most) in
        let r = end_by tick.patience o to.open_to.attempt in
        let taken = taken-holds view last put.on.told longer put.on.tells.extends on ahead.extends old new n its tick w o put.patient ahead.moment ahead.greatest rest hold g there asks ip to under ended_before
        (before ∙ ap (λ (x : Option OpenLookup). not (length (closed_by x) == 0)) hold.there) may put.on.tells did put.on.goes_on greater (omega (arith, most)) puts.did order-new as_given in
        let at = at-noted r ended tick.now its.at (ended-is r refl) in
        subst (λ (first : Option IpAddr). PendingHolds next new n (with_both first (unwrap_or (if ended then Some tick.now else None) its.at))) (sym first)
        (subst (λ (at : ℕ). PendingHolds next new n (with_both (sent_to w o) at)) at taken)
      where
        ended-is : (r : Option Answered) → end_by tick.patience o to.open_to.attempt ≡ r → ended ≡ is_some r
        ended-is None is = none-ended (heard_none (denies view.policy.answer_filter) tick g.number o hold.heard state to.candidate asks to.open_to is)
        ended-is (Some r) is = some-ended to.candidate r (closing_entry o) (heard_some (denies view.policy.answer_filter) tick g.number o hold.heard state to.candidate asks to.open_to r is)

    -- a sleep
    slept-after : (under : IsBackingOffUnder g.number state) → g.aim ≡ aim.Sleep → PendingHolds next new n after
    slept-after under asleep =
        let slept = slept-holds view last put.on.told longer put.on.tells.extends on ahead.extends old new n its tick w o put.patient ahead.moment ahead.greatest rest hold g there asleep under did puts.did order-new in
        let none : ended ≡ false = none-ended (heard_sleep (denies view.policy.answer_filter) tick g.number o hold.heard state under) in
        let at : its.at ≡ unwrap_or (if ended then Some tick.now else None) its.at = at-noted None ended tick.now its.at none in
        let first : first_of g.aim w o ≡ None = ap (λ (a : OrderTarget). first_of a w o) asleep in
        subst (λ (first : Option IpAddr). PendingHolds next new n (with_both first (unwrap_or (if ended then Some tick.now else None) its.at))) (sym first)
        (subst (λ (at : ℕ). PendingHolds next new n (with_both None at)) at slept)

    after-by : (a : OrderTarget) → g.aim ≡ a → OpenOrderHolds view old n its.zone state.servers state g a → MayTakeBy its ended_before g a w o → PendingHolds next new n after
    after-by (aim.Open ip) is gave may =
        sent-after false ip gave may.0 may.1 (λ to. subst (λ (a : OrderTarget). OpenOrderHolds next new n its.zone come.servers come again a) (sym is) to) (ap (λ (a : OrderTarget). first_of a w o) is)
    after-by (aim.Ask ip) is gave may =
        sent-after true ip gave may.0 may.1 (λ to. subst (λ (a : OrderTarget). OpenOrderHolds next new n its.zone come.servers come again a) (sym is) to) (ap (λ (a : OrderTarget). first_of a w o) is)
    after-by aim.Sleep is gave may = slept-after gave.1 is

    -- What is sought after the outcome.
    pub after-holds : MayTakeBy its ended_before g g.aim w o → PendingHolds next new n after
    after-holds may = after-by g.aim refl (ordered view old n its g hold given) may
