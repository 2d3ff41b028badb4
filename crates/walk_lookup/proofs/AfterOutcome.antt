-- What is sought by a lookup after the outcome of its open order.
use Rattle.walk_lookup.proofs.Names.{◌≡◌, ℕ, ◌+◌, ◌≤◌, ◌<◌, Bool, true, false, not, List, [], ◌∷◌, ◌++◌, map, length, Contains, Option, Some, None, IfSome, ⊎_elim, refl, sym, ap, subst, ◌∙◌, arith, ◌==◌, IsPermutation, same_Some, map-append, All-contains, Contains-permutation, IsPermutation-sym, IpAddr, Log, Extends, Query, denies, NameServer, waits, Answered, End, class_of_answer, waits-extend, entry_of, pendings, after_put, After, Outcome, Pending, SentBy, Tick, class_of_sent, PoolServer, has_order, closing_entry, end_by, after_outcome, done_by, HeardEnd, ends_of, entries_of, HoldsBy, LookupState, BegunWith, begun_with, IsOpenTo, IsBackingOffUnder, heard_after, with_end, outcome_same, outcome_by, outcome_moment, IsSameEnd, SameEnds, at_address, moved_to, lookup_at, lookup_of, SameBut, Shared, address_from_pool, WaitsBy, OutcomeIs, TellsOutcome, LogGoesOn, last_entry, LogView, Advances, seen_at, Tried, Began, BeganBy, server_at, IsAt, IsWaitedFor, IsSentTo, OpenOrderHolds, PendingHolds, MayTake, either, sent_to, polled_by, given_after, OrderTarget, OpenOrder, PendingLookup, open_did, heard_none, heard_some, keeps, kept_open, kept_has, heard_sleep, rests_under, rests_has}
use Rattle.server_pool.proofs.ListsRelated.{beside_push}
use Rattle.walk_lookup.proofs.LookupAdvances.{serves-on, for-on, began-kept}
use Rattle.walk_lookup.proofs.KnownIsCarried.{config-same}
use Rattle.walk_lookup.proofs.OrderIsGiven.{known-still}
use Rattle.walk_lookup.proofs.SentInLog.{outcome-extend, waits-extend_by}
use Rattle.walk_lookup.proofs.SendEndsInLog.{IsEndedBy, done-so, ended-by, ended-last}
use Rattle.walk_lookup.proofs.OneMoreEnd.{tried-more, tried-on, outcome-began}
use Rattle.walk_lookup.proofs.WaitedOnceMore.{polled-more, polled-waited}
use Rattle.server_core.specs.declared.orders.order.After.TheVariants as after
use Rattle.walk_lookup.specs.declared.pending_lookup.OrderTarget.TheVariants as aim

-- ---- one more end

-- an end that was heard
abbrev an-end : PoolServer → Answered → ℕ → HeardEnd
an-end c r entry = record { end = record { server = c; outcome = r }; by = entry }

pub entries-more : (heard : List HeardEnd) (c : PoolServer) (r : Answered) (entry : ℕ) → entries_of (with_end heard c r entry) ≡ entries_of heard ++ entry ∷ []
entries-more heard c r entry = map-append (λ (h : HeardEnd). h.by) heard (an-end c r entry ∷ [])

ends-more : (heard : List HeardEnd) (c : PoolServer) (r : Answered) (entry : ℕ) → ends_of (with_end heard c r entry) ≡ ends_of heard ++ (an-end c r entry).end ∷ []
ends-more heard c r entry = map-append (λ (h : HeardEnd). h.end) heard (an-end c r entry ∷ [])

-- before the first end only where the first send goes is known
began-none : (log : Log) (q : Query) (greatest : ℕ) (first : Option IpAddr) (ns : List ℕ) (ends : List (End IpAddr)) (start : ℕ) → ns ≡ []
    → Began log q greatest first ns ends start → IfSome first (λ to. BeganBy log q to greatest start)
began-none log q greatest first [] ends start none b = b
began-none log q greatest first (n ∷ ns) ends start none b = cc

-- ---- an outcome

module _ (view : LogView) (last : ℕ) (told longer : Log) (x : Extends view.log told) (y : Extends told longer) (whole : Extends view.log longer) (old new : Shared) (n : ℕ) (s : PendingLookup) (tick : Tick) (w : Option SentBy)
    (o : Outcome) (patient : view.policy.patience ≤ tick.patience) (later : view.moment ≤ tick.now) (le : view.greatest ≤ last) (rest : SameBut n old new) (h : PendingHolds view old n s) (g : OpenOrder)
    (there : lookup_at new n ≡ Some (moved_to (after_outcome (denies view.policy.answer_filter) tick g.number o h.shared_by.lookup) h.shared_by)) where
  -- so far the machine has come then
  abbrev next : LogView
  next = seen_at view.policy last tick.now longer

  ahead : Advances view next
  ahead = record { policy = refl; patience = omega arith; greatest = le; moment = later; extends = whole }

  abbrev number : ℕ
  number = g.number

  abbrev l : LookupState
  l = h.shared_by.lookup

  abbrev denied : IpAddr → Bool
  denied = denies view.policy.answer_filter

  -- what the lookup has come to
  abbrev come : LookupState
  come = after_outcome denied tick number o l

  come-same : begun_with come ≡ begun_with l
  come-same = outcome_same denied tick number o l

  come-servers : come.servers ≡ l.servers
  come-servers = ap (λ (b : BegunWith). b.servers) come-same

  pub come-stands : HoldsBy denied (heard_after tick.patience number o h.heard l) come
  come-stands = outcome_by denied tick number o h.heard l h.stands

  -- What is sought by it, where these ends were heard.
  come-holds : (heard : List HeardEnd) → heard_after tick.patience number o h.heard l ≡ heard → (ends : List (End IpAddr)) → (given : Option OpenOrder) → (first : Option IpAddr) → (at : ℕ)
      → SameEnds (at_address h.ip_of) (class_of_sent s.query) (class_of_answer s.query) (ends_of heard) ends
      → Tried next s.zone s.query h.ips s.start first (entries_of heard) ends at
      → IfSome given (λ g. OpenOrderHolds next new n s.zone come.servers come g g.aim)
      → PendingHolds next new n (record s { given = given; first = first; at = at; came = None })
  come-holds heard is ends given first at beside tried gave =
      let past = h.past in
      record {
        shared_by = moved_to come h.shared_by;
        there = there;
        asks = ap (λ (b : BegunWith). b.request.query) come-same ∙ h.asks;
        starts = ap (λ (b : BegunWith). b.start) come-same ∙ h.starts;
        time = ap (λ (b : BegunWith). b.timeout) come-same ∙ h.time;
        lasts = h.lasts;
        past = omega (arith, past, later);
        ips = h.ips;
        served = for-on view next ahead s.query s.zone h.ips h.served;
        ip_of = h.ip_of;
        known = known-still view old new n s rest h come.servers come-servers;
        whole = subst (λ (cs : List PoolServer). IsPermutation h.ips (map (at_address h.ip_of) cs)) (sym come-servers) h.whole;
        heard = heard;
        stands = subst (λ (hs : List HeardEnd). HoldsBy denied hs come) is come-stands;
        decided = λ answer at is. ⊎_elim (λ here. omega (arith, here)) (λ before. let early = h.decided answer at before in omega (arith, early, later))
            (outcome_moment denied tick o l number answer at is);
        ends = ends;
        beside = beside;
        tried = tried;
        given = gave;
        came = tt;
      }

  -- ---- of a send

  module _ (asks : Bool) (ip : IpAddr) (sent : IsSentTo view old n s.zone l.servers l g asks ip) (under : view.greatest < entry_of o) (ended : Bool)
      (ended-is : ended ≡ not (length l.closed_by == 0)) (may : MayTake s.start s.query s.first ended g.since g.polled asks ip w o) (tells : TellsOutcome view.moment view.log tick w o told) (did : After)
      (goes : LogGoesOn tick.now w o (done-so did) told longer) (last-is : last ≡ last_entry (done-so did) w o) (past-entry : entry_of o ≤ last) (did-is : did ≡ done_by tick.patience number o l)
      (order : has_order number come ≡ true → lookup_of new number ≡ Some n) where
    abbrev c : PoolServer
    c = sent.candidate

    abbrev ns : List ℕ
    ns = entries_of h.heard

    -- the order as it is kept
    abbrev again : OpenOrder
    again = record g { polled = polled_by o }

    -- the log has it
    fits : OutcomeIs longer tick.now o
    fits = outcome-extend told longer y tick.now o tells.fits.is

    waited : WaitsBy longer w o
    waited = waits-extend_by told longer y w o tells.waits_by

    did-put : did ≡ after_put tick.patience sent.open_to.attempt.send.stage o
    did-put = did-is ∙ open_did denied tick number o h.heard l c asks sent.open_to

    -- the address of the candidate
    at-ip : h.ip_of c.server ≡ ip
    at-ip =
        let known = All-contains (λ c. IsAt old.table (h.ip_of c.server) c) l.servers c h.known sent.from_pool in
        ap (λ (config : NameServer). config.ip) (same_Some _ _ (sym known.config ∙ sent.at.config))

    -- is one of those of the zone
    from-ips : Contains h.ips ip
    from-ips =
        subst (Contains h.ips) at-ip
        (Contains-permutation (map (at_address h.ip_of) l.servers) h.ips (h.ip_of c.server) (IsPermutation-sym h.ips (map (at_address h.ip_of) l.servers) h.whole)
        (address_from_pool h.ip_of l.servers c sent.from_pool))

    -- with this poll it was waited for as often as it was polled
    enough-by : (p : Outcome) → view.greatest < entry_of p → MayTake s.start s.query s.first ended g.since g.polled asks ip w p → WaitsBy told w p → entry_of p < told.next → (entry of : ℕ) → p ≡ Pending entry of
        → pendings sent.open_to.attempt.send.stage + 1 ≤ waits longer of (entry + 1)
    enough-by p up may by within entry of is =
        at_sent w (subst (λ (q : Outcome). MayTake s.start s.query s.first ended g.since g.polled asks ip w q) is may) (subst (λ (q : Outcome). WaitsBy told w q) is by)
      where
        low : view.greatest < entry
        low = subst (λ (q : Outcome). view.greatest < entry_of q) is up

        inside : entry < told.next
        inside = subst (λ (q : Outcome). entry_of q < told.next) is within

        at_sent : (v : Option SentBy) → MayTake s.start s.query s.first ended g.since g.polled asks ip v (Pending entry of) → WaitsBy told v (Pending entry of)
            → pendings sent.open_to.attempt.send.stage + 1 ≤ waits longer of (entry + 1)
        at_sent None may by = absurd may
        at_sent (Some v) may by =
            let many = polled-more view entry told x g.polled of (pendings sent.open_to.attempt.send.stage) sent.polled may.1 low (by may.0).logged in
            let kept = waits-extend told longer y of (entry + 1) (omega (arith, inside)) in
            omega (arith, many, kept)

    enough : (entry of : ℕ) → o ≡ Pending entry of → pendings sent.open_to.attempt.send.stage + 1 ≤ waits longer of (entry + 1)
    enough = enough-by o under may tells.waits_by tells.fits.within

    -- before the first end the outcome says how the first send began
    none-before : ns ≡ [] → ended ≡ false
    none-before is = ended-is ∙ ap (λ (ks : List ℕ). not (length ks == 0)) (h.stands.keeps.entries ∙ is)

    first-began : ns ≡ [] → IfSome s.first (λ to. BeganBy longer s.query to last s.start) → IfSome (sent_to w o) (λ to. BeganBy longer s.query to last s.start)
    first-began is known =
        outcome-began longer s.query s.start last last g.since tick.now s.first g.polled asks ip w o known (omega arith) past-entry
        (subst (λ (b : Bool). MayTake s.start s.query s.first b g.since g.polled asks ip w o) (none-before is) may) fits waited

    -- ---- the order, where it stays open

    module _ (kept : did ≡ after.Kept) where
      -- the poll that found nothing
      entry-last : (p : Outcome) → (entry of : ℕ) → p ≡ Pending entry of → last ≡ last_entry (done-so after.Kept) w p → last ≡ entry
      entry-last p entry of is at = at ∙ ap entry_of is

      polled-once : (still : IsOpenTo number c asks come) → pendings still.attempt.send.stage ≡ pendings sent.open_to.attempt.send.stage + 1 → IsWaitedFor next (polled_by o) (pendings still.attempt.send.stage)
      polled-once still polls =
          let k = keeps denied tick number o h.heard l c asks sent.open_to did did-is kept in
          let at : last ≡ k.entry = entry-last o k.entry k.of k.is (last-is ∙ ap (λ (d : After). last_entry (done-so d) w o) kept) in
          let within : k.entry < told.next = subst (λ (q : Outcome). entry_of q < told.next) k.is tells.fits.within in
          let longer_than = y.later in
          let waits_so = polled-waited next k.entry k.of (pendings sent.open_to.attempt.send.stage) (omega (arith, at)) (omega (arith, within, longer_than)) (enough k.entry k.of k.is) in
          subst (λ (q : Option ℕ). IsWaitedFor next q (pendings still.attempt.send.stage)) (sym (ap polled_by k.is))
          (subst (λ (m : ℕ). IsWaitedFor next (Some k.of) m) (sym polls) waits_so)

      sent-still : IsSentTo next new n s.zone come.servers come again asks ip
      sent-still =
          let past = sent.past in
          let still = kept_open denied tick number o h.heard l c asks sent.open_to did did-is kept in
          record {
            of = order (kept_has denied tick number o h.heard l c asks sent.open_to did did-is kept);
            candidate = c;
            from_pool = subst (λ (cs : List PoolServer). Contains cs c) (sym come-servers) sent.from_pool;
            at = record {
              config = config-same old.table new.table c.server (server_at ip) rest.servers.configs sent.at.config;
              beyond_udp = sent.at.beyond_udp;
              trusted = sent.at.trusted;
            };
            open_to = still.0;
            past = omega (arith, past, le);
            serves = serves-on view next ahead (g.since + 1) (g.since + 1) ip s.zone (omega arith) sent.serves;
            polled = polled-once still.0 still.1;
          }

    module _ (as-given : IsSentTo next new n s.zone come.servers come again asks ip → OpenOrderHolds next new n s.zone come.servers come again again.aim) where
      given-still : (d : After) → did ≡ d → IfSome (given_after again d) (λ k. OpenOrderHolds next new n s.zone come.servers come k k.aim)
      given-still after.Kept is = as-given (sent-still is)
      given-still _ is = tt

      -- by whether the send ended
      taken-by : (result : Option Answered) → end_by tick.patience o sent.open_to.attempt ≡ result
          → PendingHolds next new n (record s { given = given_after again did; first = either s.first (sent_to w o); at = elim result [ None ↦ s.at | Some r ↦ tick.now ]; came = None })
      taken-by None is =
          come-holds h.heard (heard_none denied tick number o h.heard l c asks sent.open_to is) h.ends (given_after again did) (either s.first (sent_to w o)) s.at h.beside
          (tried-on view next ahead s.zone s.query h.ips s.start s.first (sent_to w o) ns h.ends s.at h.tried first-began) (given-still did refl)
      taken-by (Some r) is =
          let past = h.past in
          let start : s.start ≤ tick.now = omega (arith, past, later) in
          let came = ended-by next tick.now g.since s.zone s.query ip (serves-on view next ahead (g.since + 1) (g.since + 1) ip s.zone (omega arith) sent.serves) h.served.above
          tick.patience s.start s.first ended asks g.polled sent.open_to.attempt.send told did r patient sent.open_to.form w o may fits tells.waits_by goes did-put enough is in
          let closing : last ≡ closing_entry o =
          last-is ∙ ended-last next tick.now g.since s.zone s.query ip (serves-on view next ahead (g.since + 1) (g.since + 1) ip s.zone (omega arith) sent.serves) h.served.above
          tick.patience s.start s.first ended asks g.polled sent.open_to.attempt.send told did r patient sent.open_to.form w o may did-put is in
          let by = subst (λ (k : ℕ). IsEndedBy next tick.now k s.zone s.query ip r) (sym closing) came.0 in
          let kept = began-kept longer longer (record { later = omega arith; kept = λ n h. refl }) s.query last last s.first ns h.ends s.start (omega arith) (began-kept view.log longer whole s.query view.greatest last s.first ns h.ends s.start le h.tried.began) in
          let here : ns ≡ [] → BeganBy longer s.query ip last s.start = λ none.
          -- the first end is at the address to which the first send went
          subst (λ (to : Option IpAddr). IfSome to (λ to. BeganBy longer s.query to last s.start)) came.1 (first-began none (began-none longer s.query last s.first ns h.ends s.start none kept)) in
          let end : End IpAddr = record { server = ip; outcome = by.outcome } in
          let below : view.greatest < last = omega (arith, under, past-entry) in
          let more = tried-more view next ahead s.zone s.query h.ips s.start s.first (either s.first (sent_to w o)) ns h.ends s.at ip r by h.tried below start from-ips here in
          let heard-is : heard_after tick.patience number o h.heard l ≡ with_end h.heard c r last =
          heard_some denied tick number o h.heard l c asks sent.open_to r is ∙ ap (λ (k : ℕ). with_end h.heard c r k) (sym closing) in
          come-holds (with_end h.heard c r last) heard-is (h.ends ++ end ∷ []) (given_after again did) (either s.first (sent_to w o)) tick.now
          (subst (λ es. SameEnds (at_address h.ip_of) (class_of_sent s.query) (class_of_answer s.query) es (h.ends ++ end ∷ [])) (sym (ends-more h.heard c r last))
          (beside_push (IsSameEnd (at_address h.ip_of) (class_of_sent s.query) (class_of_answer s.query)) h.beside (record { server = sym at-ip; outcome = by.class })))
          (subst (λ (ks : List ℕ). Tried next s.zone s.query h.ips s.start (either s.first (sent_to w o)) ks (h.ends ++ end ∷ []) tick.now) (sym (entries-more h.heard c r last)) more)
          (given-still did refl)

      -- What is sought after the outcome.
      pub taken-holds : PendingHolds next new n
          (record s { given = given_after again did; first = either s.first (sent_to w o); at = elim (end_by tick.patience o sent.open_to.attempt) [ None ↦ s.at | Some r ↦ tick.now ]; came = None })
      taken-holds = taken-by (end_by tick.patience o sent.open_to.attempt) refl

  -- ---- of a sleep

  -- What is sought after it: no end was heard, and nothing is known of where it went.
  module _ (asleep : g.aim ≡ aim.Sleep) (under : IsBackingOffUnder g.number l) (did : After) (did-is : did ≡ done_by tick.patience g.number o l)
      (order : has_order g.number come ≡ true → lookup_of new g.number ≡ Some n) where
    -- the order as it is kept
    abbrev rested : OpenOrder
    rested = record g { polled = polled_by o }

    resting : did ≡ after.Kept → OpenOrderHolds next new n s.zone come.servers come rested g.aim
    resting kept =
        subst (λ (a : OrderTarget). OpenOrderHolds next new n s.zone come.servers come rested a) (sym asleep)
        (order (rests_has denied tick g.number o h.heard l under did did-is kept), rests_under denied tick g.number o h.heard l under did did-is kept)

    rested-by : (d : After) → did ≡ d → IfSome (given_after rested d) (λ k. OpenOrderHolds next new n s.zone come.servers come k k.aim)
    rested-by after.Kept is = resting is
    rested-by _ is = tt

    pub slept-holds : PendingHolds next new n (record s { given = given_after rested did; first = either s.first None; at = s.at; came = None })
    slept-holds =
        come-holds h.heard (heard_sleep denied tick g.number o h.heard l under) h.ends (given_after rested did) (either s.first None) s.at h.beside
        (tried-on view next ahead s.zone s.query h.ips s.start s.first None (entries_of h.heard) h.ends s.at h.tried (λ none known. tt)) (rested-by did refl)
