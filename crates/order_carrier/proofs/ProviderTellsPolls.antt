-- What a provider tells of what was sent for an order.
use Rattle.std.proofs.Common.{Bool, true, false, cond, ◌≡◌, ℕ, List, Option, Some, None, refl, sym, ◌∙◌, ap, subst}
use Rattle.std.proofs.lemmas.Option.{same_Some}
use Rattle.std.specs.declared.net.ip_addr.IpAddr.{IpAddr}
use Rattle.dns_core.specs.Connection.{Peer, protocol_of}
use Rattle.dns_core.specs.Log.{added, told_error}
use Rattle.dns_core.specs.NetError.{is_memory}
use Rattle.dns_core.specs.declared.log.LogEntry.{LogEntry}
use Rattle.dns_core.specs.declared.log.LogEntry.TheVariants as line
use Rattle.dns_core.specs.declared.log.ToldOutcome.TheVariants as said
use Rattle.dns_core.specs.declared.message.Message.{Message}
use Rattle.dns_core.specs.declared.message.Query.{Query}
use Rattle.dns_core.specs.declared.net_error.NetError.{NetError}
use Rattle.dns_core.specs.declared.provider.ConnectionProvider.{Ghosts}
use Rattle.server_core.specs.declared.orders.order.Order.{Order}
use Rattle.server_core.specs.declared.orders.order.Order.TheVariants.{Open, Ask, Sleep}
use Rattle.server_core.specs.declared.orders.order.SentBy.{SentBy}
use Rattle.order_carrier.specs.Awaited.{aim, aim_of, may_be_polled, sent_of, Target, GoesFor, IsSentFor}
use Rattle.order_carrier.specs.declared.awaited.Awaited.{Awaited}
use Rattle.order_carrier.specs.declared.under_way.UnderWay.{UnderWay as Ongoing}
use Rattle.std.specs.Prelude.{IsTrue}
use Rattle.order_carrier.specs.Awaited.Aim.{Reaches, Asks, Rests}
use Rattle.order_carrier.specs.Did.{made_by}
use Rattle.order_carrier.specs.Did.Stand.{UnderWay, Made}
use Rattle.order_carrier.specs.Stand.{stand_of, IsSlotNamed, IsPolled}
use Rattle.order_carrier.specs.declared.polling.Heard.TheVariants as hear
use Rattle.order_carrier.specs.declared.order_state.OrderState.{OrderState}
use Rattle.order_carrier.specs.declared.order_state.OrderState.TheVariants as slot
use Rattle.order_carrier.proofs.LogGrowsByCalls.{Longer-from_added}

-- where the log is told, the number by which the provider knows what was sent is that of its entry
pub added-named : (told : Option (List LogEntry)) (e : ℕ → LogEntry) (n m : ℕ) → ((es : List LogEntry) → told ≡ Some es → n ≡ m)
    → added (e n) told ≡ added (e m) told
added-named None e n m named = refl
added-named (Some es) e n m named = ap (λ (k : ℕ). added (e k) (Some es)) (named es refl)

-- what opens a connection asks no question
pub opens-nothing : (order : Order) (peer : Peer) (s : SentBy) → Reaches peer ≡ aim_of order → IsSentFor order (Some s) → s.query ≡ None
opens-nothing (Open ip config) peer s goes sends = ap (λ (t : Target). t.query) (same_Some _ _ sends)
opens-nothing (Ask conn ip protocol request) peer s goes sends = cc
opens-nothing (Sleep until) peer s goes sends = cc

-- what asks a question has it
pub asks-question : (order : Order) (ip : IpAddr) (q : Query) (s : SentBy) → Asks ip q ≡ aim_of order → IsSentFor order (Some s) → s.query ≡ Some q
asks-question (Open at config) ip q s goes sends = cc
asks-question (Ask conn at protocol request) ip q s goes sends =
    let asked : s.query ≡ Some request.query = ap (λ (t : Target). t.query) (same_Some _ _ sends) in
    let same : request.query ≡ q = cc in
    asked ∙ ap (λ (q : Query). Some q) same
asks-question (Sleep until) ip q s goes sends = cc

-- what rests is a sleep
pub rests-asleep : (order : Order) (until : ℕ) → Rests until ≡ aim_of order → order ≡ Sleep until
rests-asleep (Open ip config) until goes = cc
rests-asleep (Ask conn ip protocol request) until goes = cc
rests-asleep (Sleep u) until goes = let same : u ≡ until = cc in ap (λ (n : ℕ). Sleep n) same

-- what reaches a peer makes a connection to it
pub makes-connection : (order : Order) (peer : Peer) → Reaches peer ≡ aim_of order → made_by order ≡ Made peer
makes-connection (Open ip config) peer goes =
    let there : Peer = record { ip = ip; protocol = protocol_of config.protocol } in
    let same : there ≡ peer = cc in
    ap (λ (q : Peer). Made q) same
makes-connection (Ask conn ip protocol request) peer goes = cc
makes-connection (Sleep until) peer goes = cc

-- a number by which the provider knows what was sent is the same after an entry
still-named : (e : LogEntry) (old new : Option (List LogEntry)) (n m : ℕ) → new ≡ added e old → ((es : List LogEntry) → old ≡ Some es → n ≡ m)
    → (es : List LogEntry) → new ≡ Some es → n ≡ m
still-named e old new n m grew named es told = let l = Longer-from_added e old es (sym grew ∙ told) in named l.before l.was

-- what is under way goes where its order goes
pub goes-for : {P C F E : Type 0} (p : Ghosts P C F E) (u : Ongoing P C F E p) (a : Awaited F E) → u.awaited ≡ a → GoesFor p u.order.value a
goes-for {P} {C} {F} {E} p u a is = record {
  polls = subst (λ (a : Awaited F E). IsTrue (may_be_polled p.opens p.waits a)) is u.polls;
  goes = subst (λ (a : Awaited F E). aim p.opening p.question a ≡ aim_of u.order.value) is u.goes;
  sends = subst (λ (a : Awaited F E). IsSentFor u.order.value (sent_of a)) is u.sends;
}

-- ---- what a poll of what was sent comes to, by what the provider answered

module _ {P C F E : Type 0} (p : Ghosts P C F E) (now : ℕ) (order : Order) (s : SentBy) (old new : Option (List LogEntry)) (number : ℕ)
    (named : (es : List LogEntry) → old ≡ Some es → number ≡ s.of) where
  -- nothing yet
  pub polled-waiting : (later : ℕ) (left : OrderState P C F E p) → new ≡ added (line.Waited number) old → later ≡ number → stand_of (Some left) ≡ UnderWay order (Some s)
      → (((es : List LogEntry) → new ≡ Some es → later ≡ s.of) → IsSlotNamed p new (Some left)) → IsPolled now order (Some s) old new (record { slot = left; heard = hear.Waiting s.of })
  polled-waiting later left grew same stands names = record {
    hears = refl;
    log = grew ∙ added-named old line.Waited number s.of named;
    stand = stands;
    named = names (λ es told. same ∙ still-named (line.Waited number) old new number s.of grew named es told);
  }

  -- no memory
  pub polled-memory : (later : ℕ) (left : OrderState P C F E p) (error : NetError) → new ≡ told_error number now error old → is_memory error ≡ true → later ≡ number
      → stand_of (Some left) ≡ UnderWay order (Some s) → (((es : List LogEntry) → new ≡ Some es → later ≡ s.of) → IsSlotNamed p new (Some left))
      → IsPolled now order (Some s) old new (record { slot = left; heard = hear.OutOfMemory })
  polled-memory later left error grew memory same stands names =
      let log = grew ∙ ap (λ (b : Bool). cond b old (added (line.Told number now (said.Error error)) old)) memory in
      record { hears = refl; log = log; stand = stands; named = names (λ es told. same ∙ named es (sym log ∙ told)) }

  -- an error
  pub polled-error : (error : NetError) → new ≡ told_error number now error old → is_memory error ≡ false
      → IsPolled {P = P} {C = C} {F = F} {E = E} {p = p} now order (Some s) old new (record { slot = slot.Done; heard = hear.Failed s error })
  polled-error error grew failed = record {
    hears = (refl, failed);
    log = grew ∙ ap (λ (b : Bool). cond b old (added (line.Told number now (said.Error error)) old)) failed ∙ added-named old (λ (of : ℕ). line.Told of now (said.Error error)) number s.of named;
    stand = refl;
    named = tt;
  }

  -- a connection, which reaches whom the order goes to
  pub polled-connected : (peer : Peer) (left : OrderState P C F E p) → new ≡ added (line.Told number now said.Connected) old → Reaches peer ≡ aim_of order → IsSentFor order (Some s)
      → stand_of (Some left) ≡ Made peer → IsSlotNamed p new (Some left) → IsPolled now order (Some s) old new (record { slot = left; heard = hear.Connected s })
  polled-connected peer left grew goes sends stands names = record {
    hears = (refl, opens-nothing order peer s goes sends);
    log = grew ∙ added-named old (λ (of : ℕ). line.Told of now said.Connected) number s.of named;
    stand = stands ∙ sym (makes-connection order peer goes);
    named = names;
  }

  -- an answer to its question
  pub polled-answered : (q : Query) (message : Message) → new ≡ added (line.Told number now (said.Message message)) old → Asks s.ip q ≡ aim_of order → IsSentFor order (Some s)
      → message.query ≡ q → IsPolled {P = P} {C = C} {F = F} {E = E} {p = p} now order (Some s) old new (record { slot = slot.Done; heard = hear.Answered s message })
  polled-answered q message grew goes sends tells = record {
    hears = (refl, asks-question order s.ip q s goes sends ∙ ap (λ (q : Query). Some q) (sym tells));
    log = grew ∙ added-named old (λ (of : ℕ). line.Told of now (said.Message message)) number s.of named;
    stand = refl;
    named = tt;
  }
