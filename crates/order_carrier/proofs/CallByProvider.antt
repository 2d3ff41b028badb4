-- What a call of the provider came to, by what the provider answered.
use Rattle.std.proofs.Common.{Bool, true, false, cond, ◌≡◌, ◌+◌, ℕ, List, [], ◌∷◌, Option, Some, None, refl, sym, ◌∙◌, ap, subst, arith}
use Rattle.std.specs.Prelude.{IsTrue, if◌then◌else◌}
use Rattle.std.proofs.lemmas.Option.{same_Some}
use Rattle.std.specs.declared.net.ip_addr.IpAddr.{IpAddr}
use Rattle.dns_core.specs.Connection.{Peer, protocol_of}
use Rattle.dns_core.specs.Log.{Numbered, added, refused_by}
use Rattle.dns_core.specs.NetError.{is_memory}
use Rattle.dns_core.specs.declared.connection.ConnectionConfig.{ConnectionConfig}
use Rattle.dns_core.specs.declared.connection.Protocol.{Protocol}
use Rattle.dns_core.specs.declared.log.LogEntry.{LogEntry}
use Rattle.dns_core.specs.declared.log.LogEntry.TheVariants.{Opened, Asked}
use Rattle.dns_core.specs.declared.message.Query.{Query}
use Rattle.dns_core.specs.declared.net_error.NetError.{NetError}
use Rattle.dns_core.specs.declared.provider.ConnectionProvider.{Ghosts}
use Rattle.dns_core.specs.declared.request.DnsRequest.{DnsRequest}
use Rattle.server_core.specs.declared.orders.order.Order.{Order}
use Rattle.server_core.specs.declared.orders.order.Order.TheVariants.{Open, Ask}
use Rattle.server_core.specs.declared.orders.order.SentBy.{SentBy}
use Rattle.order_carrier.specs.Awaited.{aim_of, IsSentFor, query_of, sent_for}
use Rattle.order_carrier.specs.Awaited.Aim.{Reaches, Asks}
use Rattle.order_carrier.specs.Calling.{IsOver, AsksOver, IsCalled}
use Rattle.order_carrier.specs.Did.{start_entry}
use Rattle.order_carrier.specs.Growing.{Counted, with_entries}
use Rattle.order_carrier.specs.declared.awaited.Awaited.TheVariants.{Connection, Answer}
use Rattle.order_carrier.specs.declared.calling.Called.TheVariants.{OutOfMemory, Refused, Going}
use Rattle.order_carrier.proofs.OutcomeIsOfItsOrder.{sent_for-sends}

-- what is sent for an order is sent to where it goes
pub sent_for-is : (of now : ℕ) (order : Order) (s : SentBy) → sent_for of now order ≡ Some s → IsSentFor order (Some s)
sent_for-is of now order s is = subst (IsSentFor order) is (sent_for-sends of now order)

-- two that have the number of the entry that was appended are one
numbered-alike : (n m : ℕ) (e : LogEntry) (old new : Option (List LogEntry)) → new ≡ added e old → Numbered n old → Numbered m old
    → (es : List LogEntry) → new ≡ Some es → n ≡ m
numbered-alike n m e None new grew x y es told = let none : None ≡ Some es = sym grew ∙ told in cc
numbered-alike n m e (Some before) new grew x y es told = x ∙ sym y

-- the next number is that of the next entry
pub numbered-next : (n : ℕ) (told : Option (List LogEntry)) → Counted told n → Numbered (n + 1) told
numbered-next n None counted = tt
numbered-next n (Some es) counted = omega (arith, counted es refl)

module _ {P C F E : Type 0} (p : Ghosts P C F E) (now : ℕ) (order : Order) (sent : SentBy) (old new : Option (List LogEntry)) where
  -- an error
  pub refused-called : (error : NetError) (entry : Option NetError → LogEntry) → start_entry now (Some error) order ≡ entry (Some error) ∷ []
      → new ≡ refused_by entry error old → sent_for sent.of now order ≡ Some sent
      → IsCalled p sent.of now order old new (if is_memory error then OutOfMemory else Refused sent error)
  refused-called error entry starts grew sends = by (is_memory error) refl
    where
      by : (b : Bool) → is_memory error ≡ b → IsCalled p sent.of now order old new (cond b OutOfMemory (Refused sent error))
      by true is = record { log = grew ∙ ap (λ (b : Bool). cond b old (added (entry (Some error)) old)) is; may = tt }
      by false is = record {
        log = grew ∙ ap (λ (b : Bool). cond b old (added (entry (Some error)) old)) is ∙ ap (λ (es : List LogEntry). with_entries es old) (sym starts);
        may = (sends, is);
      }

-- a connection that opens
pub opened-called : {P C F E : Type 0} (p : Ghosts P C F E) (now : ℕ) (ip : IpAddr) (config : ConnectionConfig) (sent : SentBy) (old new : Option (List LogEntry)) (future : F)
    → sent_for sent.of now (Open ip config) ≡ Some sent → new ≡ added (Opened ip (protocol_of config.protocol) now None) old
    → Numbered (p.opened future) old × (p.opening future ≡ record { ip = ip; protocol = protocol_of config.protocol }) × IsTrue (p.opens future)
    → IsCalled p sent.of now (Open ip config) old new (Going (Connection future sent))
opened-called p now ip config sent old new future sends grew ok = record {
  log = grew;
  may = (
    record { polls = ok.2; goes = ap (λ (q : Peer). Reaches q) ok.1; sends = sent_for-is sent.of now (Open ip config) sent sends },
    sends,
    (λ numbered. numbered-alike (p.opened future) sent.of (Opened ip (protocol_of config.protocol) now None) old new grew ok.0 numbered),
  );
}

-- an exchange
pub asked-called : {P C F E : Type 0} (p : Ghosts P C F E) (now : ℕ) (over : C) (request : DnsRequest) (sent : SentBy) (old new : Option (List LogEntry)) (exchange : E) (order : Order)
    → AsksOver (p.peer over) order request → sent ≡ record { of = sent.of; ip = (p.peer over).ip; moment = now; query = Some request.query }
    → new ≡ added (Asked (p.peer over).ip (p.peer over).protocol request.query now None) old
    → Numbered (p.asked exchange) old × (p.question exchange ≡ request.query) × IsTrue (p.waits exchange)
    → IsCalled p sent.of now order old new (Going (Answer exchange sent))
asked-called p now over request sent old new exchange order asks is grew ok =
    let peer = p.peer over in
    let e = Asked peer.ip peer.protocol request.query now None in
    let sends : sent_for sent.of now order ≡ Some sent = ap (sent_for sent.of now) asks.asks ∙ ap (λ (s : SentBy). Some s) (sym is) in
    let there : sent.ip ≡ peer.ip = ap (λ (s : SentBy). s.ip) is in
    record {
      log = grew ∙ ap (λ (o : Order). with_entries (start_entry now None o) old) (sym asks.asks);
      may = (
        record {
          polls = ok.2;
          goes = ap (λ (i : IpAddr). Asks i (p.question exchange)) there ∙ ap (λ (q : Query). Asks peer.ip q) ok.1 ∙ ap aim_of (sym asks.asks);
          sends = sent_for-is sent.of now order sent sends;
        },
        sends,
        (λ numbered. numbered-alike (p.asked exchange) sent.of e old new grew ok.0 numbered),
      );
    }

-- and one that was refused
pub asked-refused : {P C F E : Type 0} (p : Ghosts P C F E) (now : ℕ) (over : C) (request : DnsRequest) (sent : SentBy) (old new : Option (List LogEntry)) (error : NetError) (order : Order)
    → AsksOver (p.peer over) order request → sent ≡ record { of = sent.of; ip = (p.peer over).ip; moment = now; query = Some request.query }
    → new ≡ refused_by (Asked (p.peer over).ip (p.peer over).protocol request.query now) error old
    → IsCalled p sent.of now order old new (if is_memory error then OutOfMemory else Refused sent error)
asked-refused p now over request sent old new error order asks is grew =
    let peer = p.peer over in
    refused-called p now order sent old new error (Asked peer.ip peer.protocol request.query now) (ap (start_entry now (Some error)) asks.asks) grew
    (ap (sent_for sent.of now) asks.asks ∙ ap (λ (s : SentBy). Some s) (sym is))

-- ---- an order, and over what it goes

-- what is sent by an entry of a number
abbrev Sent-of : ℕ → IpAddr → ℕ → Option Query → SentBy
Sent-of of ip now query = record { of = of; ip = ip; moment = now; query = query }

-- what an ask goes over
pub asks-over : {P C F E : Type 0} (p : Ghosts P C F E) (order : Order) (over : C) (number : ℕ) (ip : IpAddr) (protocol : Protocol) (request : DnsRequest)
    → order ≡ Ask number ip protocol request → IsOver p order (Some over) → AsksOver (p.peer over) order request
asks-over p order over number ip protocol request is h =
    let peer : p.peer over ≡ record { ip = ip; protocol = protocol } = same_Some _ _ (subst (λ (o : Order). IsOver p o (Some over)) is h) in
    record { conn = number; asks = is ∙ ap (λ (q : Peer). Ask number q.ip q.protocol request) (sym peer) }

-- an ask goes over something
pub over-none : {P C F E : Type 0} (p : Ghosts P C F E) (order : Order) (number : ℕ) (ip : IpAddr) (protocol : Protocol) (request : DnsRequest)
    → order ≡ Ask number ip protocol request → IsOver p order None → ⊥
over-none p order number ip protocol request is h = let never = subst (λ (o : Order). IsOver p o None) is h in cc

-- what is sent for an ask
pub ask-sent : (of now number : ℕ) (peer : Peer) (order : Order) (ip : IpAddr) (protocol : Protocol) (request : DnsRequest) (query : Option Query)
    → order ≡ Ask number ip protocol request → AsksOver peer order request → query ≡ query_of order
    → Sent-of of ip now query ≡ record { of = of; ip = peer.ip; moment = now; query = Some request.query }
ask-sent of now number peer order ip protocol request query is asks asked =
    let there : ip ≡ peer.ip = let same = sym is ∙ asks.asks in cc in
    ap (λ (i : IpAddr). Sent-of of i now query) there ∙ ap (Sent-of of peer.ip now) (asked ∙ ap query_of is)

-- and for an opening
pub open-sent : (of now : ℕ) (order : Order) (ip : IpAddr) (config : ConnectionConfig) (query : Option Query) → order ≡ Open ip config → query ≡ query_of order
    → sent_for of now (Open ip config) ≡ Some (Sent-of of ip now query)
open-sent of now order ip config query is asked = ap (λ (q : Option Query). Some (Sent-of of ip now q)) (sym (asked ∙ ap query_of is))
