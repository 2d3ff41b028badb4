-- What a call with an order did, and what follows of that: the entries that it appended, what it handed out, and where the order stands then.
use Rattle.std.specs.Prelude.{◌≡◌, ◌≤◌, ◌<◌, ◌+◌, ◌^◌, ◌++◌, ◌⊎◌, ℕ, false, true, List, [], ◌∷◌, length, Option, Some, None, IsSome}
use Rattle.std.specs.Option.{option_map}
use Rattle.dns_core.specs.Connection.{Peer, protocol_of}
use Rattle.dns_core.specs.NetError.{is_memory}
use Rattle.dns_core.specs.declared.connection.ConnectOptions.{ConnectOptions}
use Rattle.dns_core.specs.declared.log.LogEntry.{LogEntry}
use Rattle.dns_core.specs.declared.log.LogEntry.TheVariants as line
use Rattle.dns_core.specs.declared.log.ToldOutcome.TheVariants as said
use Rattle.dns_core.specs.declared.net_error.NetError.{NetError}
use Rattle.server_core.specs.declared.orders.order.Order.{Order}
use Rattle.server_core.specs.declared.orders.order.Order.TheVariants.{Open, Ask, Sleep}
use Rattle.server_core.specs.declared.orders.order.SentBy.{SentBy}
use Rattle.server_core.specs.declared.orders.order.Outcome.{Outcome}
use Rattle.server_core.specs.declared.orders.order.Outcome.TheVariants as outcome
use Rattle.order_carrier.specs.Awaited.{IsSentFor, sent_for}
use Rattle.order_carrier.specs.Growing.{with_entries}
use Rattle.order_carrier.specs.declared.key.Form.TheVariants as form
use Rattle.order_carrier.specs.declared.key.OrderKey.{OrderKey}
use Rattle.order_carrier.specs.declared.polling.Heard.{Heard}
use Rattle.order_carrier.specs.declared.polling.Heard.TheVariants as hear

-- What became of an order: it was not started; it is under way, by what was sent for it; it made a connection; or it is over, where its
-- outcome was handed out, or it was given up.
pub data Stand : Type 0 where
  Unseen : Stand
  UnderWay : Order → Option SentBy → Stand
  Made : Peer → Stand
  Over : Stand

-- the order that is under way
abbrev pub order_in : Stand → Option Order
order_in Unseen = None
order_in (UnderWay order sent) = Some order
order_in (Made peer) = None
order_in Over = None

-- what was sent for the order that is under way
abbrev pub sent_in : Stand → Option SentBy
sent_in Unseen = None
sent_in (UnderWay order sent) = sent
sent_in (Made peer) = None
sent_in Over = None

-- A carrier as these definitions see it: the options of its connections, its provider and the log of that, how many entries it counted, and
-- where each order stands.
pub record State (P : Type 0) : Type 0 where
  pub options : ConnectOptions
  pub provider : P
  pub log : Option (List LogEntry)
  pub entries : ℕ
  pub stands : OrderKey → Stand

-- What a call did: the order was barred; it ran out of memory before anything else; the order was started and refused; it was started and
-- polled; or it had been started before, and was polled.
pub data Did : Type 0 where
  Barred : Did
  LacksMemory : Did
  Refused : SentBy → NetError → Did
  Started : Heard → Did
  Polled : Heard → Did

-- ---- what a call may do

-- The connection that an ask names was made, to its address and over its protocol.
abbrev pub HasConnection : (OrderKey → Stand) → Order → Type 0
HasConnection stands (Open ip config) = Unit {0}
HasConnection stands (Ask conn ip protocol request) = stands (record { number = conn; form = form.Open }) ≡ Made (record { ip = ip; protocol = protocol })
HasConnection stands (Sleep until) = Unit {0}

-- An order that was not started has its connection, if it is an ask; else just this order is under way. All others are barred.
abbrev pub IsReady : (OrderKey → Stand) → Order → Stand → Type 0
IsReady stands order Unseen = HasConnection stands order
IsReady stands order (UnderWay started sent) = started ≡ order
IsReady stands order (Made peer) = ⊥
IsReady stands order Over = ⊥

-- Numbers are left for the entries of a call, and for that of a give-up after it.
abbrev pub HasNumbers : ℕ → Type 0
HasNumbers entries = entries + 4 < 2 ^ 64

-- What a poll may come to at a moment, of an order for which this was sent.
abbrev pub MayHear : ℕ → Order → Option SentBy → Heard → Type 0
MayHear now order sent (hear.Waiting of) = option_map (λ (s : SentBy). s.of) sent ≡ Some of
MayHear now order sent hear.OutOfMemory = IsSome sent
MayHear now order sent (hear.Connected s) = (sent ≡ Some s) × (s.query ≡ None)
MayHear now order sent (hear.Answered s message) = (sent ≡ Some s) × (s.query ≡ Some message.query)
MayHear now order sent (hear.Failed s error) = (sent ≡ Some s) × (is_memory error ≡ false)
MayHear now order sent hear.Resting = (until : ℕ) × (order ≡ Sleep until) × (now < until)
MayHear now order sent hear.Slept = (until : ℕ) × (order ≡ Sleep until) × (until ≤ now)

-- It was not started before, an ask has its connection, and numbers are left.
pub record MayStart {P : Type 0} (old : State P) (key : OrderKey) (order : Order) : Type 0 where
  pub numbers : HasNumbers old.entries
  pub unseen : old.stands key ≡ Unseen
  pub connected : HasConnection old.stands order

-- It was under way by what was sent for it, of which this may be heard, and numbers are left.
pub record MayPoll {P : Type 0} (old : State P) (key : OrderKey) (order : Order) (now : ℕ) (heard : Heard) : Type 0 where
  pub numbers : HasNumbers old.entries
  pub sent : Option SentBy
  pub stood : old.stands key ≡ UnderWay order sent
  pub sends : IsSentFor order sent
  pub hears : MayHear now order sent heard

-- What a call may do with an order at a moment: what is started is sent by the next entry.
abbrev pub May : {P : Type 0} → State P → OrderKey → Order → ℕ → Did → Type 0
May old key order now Barred = ¬ IsReady old.stands order (old.stands key)
May old key order now LacksMemory = IsReady old.stands order (old.stands key)
May old key order now (Refused sent error) = MayStart old key order × (sent_for (old.entries + 1) now order ≡ Some sent) × (is_memory error ≡ false)
May old key order now (Started heard) = MayStart old key order × MayHear now order (sent_for (old.entries + 1) now order) heard
May old key order now (Polled heard) = MayPoll old key order now heard

-- For an order that is barred nobody is called, nor for a sleep.
abbrev pub CallsNobody : {P : Type 0} → State P → OrderKey → Order → Type 0
CallsNobody old key order = (IsReady old.stands order (old.stands key) → ⊥) ⊎ ((until : ℕ) × (order ≡ Sleep until))

-- ---- the entries that it appends

-- the entry that starts an order, refused or not; a sleep has none
abbrev pub start_entry : ℕ → Option NetError → Order → List LogEntry
start_entry now refusal (Open ip config) = line.Opened ip (protocol_of config.protocol) now refusal ∷ []
start_entry now refusal (Ask conn ip protocol request) = line.Asked ip protocol request.query now refusal ∷ []
start_entry now refusal (Sleep until) = []

-- the entry of a poll, by what was heard; of a sleep, and where it ran out of memory, there is none
abbrev pub poll_entry : ℕ → Heard → List LogEntry
poll_entry now (hear.Waiting of) = line.Waited of ∷ []
poll_entry now hear.OutOfMemory = []
poll_entry now (hear.Connected sent) = line.Told sent.of now said.Connected ∷ []
poll_entry now (hear.Answered sent message) = line.Told sent.of now (said.Message message) ∷ []
poll_entry now (hear.Failed sent error) = line.Told sent.of now (said.Error error) ∷ []
poll_entry now hear.Resting = []
poll_entry now hear.Slept = []

-- the entries that a call appended: none, one or two
abbrev pub appended : ℕ → Order → Did → List LogEntry
appended now order Barred = []
appended now order LacksMemory = []
appended now order (Refused sent error) = start_entry now (Some error) order
appended now order (Started heard) = start_entry now None order ++ poll_entry now heard
appended now order (Polled heard) = poll_entry now heard

-- ---- what it hands out

-- what is handed out for what was heard, by the entry of the number; nothing where it ran out of memory
abbrev pub told_by : ℕ → Heard → Option (Option Outcome)
told_by entry (hear.Waiting of) = Some (Some (outcome.Pending entry of))
told_by entry hear.OutOfMemory = None
told_by entry (hear.Connected sent) = Some (Some (outcome.Connected entry sent))
told_by entry (hear.Answered sent message) = Some (Some (outcome.Told entry sent message))
told_by entry (hear.Failed sent error) = Some (Some (outcome.Failed entry sent false error))
told_by entry hear.Resting = Some (Some (outcome.Pending 0 0))
told_by entry hear.Slept = Some (Some outcome.Slept)

-- what a call hands out, where the next entry has this number
abbrev pub handed : ℕ → Did → Option (Option Outcome)
handed next Barred = Some None
handed next LacksMemory = None
handed next (Refused sent error) = Some (Some (outcome.Failed next sent true error))
handed next (Started heard) = told_by (next + 1) heard
handed next (Polled heard) = told_by next heard

-- ---- where the order stands after it

-- the connection that an order makes
abbrev pub made_by : Order → Stand
made_by (Open ip config) = Made (record { ip = ip; protocol = protocol_of config.protocol })
made_by (Ask conn ip protocol request) = Over
made_by (Sleep until) = Over

-- where an order stands that was under way, by what was heard of it
abbrev pub heard_stand : Order → Option SentBy → Heard → Stand
heard_stand order sent (hear.Waiting of) = UnderWay order sent
heard_stand order sent hear.OutOfMemory = UnderWay order sent
heard_stand order sent (hear.Connected s) = made_by order
heard_stand order sent (hear.Answered s message) = Over
heard_stand order sent (hear.Failed s error) = Over
heard_stand order sent hear.Resting = UnderWay order sent
heard_stand order sent hear.Slept = Over

-- where an order stands after a call, where the next entry had this number
abbrev pub stand_after : ℕ → ℕ → Order → Stand → Did → Stand
stand_after next now order old Barred = old
stand_after next now order old LacksMemory = old
stand_after next now order old (Refused sent error) = Over
stand_after next now order old (Started heard) = heard_stand order (sent_for next now order) heard
stand_after next now order old (Polled heard) = heard_stand order (sent_in old) heard

-- A call with an order at a moment did one thing that it may do, and what follows of it is so.
pub record Carried {P : Type 0} (key : OrderKey) (order : Order) (now : ℕ) (old new : State P) (result : Option (Option Outcome)) : Type 0 where
  pub did : Did
  pub may : May old key order now did
  pub options : new.options ≡ old.options
  pub quiet : CallsNobody old key order → new.provider ≡ old.provider
  pub log : new.log ≡ with_entries (appended now order did) old.log
  pub entries : new.entries ≡ old.entries + length (appended now order did)
  pub handed_out : result ≡ handed (old.entries + 1) did
  pub stand : new.stands key ≡ stand_after (old.entries + 1) now order (old.stands key) did

-- A poll of an order for which this was sent heard one thing that it may hear, and what follows of it is so.
pub record IsHeard {P : Type 0} (key : OrderKey) (order : Order) (sent : Option SentBy) (now : ℕ) (old new : State P) (result : Option (Option Outcome)) : Type 0 where
  pub heard : Heard
  pub hears : MayHear now order sent heard
  pub options : new.options ≡ old.options
  pub quiet : sent ≡ None → new.provider ≡ old.provider
  pub log : new.log ≡ with_entries (poll_entry now heard) old.log
  pub entries : new.entries ≡ old.entries + length (poll_entry now heard)
  pub handed_out : result ≡ told_by (old.entries + 1) heard
  pub stand : new.stands key ≡ heard_stand order sent heard
