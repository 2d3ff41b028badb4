-- What starts an order appends the entry that says what it is.
use Rattle.std.proofs.Common.{◌≡◌, ◌+◌, ℕ, List, [], ◌++◌, length, Option, Some, None, sym, ◌∙◌, subst}
use Rattle.std.specs.Prelude.{◌≢◌}
use Rattle.dns_core.specs.Connection.{protocol_of}
use Rattle.dns_core.specs.Log.{log_of, added}
use Rattle.dns_core.specs.declared.log.LogEntry.{LogEntry}
use Rattle.dns_core.specs.declared.log.LogEntry.TheVariants.{Opened, Asked}
use Rattle.dns_core.specs.declared.net_error.NetError.{NetError}
use Rattle.resolution.specs.Telling.{Logged}
use Rattle.resolution.proofs.LongerLogs.{Logged-extend}
use Rattle.server_core.specs.declared.orders.order.Order.{Order}
use Rattle.server_core.specs.declared.orders.order.Order.TheVariants.{Open, Ask, Sleep}
use Rattle.server_core.specs.declared.orders.order.Outcome.{Outcome}
use Rattle.order_carrier.specs.Did.{Did, State, Carried, May, start_entry, poll_entry, appended, stand_after, MayHear}
use Rattle.order_carrier.specs.Did.Did.{Barred, LacksMemory, Refused, Started, Polled}
use Rattle.order_carrier.specs.Did.Stand.{Unseen}
use Rattle.order_carrier.specs.Awaited.{sent_for}
use Rattle.order_carrier.specs.Growing.{with_entries}
use Rattle.order_carrier.specs.Starts.{BeginsWith, Starts}
use Rattle.order_carrier.specs.declared.key.OrderKey.{OrderKey}
use Rattle.order_carrier.specs.declared.polling.Heard.{Heard}
use Rattle.order_carrier.specs.declared.polling.Heard.TheVariants as hear
use Rattle.order_carrier.proofs.LogGrowsByCalls.{AreAt, Longer-from_added, Logged-newest, Grown-with, poll_at}

-- the entry was appended, and the log may have grown after it
begins-added : (entry : Option NetError → LogEntry) (refusal : Option NetError) (now : ℕ) (more : List LogEntry) (old new : Option (List LogEntry))
    → AreAt now more → new ≡ with_entries more (added (entry refusal) old) → BeginsWith entry old new
begins-added entry refusal now more old new at grew es told =
    let g = Grown-with now more (added (entry refusal) old) new at grew es told in
    let l = Longer-from_added (entry refusal) old g.before g.was in
    record {
      before = l.before;
      was = l.was;
      refusal = refusal;
      logged = Logged-extend _ _ g.extends _ _
          (subst (λ (es : List LogEntry). Logged (log_of es) (length l.before + 1) (entry refusal)) (sym l.is) (Logged-newest l.before (entry refusal)));
    }

-- of a sleep nothing but that it rests or ends is heard, and no entry says so
sleep-same : (now : ℕ) (order : Order) (heard : Heard) (old new : Option (List LogEntry)) → MayHear now order None heard
    → new ≡ with_entries (poll_entry now heard) old → new ≡ old
sleep-same now order (hear.Waiting of) old new may grew = cc
sleep-same now order hear.OutOfMemory old new may grew = cc
sleep-same now order (hear.Connected sent) old new may grew = let none = may.0 in cc
sleep-same now order (hear.Answered sent message) old new may grew = let none = may.0 in cc
sleep-same now order (hear.Failed sent error) old new may grew = let none = may.0 in cc
sleep-same now order hear.Resting old new may grew = grew
sleep-same now order hear.Slept old new may grew = grew

-- a start goes on with the entry of its order
started : (n now : ℕ) (order : Order) (heard : Heard) (old new : Option (List LogEntry)) → MayHear now order (sent_for n now order) heard
    → new ≡ with_entries (start_entry now None order ++ poll_entry now heard) old → Starts now order old new
started n now (Open ip config) heard old new may grew =
    begins-added (Opened ip (protocol_of config.protocol) now) None now (poll_entry now heard) old new (poll_at now heard) grew
started n now (Ask conn ip protocol request) heard old new may grew =
    begins-added (Asked ip protocol request.query now) None now (poll_entry now heard) old new (poll_at now heard) grew
started n now (Sleep until) heard old new may grew = sleep-same now (Sleep until) heard old new may grew

-- so does one that was refused
refused : (now : ℕ) (error : NetError) (order : Order) (old new : Option (List LogEntry))
    → new ≡ with_entries (start_entry now (Some error) order) old → Starts now order old new
refused now error (Open ip config) old new grew = begins-added (Opened ip (protocol_of config.protocol) now) (Some error) now [] old new tt grew
refused now error (Ask conn ip protocol request) old new grew = begins-added (Asked ip protocol request.query now) (Some error) now [] old new tt grew
refused now error (Sleep until) old new grew = grew

-- an order that had not been started, and is now, appended the entry that says what it is
pub carried-starts : {P : Type 0} (key : OrderKey) (order : Order) (now : ℕ) (old new : State P) (result : Option (Option Outcome)) → Carried key order now old new result
    → old.stands key ≡ Unseen → new.stands key ≢ Unseen → Starts now order old.log new.log
carried-starts key order now old new result c unseen begun = by c.did c.may c.log c.stand
  where
    by : (d : Did) → May old key order now d → new.log ≡ with_entries (appended now order d) old.log
        → new.stands key ≡ stand_after (old.entries + 1) now order (old.stands key) d → Starts now order old.log new.log
    by Barred may grew stand = absurd (begun (stand ∙ unseen))
    by LacksMemory may grew stand = absurd (begun (stand ∙ unseen))
    by (Refused sent error) may grew stand = refused now error order old.log new.log grew
    by (Started heard) may grew stand = started (old.entries + 1) now order heard old.log new.log may.1 grew
    by (Polled heard) may grew stand = let never = sym unseen ∙ may.stood in cc
