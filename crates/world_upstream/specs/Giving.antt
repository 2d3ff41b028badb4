-- The logs that a world gives.
use Rattle.std.specs.Prelude.{◌≡◌, ℕ, ◌-◌, ◌<◌, List, Some, None, take, IsSomeAnd}
use Rattle.std.specs.declared.net.IpAddr.{IpAddr}
use Rattle.dns_core.specs.Log.{numbered}
use Rattle.dns_core.specs.declared.message.Query.{Query}
use Rattle.dns_core.specs.declared.log.ToldOutcome.{ToldOutcome}
use Rattle.dns_core.specs.declared.log.ToldOutcome.TheVariants.{Connected, Message, Error}
use Rattle.dns_core.specs.declared.log.LogEntry.{LogEntry}
use Rattle.dns_core.specs.declared.log.LogEntry.TheVariants.{Opened, Asked, Waited, Told, GaveUp}
use Rattle.script_upstream.specs.Giving.{waits, HasNoEnd}
use Rattle.zone_worlds.specs.Telling.{Tells}
use Rattle.zone_rules.specs.declared.world.World.{World}

-- how many polls find nothing yet: none of a connection, and of a question the delay of the world
abbrev pub delay : World → LogEntry → ℕ
delay w (Asked ip protocol q moment refused) = w.delay
delay w (Opened ip protocol moment refused) = 0
delay w (Waited of) = 0
delay w (Told of moment outcome) = 0
delay w (GaveUp of moment) = 0

-- the message that the address tells for the question
abbrev pub IsTold : World → IpAddr → Query → ToldOutcome → Type 0
IsTold w ip query Connected = ⊥
IsTold w ip query (Message m) = Tells w ip query m
IsTold w ip query (Error e) = ⊥

-- what an entry comes to: a connection is connected, and a question is told what the world tells
abbrev pub ComesTo : World → ToldOutcome → LogEntry → Type 0
ComesTo w outcome (Opened ip protocol moment refused) = outcome ≡ Connected
ComesTo w outcome (Asked ip protocol q moment refused) = IsTold w ip q outcome
ComesTo w outcome (Waited of) = ⊥
ComesTo w outcome (Told of moment told) = ⊥
ComesTo w outcome (GaveUp of moment) = ⊥

-- The entry fits the world and the entries before it: nothing is refused; a question waits as often as the delay says
-- and a connection never, and each is then told, once, what it comes to; nothing is told of one that was given up. A
-- give-up is the caller's.
abbrev pub Fits : World → List LogEntry → LogEntry → Type 0
Fits w es (Opened ip protocol moment refused) = refused ≡ None
Fits w es (Asked ip protocol q moment refused) = refused ≡ None
Fits w es (Waited of) = HasNoEnd of es × IsSomeAnd (numbered es of) (λ e. waits of es < delay w e)
Fits w es (Told of moment outcome) = HasNoEnd of es × IsSomeAnd (numbered es of) (λ e. (waits of es ≡ delay w e) × ComesTo w outcome e)
Fits w es (GaveUp of moment) = Unit {0}

-- the world gives the log: each entry fits
abbrev pub Gives : World → List LogEntry → Type 0
Gives w es = (n : ℕ) (e : LogEntry) → numbered es n ≡ Some e → Fits w (take (n - 1) es) e
