-- What a world tells has its word in a log.
use Rattle.std.proofs.Common.{◌≡◌, ℕ, ◌-◌, true, List, take, Option, Some, None, refl, ap}
use Rattle.std.specs.Prelude.{IsSomeAnd}
use Rattle.dns_core.specs.Log.{numbered}
use Rattle.dns_core.specs.declared.net_error.NetError.{NetError}
use Rattle.dns_core.specs.declared.log.LogEntry.{LogEntry}
use Rattle.dns_core.specs.declared.log.LogEntry.TheVariants.{Opened, Asked, Waited, Told, GaveUp}
use Rattle.dns_core.specs.declared.log.ToldOutcome.TheVariants.{Connected, Message, Error}
use Rattle.script_upstream.specs.Giving.{waits}
use Rattle.world_upstream.specs.Giving.{delay, ComesTo, Fits, Gives}
use Rattle.zone_rules.specs.declared.world.World.{World}
use Rattle.transcript_printer.specs.Log.{has_refusal_word, has_entry_words}

-- no entry is told an error
no_error : (w : World) (waited : ℕ) (error : NetError) (o : Option LogEntry) → IsSomeAnd o (λ e. (waited ≡ delay w e) × ComesTo w (Error error) e) → ⊥
no_error w waited error None h = h
no_error w waited error (Some (Opened ip protocol moment refused)) h = let is = h.1 in cc
no_error w waited error (Some (Asked ip protocol q moment refused)) h = h.1
no_error w waited error (Some (Waited of)) h = h.1
no_error w waited error (Some (Told of moment outcome)) h = h.1
no_error w waited error (Some (GaveUp of moment)) h = h.1

world_words : (w : World) (es : List LogEntry) (e : LogEntry) → Fits w es e → has_entry_words e ≡ true
world_words w es (Opened ip protocol moment refused) f = ap has_refusal_word f
world_words w es (Asked ip protocol q moment refused) f = ap has_refusal_word f
world_words w es (Waited of) f = refl
world_words w es (Told of moment Connected) f = refl
world_words w es (Told of moment (Message m)) f = refl
world_words w es (Told of moment (Error error)) f = absurd (no_error w (waits of es) error (numbered es of) f.1)
world_words w es (GaveUp of moment) f = refl

pub world_worded : (w : World) (es : List LogEntry) (n : ℕ) (e : LogEntry) → Gives w es → numbered es n ≡ Some e → has_entry_words e ≡ true
world_worded w es n e g at = world_words w (take (n - 1) es) e (g n e at)
