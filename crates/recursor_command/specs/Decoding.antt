-- What `decode` writes for the bytes of a message, and why it refuses bytes.
use Rattle.std.specs.Prelude.{◌≡◌, ◌<◌, ◌≤◌, ℕ, List, length, Err}
use Rattle.dns_wire.specs.Reading.{reading}
use Rattle.dns_wire.specs.Wire.{Wire as IsMessage}
use Rattle.dns_wire.specs.declared.message.WireMessage.{WireMessage}
use Rattle.decode_text.specs.Decoded.{IsDecoded}
use Rattle.recursor_command.specs.declared.faults.Fault.{Fault}
use Rattle.recursor_command.specs.declared.faults.Fault.TheVariants.{Words, Line, NotBuilt, Wire, LongMessage, Read, Memory}

-- the bytes are not too many for a message, and the text is that of the message that they spell
pub record HasMessage (bytes text : List ℕ) : Type 0 where
  pub short : length bytes ≤ 65535
  pub decoded : IsDecoded bytes text

-- no message is spelled so
abbrev pub IsNoMessage : List ℕ → Type 0
IsNoMessage bytes = (m : WireMessage) → IsMessage bytes m → ⊥

-- the bytes are not decoded, for this fault: they are no message, for their first item that cannot be read, or they are too many for one
abbrev pub IsUndecoded : List ℕ → Fault → Type 0
IsUndecoded bytes Words = ⊥
IsUndecoded bytes (Line n) = ⊥
IsUndecoded bytes (NotBuilt n) = ⊥
IsUndecoded bytes (Wire error) = (length bytes ≤ 65535) × IsNoMessage bytes × (reading bytes ≡ Err error)
IsUndecoded bytes LongMessage = 65535 < length bytes
IsUndecoded bytes Read = ⊥
IsUndecoded bytes Memory = Unit {0}
