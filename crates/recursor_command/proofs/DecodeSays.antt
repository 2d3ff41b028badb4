-- What `decode` says of bytes that are no message.
use Rattle.std.proofs.Common.{◌≡◌, ◌≤◌, ℕ, List, length, Ok, Err, refl}
use Rattle.wire_names.specs.Reading.{Fails}
use Rattle.wire_names.specs.declared.errors.WireError.{WireError}
use Rattle.wire_names.specs.declared.errors.WireError.TheVariants.{Short, BadLabel, BadPointer, BadByte, LongName, BadData, BadOpt, Trailing, NoMemory}
use Rattle.dns_wire.specs.Reading.{reading}
use Rattle.dns_wire.specs.Wire.{Wire}
use Rattle.dns_wire.specs.declared.message.WireMessage.{WireMessage}
use Rattle.decode_text.specs.Decoded.{decoded}
use Rattle.recursor_command.specs.Decoding.{IsNoMessage, IsUndecoded}
use Rattle.recursor_command.specs.Faults.{wire_fault}
use Rattle.recursor_command.specs.declared.faults.Fault.TheVariants.{Wire as Told}

-- no message is spelled so where one would not be decoded
no_message : (bytes : List ℕ) (e : WireError) → ((m : WireMessage) → Wire bytes m → (Ok (decoded m) ≡ Err e)) → IsNoMessage bytes
no_message bytes e only = λ m is. let one : Ok (decoded m) ≡ Err e = only m is in absurd cc

-- how the error of a message is told says what it is
pub wire_fits : (bytes : List ℕ) (e : WireError) → length bytes ≤ 65535 → Fails e (reading bytes) → ((m : WireMessage) → Wire bytes m → Fails {Y = List ℕ} e (Ok (decoded m))) → IsUndecoded bytes (wire_fault e)
wire_fits bytes Short few fails only = (few, no_message bytes Short only, fails)
wire_fits bytes BadLabel few fails only = (few, no_message bytes BadLabel only, fails)
wire_fits bytes BadPointer few fails only = (few, no_message bytes BadPointer only, fails)
wire_fits bytes BadByte few fails only = (few, no_message bytes BadByte only, fails)
wire_fits bytes LongName few fails only = (few, no_message bytes LongName only, fails)
wire_fits bytes BadData few fails only = (few, no_message bytes BadData only, fails)
wire_fits bytes BadOpt few fails only = (few, no_message bytes BadOpt only, fails)
wire_fits bytes Trailing few fails only = (few, no_message bytes Trailing only, fails)
wire_fits bytes NoMemory few fails only = tt

-- an error but out of memory is told by its name
pub wire_told : (e : WireError) → (e ≡ NoMemory → ⊥) → Told e ≡ wire_fault e
wire_told Short other = refl
wire_told BadLabel other = refl
wire_told BadPointer other = refl
wire_told BadByte other = refl
wire_told LongName other = refl
wire_told BadData other = refl
wire_told BadOpt other = refl
wire_told Trailing other = refl
wire_told NoMemory other = absurd (other refl)
