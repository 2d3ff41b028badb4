-- The one text of the message that is read, or none.
use Rattle.std.proofs.Common.{◌≡◌, ℕ, List, Result, Ok, sym, ap, ◌∙◌}
use Rattle.wire_names.specs.Reading.{Fails}
use Rattle.wire_names.specs.declared.errors.WireError.{WireError}
use Rattle.wire_names.specs.declared.errors.WireError.TheVariants.{Short, BadLabel, BadPointer, BadByte, LongName, BadData, BadOpt, Trailing, NoMemory}
use Rattle.dns_wire.specs.declared.message.WireMessage.{WireMessage}
use Rattle.decode_text.specs.Decoded.{decoded}

abbrev read : WireMessage → Result WireMessage WireError
read m = Ok m

abbrev told : List ℕ → Result (List ℕ) WireError
told text = Ok text

-- the text of the message that was read is that of the message that stands there
pub text_is : (m found : WireMessage) (text : List ℕ) → read m ≡ read found → text ≡ decoded found → told (decoded m) ≡ told text
text_is m found text same is = let e : m ≡ found = cc in ap told (ap decoded e ∙ sym is)

-- where reading fails there is no text
pub fails_too : (e : WireError) (m : WireMessage) → Fails e (read m) → Fails e (told (decoded m))
fails_too Short m f = absurd cc
fails_too BadLabel m f = absurd cc
fails_too BadPointer m f = absurd cc
fails_too BadByte m f = absurd cc
fails_too LongName m f = absurd cc
fails_too BadData m f = absurd cc
fails_too BadOpt m f = absurd cc
fails_too Trailing m f = absurd cc
fails_too NoMemory m f = tt
