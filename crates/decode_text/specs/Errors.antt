-- The text of what is wrong with bytes that are no message.
use Rattle.std.specs.Prelude.{ℕ, List, [], ◌∷◌, codes}
use Rattle.text_lines.specs.Texts.{line_of}
use Rattle.wire_names.specs.declared.errors.WireError.{WireError}
use Rattle.wire_names.specs.declared.errors.WireError.TheVariants.{Short, BadLabel, BadPointer, BadByte, LongName, BadData, BadOpt, Trailing, NoMemory}

-- the name of its variant
abbrev pub error_name : WireError → List ℕ
error_name Short = codes "Short"
error_name BadLabel = codes "BadLabel"
error_name BadPointer = codes "BadPointer"
error_name BadByte = codes "BadByte"
error_name LongName = codes "LongName"
error_name BadData = codes "BadData"
error_name BadOpt = codes "BadOpt"
error_name Trailing = codes "Trailing"
error_name NoMemory = codes "NoMemory"

-- the line that tells it
abbrev pub error_line : WireError → List ℕ
error_line error = line_of (codes "error" ∷ codes "wire" ∷ error_name error ∷ [])
