-- What reading a resolver's text from a source says of the source.
use Rattle.std.specs.Prelude.{◌≡◌, ℕ, ◌≤◌, List, length, Option, Result, Err}
use Rattle.std.specs.Io.KnownBytes.{Consumes, IsAtEnd}
use Rattle.resolver_settings.specs.Config.{ResolverParts}
use Rattle.resolver_settings.specs.ResolverText.{Reads, IsOnly}
use Rattle.dns_core.specs.WholeStreams.{TakesAtMost, TakesFewer}
use Rattle.resolver_settings.specs.declared.options.ResolverOpts.{ResolverOpts}
use Rattle.resolver_settings.specs.declared.conf_error.ConfError.{ConfError}
use Rattle.resolver_settings.specs.declared.conf_error.ConfError.TheVariants.{ReadFault, TooLong, NoMemory}

-- the text is all that the source held, and is short enough
pub record IsWhole (old new : Option (List ℕ)) (text : List ℕ) : Type 0 where
  pub taken : Consumes old new text
  pub short : length text ≤ 1048576
  pub end : IsAtEnd new

-- the first 1,048,577 bytes were taken
abbrev pub TakesTooMuch : Option (List ℕ) → Option (List ℕ) → Type 0
TakesTooMuch old new = (bytes : List ℕ) × Consumes old new bytes × (length bytes ≡ 1048577)

-- The result is what the whole text of the source says, or tells why there is none. A read failed
-- only where fewer than 1,048,577 bytes were taken, and more are never taken.
abbrev pub ReadsSource : Option (List ℕ) → Option (List ℕ) → List ℕ → Result (ResolverParts × ResolverOpts) ConfError → Type 0
ReadsSource old new host (Err TooLong) = TakesTooMuch old new
ReadsSource old new host (Err ReadFault) = TakesFewer 1048577 old new
ReadsSource old new host (Err NoMemory) = TakesAtMost 1048577 old new
ReadsSource old new host read = (text : List ℕ) × IsWhole old new text × Reads text host read × IsOnly text host read

-- the text is read where it is short enough
abbrev pub ReadsShort : List ℕ → List ℕ → Result (ResolverParts × ResolverOpts) ConfError → Type 0
ReadsShort text host (Err TooLong) = length text ≡ 1048577
ReadsShort text host (Err ReadFault) = ⊥
ReadsShort text host (Err NoMemory) = Unit {0}
ReadsShort text host read = (length text ≤ 1048576) × Reads text host read × IsOnly text host read
