-- What a new recursor is refused for.
use Rattle.std.specs.Prelude.{◌≡◌, ◌⊎◌}
use Rattle.recursor_types.specs.declared.error.MessageKind.{MessageKind}
use Rattle.recursor_types.specs.declared.error.RecursorError.{RecursorError}
use Rattle.recursor_types.specs.declared.error.MessageKind.TheVariants as kind
use Rattle.recursor_types.specs.declared.error.RecursorError.TheVariants as error

-- by its roots and its options
abbrev pub IsSetupKind : MessageKind → Type 0
IsSetupKind k = (k ≡ kind.FirstDelays) ⊎ (k ≡ kind.NoRoots) ⊎ (k ≡ kind.ReversedTtl)

-- for these, or where memory runs out
abbrev pub IsSetupError : RecursorError → Type 0
IsSetupError e = (e ≡ error.Message kind.FirstDelays) ⊎ (e ≡ error.Message kind.NoRoots) ⊎ (e ≡ error.Message kind.ReversedTtl) ⊎ (e ≡ error.NoMemory)
