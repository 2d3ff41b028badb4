-- A recursor whose roots and options are right is refused only where memory runs out.
use Rattle.std.proofs.Common.{◌≡◌, inl, inr}
use Rattle.recursor_types.specs.declared.error.RecursorError.{RecursorError}
use Rattle.recursor_core.specs.Recursor.{IsSetupError}
use Rattle.recursor_types.specs.declared.error.MessageKind.TheVariants as kind
use Rattle.recursor_types.specs.declared.error.RecursorError.TheVariants as error

pub memory_alone : (e : RecursorError) → IsSetupError e → (e ≡ error.Message kind.NoRoots → ⊥) → (e ≡ error.Message kind.ReversedTtl → ⊥) → (e ≡ error.Message kind.FirstDelays → ⊥) → e ≡ error.NoMemory
memory_alone e (inl first) roots reversed delays = absurd (delays first)
memory_alone e (inr (inl none)) roots reversed delays = absurd (roots none)
memory_alone e (inr (inr (inl back))) roots reversed delays = absurd (reversed back)
memory_alone e (inr (inr (inr memory))) roots reversed delays = memory
