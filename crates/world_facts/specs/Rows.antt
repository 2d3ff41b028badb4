-- Which errors are left in a well served world.
use Rattle.recursor_types.specs.declared.error.RecursorError.{RecursorError}
use Rattle.recursor_types.specs.declared.error.RecursorError.TheVariants as error

-- a denial, a referral, or that memory ran out
abbrev pub MayBe : RecursorError → Type 0
MayBe (error.Negative d) = Unit {0}
MayBe (error.ForwardNS servers) = Unit {0}
MayBe error.NoMemory = Unit {0}
MayBe _ = ⊥
