-- What a reader makes of the lines of a world.
use Rattle.std.specs.Prelude.{◌≡◌, ℕ, true, List, ◌++◌, Some}
use Rattle.zone_rules.specs.declared.world.World.{World}
use Rattle.recursor_text.specs.declared.world_reading.draft.WorldDraft.{WorldDraft}
use Rattle.recursor_text.specs.WorldSteps.{start, run, may_close, world_of}
use Rattle.recursor_text.specs.WorldSpelling.{world_lines, IsWorld}

-- The lines, taken one after the other, come to this world.
abbrev pub IsRead : List (List ℕ) → World → Type 0
IsRead lines w = (d : WorldDraft) × (run start lines ≡ Some d) × (may_close d ≡ true) × (world_of d ≡ w)

-- Some world begins with these lines.
abbrev pub CanStand : List (List ℕ) → Type 0
CanStand lines = (w : World) × (more : List (List ℕ)) × IsWorld w × (world_lines w ≡ lines ++ more)
