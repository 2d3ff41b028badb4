-- Names of a message that were read before, and where its pointers lead.
use Rattle.std.specs.Prelude.{◌≡◌, ◌<◌, ◌≤◌, ◌-◌, ℕ, suc, List, [], ◌∷◌, ◌++◌, length, drop, slice_index, slice_set, Ok}
use Rattle.std.specs.List.{All}
use Rattle.dns_core.specs.Name.{DomainName}
use Rattle.wire_names.specs.Reading.{led_of, name_of}
use Rattle.wire_names.specs.declared.kept.KeptName.{KeptName}
use Rattle.wire_names.specs.declared.runs.RunEnd.TheVariants.{Pointer}

-- the bytes are what stands in the message from a place on
abbrev pub IsRest : List ℕ → List ℕ → Type 0
IsRest message bytes = bytes ≡ drop (length message - length bytes) message

-- the name is read at this place of the message
abbrev pub IsReadAt : List ℕ → ℕ → DomainName → Type 0
IsReadAt message place name = (rest : List ℕ) × (name_of message (drop place message) ≡ Ok (name, rest))

-- each of the names is read at its place
abbrev pub AreRead : List ℕ → List KeptName → Type 0
AreRead message names = All (λ kept. IsReadAt message kept.place kept.name) names

-- a pointer to the end leads to the labels to which one to the place leads
pub record IsEndOf (message : List ℕ) (place end : ℕ) : Type 0 where
  pub before : end ≤ place
  pub same : led_of (suc place) message (Pointer end) ≡ led_of (suc place) message (Pointer place)

-- the ends of the first places of the message
abbrev pub AreEnds : List ℕ → List ℕ → Type 0
AreEnds message ends = (place : ℕ) → place < length ends → IsEndOf message place (slice_index ends place)

-- what is kept of a message: names, and the ends of its first places
pub record Kept : Type 0 where
  pub names : List KeptName
  pub ends : List ℕ

-- what is kept is what reading gives
pub record AreKept (message : List ℕ) (kept : Kept) : Type 0 where
  pub names : AreRead message kept.names
  pub ends : AreEnds message kept.ends

-- the name is added to those that are kept, or stands in the place of one of four
pub record Keeps (before : Kept) (place : ℕ) (name : DomainName) (after : Kept) : Type 0 where
  pub added : length before.names < 4 → after.names ≡ before.names ++ record { place = place; name = name } ∷ []
  pub replaced : 4 ≤ length before.names → (index : ℕ) × (index < length before.names) × (after.names ≡ slice_set before.names index (record { place = place; name = name }))
  pub ends : after.ends ≡ before.ends
