-- Reading the sections of a message from the left.
use Rattle.std.specs.Prelude.{ℕ, zero, suc, ◌++◌, List, [], ◌∷◌, Option, Some, Ok}
use Rattle.std.specs.Option.{is_some}
use Rattle.dns_core.specs.declared.record.Record.{Record}
use Rattle.wire_names.specs.Reading.{◌>>=◌}
use Rattle.wire_records.specs.Numbers.{Read}
use Rattle.wire_records.specs.Reading.{extra_of}
use Rattle.wire_records.specs.Records.{plain_of}
use Rattle.wire_records.specs.declared.edns.Edns.{Edns}
use Rattle.wire_records.specs.declared.edns.Extra.{Extra}
use Rattle.wire_records.specs.declared.edns.Extra.TheVariants.{Plain, Opt}

-- a number of items, one after the other
unfoldable pub in_turn : {X : Type 0} → (List ℕ → List ℕ → Read X) → ℕ → List ℕ → List ℕ → Read (List X)
in_turn read zero message bytes = Ok ([], bytes)
in_turn read (suc count) message bytes = read message bytes >>= λ x. in_turn read count message x.1 >>= λ xs. Ok (x.0 ∷ xs.0, xs.1)

-- items that were read before, and those that are read next
abbrev pub with_items : {X : Type 0} → List X → Read (List X) → Read (List X)
with_items front read = read >>= λ xs. Ok (front ++ xs.0, xs.1)

-- the upper bits of the code, and what else an OPT record says
abbrev pub Told : Type 0
Told = Option (ℕ × Edns)

abbrev pub told_after : Told → Extra → Told
told_after told (Plain plain) = told
told_after told (Opt upper edns) = Some (upper, edns)

-- a number of records of the additional section: those with data, and what an OPT record says
unfoldable pub extras_of : ℕ → Told → List ℕ → List ℕ → Read (List Record × Told)
extras_of zero told message bytes = Ok (([], told), bytes)
extras_of (suc count) told message bytes =
    extra_of (is_some told) message bytes >>= λ x. extras_of count (told_after told x.0) message x.1 >>= λ xs. Ok ((plain_of x.0 ++ xs.0.0, xs.0.1), xs.1)

abbrev pub with_records : List Record → Read (List Record × Told) → Read (List Record × Told)
with_records front read = read >>= λ xs. Ok ((front ++ xs.0.0, xs.0.1), xs.1)
