-- What the lines of a world so far say, and what the next may say.
use Rattle.std.specs.Prelude.{◌≡◌, ℕ, List, [], ◌∷◌, ◌++◌, length, not, ◌&&◌, ◌==◌, nat_lt, nat_le, Bool, true, false, Option, Some, None, is_some, Result, Ok, Err, if◌then◌else◌}
use Rattle.std.specs.List.{list_all}
use Rattle.dns_core.specs.declared.record.Record.{Record}
use Rattle.text_lines.specs.declared.words.LineError.{LineError}
use Rattle.text_lines.specs.declared.words.LineError.TheVariants.{Refused, NoMemory}
use Rattle.text_lines.specs.Numbers.{◌>>=◌}
use Rattle.text_lines.specs.RecordLines.{record_of}
use Rattle.zone_rules.specs.declared.world.World.{World}
use Rattle.recursor_text.specs.declared.world_reading.lines.ZoneHead.{ZoneHead}
use Rattle.recursor_text.specs.declared.world_reading.lines.WorldForm.{WorldForm}
use Rattle.recursor_text.specs.declared.world_reading.lines.WorldForm.TheVariants as form
use Rattle.recursor_text.specs.declared.world_reading.draft.WorldStage.{WorldStage}
use Rattle.recursor_text.specs.declared.world_reading.draft.WorldStage.TheVariants.{Start, Delayed, Aliased, Zoned, Hosted}
use Rattle.recursor_text.specs.declared.world_reading.draft.OpenZone.{OpenZone}
use Rattle.recursor_text.specs.declared.world_reading.draft.WorldDraft.{WorldDraft}
use Rattle.recursor_text.specs.Lines.{most_zones, world_form_of}
use Rattle.recursor_text.specs.Listed.{has_apex, has_address}

-- What a step did is what it should do, unless memory ran out.
abbrev pub Steps : {X D : Type 0} → Result X LineError → D → Option D → Type 0
Steps (Ok x) new read = read ≡ Some new
Steps (Err Refused) new read = read ≡ None
Steps (Err NoMemory) new read = Unit {0}

abbrev pub may_delay : WorldStage → Bool
may_delay Start = true
may_delay _ = false

abbrev pub may_alias : WorldStage → Bool
may_alias Delayed = true
may_alias _ = false

abbrev pub may_zone : WorldStage → Bool
may_zone Aliased = true
may_zone Zoned = true
may_zone _ = false

abbrev pub may_host : WorldStage → Bool
may_host Zoned = true
may_host Hosted = true
may_host _ = false

-- how many hosts a world may have
abbrev pub most_hosts : ℕ
most_hosts = 65535

abbrev pub start : WorldDraft
start = record { stage = Start; delay = 0; chain = false; zones = []; pending = None; hosts = [] }

-- the lines so far are a whole world
abbrev pub may_close : WorldDraft → Bool
may_close d = may_host d.stage && not (is_some d.pending)

-- a zone none of whose records is there yet
abbrev pub opened : ZoneHead → OpenZone
opened h = record { zone = record { apex = h.apex; records = [] }; count = h.count }

-- the zone with a record more
abbrev pub filled : OpenZone → Record → OpenZone
filled o r = record o { zone = record o.zone { records = o.zone.records ++ r ∷ [] } }

-- the zone is whole, or still open
abbrev pub settled : WorldDraft → OpenZone → WorldDraft
settled d o = if length o.zone.records == o.count then record d { zones = d.zones ++ o.zone ∷ []; pending = None } else record d { pending = Some o }

-- each number is that of one of so many zones
abbrev pub name_zones : ℕ → List ℕ → Bool
name_zones count numbers = list_all (λ n. nat_le n count) numbers

abbrev pub put : WorldDraft → WorldForm → Option WorldDraft
put d (form.Delay n) = if may_delay d.stage then Some (record d { stage = Delayed; delay = n }) else None
put d (form.Aliases chain) = if may_alias d.stage then Some (record d { stage = Aliased; chain = chain }) else None
put d (form.Zone h) = if may_zone d.stage && nat_lt (length d.zones) most_zones && not (has_apex d.zones h.apex) then Some (settled (record d { stage = Zoned }) (opened h)) else None
put d (form.Host h) = if may_host d.stage && nat_lt (length d.hosts) most_hosts && not (has_address d.hosts h.ip) && name_zones (length d.zones) h.zones then Some (record d { stage = Hosted; hosts = d.hosts ++ h ∷ [] }) else None

-- a record of class IN of the zone that owes it
abbrev pub added : WorldDraft → OpenZone → List ℕ → Option WorldDraft
added d o line = record_of line >>= λ r. if r.dns_class.code == 1 then Some (settled d (filled o r)) else None

-- a record line where a zone owes records, and another line elsewhere
abbrev pub taken_at : Option OpenZone → WorldDraft → List ℕ → Option WorldDraft
taken_at (Some o) d line = added d o line
taken_at None d line = world_form_of line >>= put d

-- one line more
abbrev pub taken : WorldDraft → List ℕ → Option WorldDraft
taken d line = taken_at d.pending d line

-- the world, with the zones and the hosts that are there
abbrev pub world_of : WorldDraft → World
world_of d = record { zones = d.zones; hosts = d.hosts; chain = d.chain; delay = d.delay }

-- these lines, one after the other
abbrev pub run : WorldDraft → List (List ℕ) → Option WorldDraft
run d [] = Some d
run d (line ∷ lines) = taken d line >>= λ e. run e lines
