-- Entries in a chain.
use Rattle.std.specs.Prelude.{List, [], ◌∷◌}
use Rattle.dns_core.specs.declared.log.LogEntry.{LogEntry}
use Rattle.script_upstream.specs.declared.script.late.Chain.{Chain}
use Rattle.script_upstream.specs.declared.script.late.Chain.TheVariants.{End, Entry'}

-- the entries, in their order from the head
abbrev pub chained : Chain → List LogEntry
chained End = []
chained (Entry' entry place rest) = entry ∷ chained rest
