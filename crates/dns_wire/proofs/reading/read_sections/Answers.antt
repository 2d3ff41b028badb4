use Rattle.std.proofs.Common.{rules}
use Rattle.dns_wire.specs.Reading.{sections_of}
use Rattle.dns_wire.proofs.reading.read_sections.Goals as goal

pub returns : goal.returns
unfolding sections_of
returns c = search rules
