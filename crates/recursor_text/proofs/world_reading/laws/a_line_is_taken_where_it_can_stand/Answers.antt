use Rattle.recursor_text.proofs.RunLaws.{stands, fails}
use Rattle.recursor_text.proofs.world_reading.laws.a_line_is_taken_where_it_can_stand.Goals as goal

pub returns-clause-stands : goal.returns-clause-stands
returns-clause-stands c = stands

pub returns-clause-fails : goal.returns-clause-fails
returns-clause-fails c = fails
