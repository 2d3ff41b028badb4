use Rattle.recursor_command.proofs.NamesAreQualified.{upstream_script, upstream_world}
use Rattle.recursor_command.proofs.resolving.ran.Goals as goal

pub ran_script-requires-clause-qualified : goal.ran_script-requires-clause-qualified
ran_script-requires-clause-qualified c = let is = c.in-Script.is in upstream_script c.args.scenario.upstream c.in-Script.script c.requires.upstream cc

pub ran_world-requires-clause-qualified : goal.ran_world-requires-clause-qualified
ran_world-requires-clause-qualified c = let is = c.in-World.is in upstream_world c.args.scenario.upstream c.in-World.world c.requires.upstream cc
