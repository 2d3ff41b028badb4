use Rattle.std.proofs.Common.{rules}
use Rattle.walk_lookup.proofs.settings.asking.request_options.Goals as goal

pub returns : goal.returns
returns c = search rules
