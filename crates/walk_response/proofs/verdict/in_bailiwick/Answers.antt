use Rattle.std.proofs.Common.{rules}
use Rattle.walk_response.proofs.verdict.in_bailiwick.Goals as goal

pub returns : goal.returns
returns c = search rules
