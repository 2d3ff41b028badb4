use Rattle.std.proofs.Common.{rules}
use Rattle.std.proofs.lemmas.Result.{err_from_is_err_and}
use Rattle.dns_core.proofs.BytesJoined.{takes_then, at_most_then}
use Rattle.dns_core.proofs.whole_streams.read_all.Goals as goal

pub returns-in_err-extend_from_slice-in-Ok-clause-part : goal.returns-in_err-extend_from_slice-in-Ok-clause-part
returns-in_err-extend_from_slice-in-Ok-clause-part g c =
    let failed = err_from_is_err_and c.from_residual.result c.from_residual.ensures.1 in
    rw failed.1 (takes_then _ (g.S.Source.left c.turns.source) _ c.turns.bytes.items _ c.turns.invariant.taken c.in-Ok.ensures.bytes.0)

pub returns-in_err-extend_from_slice-in-Ok-clause-bound : goal.returns-in_err-extend_from_slice-in-Ok-clause-bound
returns-in_err-extend_from_slice-in-Ok-clause-bound g c = at_most_then _ (g.S.Source.left c.turns.source) _ c.turns.bytes.items _ _ _ c.turns.invariant.taken c.in-Ok.ensures.bytes.0 (search rules)
