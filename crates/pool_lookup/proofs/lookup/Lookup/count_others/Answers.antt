use Rattle.std.proofs.Common.{ap, length, arith}
use Rattle.pool_lookup.specs.Lookup.{LookupState}
use Rattle.pool_lookup.proofs.LosersRecorded.{others_length}
use Rattle.pool_lookup.proofs.lookup.Lookup.count_others.Goals as goal

pub returns : goal.returns
returns c =
    let l = c.args.self.now in
    let begun = ap (λ (s : LookupState). length s.attempts) c.self.view_is in
    let left = ap (λ (s : LookupState). length s.ready) c.self.view_is in
    let all = others_length l in
    let one = c.self.inside.attempts.ok.0 in
    let two = c.self.inside.ready.ok.0 in
    omega (arith, begun, left, all, one, two)
