use Rattle.std.proofs.Common.{◌∙◌, Err, ap, sym}
use Rattle.dns_core.specs.declared.net_error.NetError.TheVariants.{NoMemory}
use Rattle.pool_lookup.specs.declared.attempt.Attempt.{Attempt}
use Rattle.pool_lookup.specs.Hearing.{run_out}
use Rattle.pool_lookup.specs.Lookup.{decided}
use Rattle.pool_lookup.proofs.StepsCanBeTaken.{some_same}
use Rattle.pool_lookup.proofs.lookup.Lookup.run_out.Goals as goal

pub returns : goal.returns
returns c = λ a there.
    let same = some_same (sym c.close.ensures.attempt ∙ there) in
    c.decide.ensures ∙ ap (decided (Err NoMemory) c.args.now) c.close.ensures.closed
    ∙ ap (λ (x : Attempt). run_out c.args.place x.candidate.server c.args.entry c.args.now c.args.self.now) same
