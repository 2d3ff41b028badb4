use Rattle.std.proofs.Common.{◌∙◌, rules}
use Rattle.server_core.proofs.Factors.{decay-none, decay-some}
use Rattle.server_core.proofs.delays.decay.Goals as goal

pub returns-then-time-ge-FADED-clause-equal :
    goal.returns-then-time-ge-FADED-clause-equal
returns-then-time-ge-FADED-clause-equal c =
    decay-none c.args.elapsed c.args.weight _ (search rules) c.if-time-ge-FADED.true

pub returns-clause-equal : goal.returns-clause-equal
returns-clause-equal c =
    c.squared.ensures.equal ∙ decay-some c.args.elapsed c.args.weight _ (search rules) c.if-time-ge-FADED.false
