use Rattle.wire_records.proofs.ExtraLaws.{opt_rest}
use Rattle.wire_records.proofs.records.read_extra.Goals as goal

pub returns-then-code-eq41-clause-rest : goal.returns-then-code-eq41-clause-rest
returns-then-code-eq41-clause-rest c = opt_rest (λ x. (x.0, x.1.now)) c.args.message.now c.in_ok-name.after.now c.read_opt.result c.in_ok-name.ensures.rest c.read_opt.ensures
