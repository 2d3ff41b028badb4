use Rattle.std.proofs.Common.{sym, subst}
use Rattle.world_check.specs.Clauses.{clauses, IsVerdict}
use Rattle.world_check.specs.declared.verdict.Verdict.{Verdict}
use Rattle.world_check.proofs.LowestClause.{verdict-lowest}
use Rattle.world_check.proofs.verdict.check_indexed.Goals as goal

pub returns : goal.returns
returns c =
    let told = clauses c.args.world.now c.args.roots.now c.args.options.now c.args.patience in
    subst (λ (v : Verdict). IsVerdict told v) (sym c.verdict_of.ensures) (verdict-lowest told)
