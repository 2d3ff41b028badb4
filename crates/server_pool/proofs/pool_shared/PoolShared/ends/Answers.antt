use Rattle.std.proofs.Common.{◌≡◌, Some, sym, subst}
use Rattle.pool_rules.specs.AnswerFilter.{denied_by}
use Rattle.server_pool.specs.Shared.{Shared, lookup_at}
use Rattle.server_pool.proofs.LookupsPromised.{fairly}
use Rattle.server_pool.proofs.pool_shared.PoolShared.ends.Goals as goal

pub returns-in-Some-clause-fair : goal.returns-in-Some-clause-fair
returns-in-Some-clause-fair c = λ l there.
    let here = subst (λ (s : Shared). lookup_at s c.args.lookup ≡ Some l) (sym c.self.view_is) there in
    fairly (denied_by c.self.inside.context.answer_address_filter) l.lookup (c.self.invariant.1.each c.args.lookup l here).rules
