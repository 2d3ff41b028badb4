use Rattle.std.proofs.Common.{◌∙◌, ℕ, Option, Some, None, ap}
use Rattle.pool_lookup.specs.declared.giving.Want.{Want}
use Rattle.pool_lookup.specs.declared.giving.Want.TheVariants as want
use Rattle.pool_lookup.specs.Giving.{first_ready}
use Rattle.pool_lookup.proofs.lookup.Lookup.want_attempt.Goals as goal

pub returns-in-Some : goal.returns-in-Some
returns-in-Some c = ap (λ (o : Option ℕ). elim o as (λ x. Want) [ None ↦ first_ready c.args.self.now.ready | Some place ↦ want.Resume place ]) c.in-Some.ensures

pub returns-in-None : goal.returns-in-None
returns-in-None c = c.want_ready.ensures ∙ ap (λ (o : Option ℕ). elim o as (λ x. Want) [ None ↦ first_ready c.args.self.now.ready | Some place ↦ want.Resume place ]) c.in-None.ensures
