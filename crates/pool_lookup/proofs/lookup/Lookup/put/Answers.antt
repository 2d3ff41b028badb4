use Rattle.std.proofs.Common.{◌∙◌, ap, sym}
use Rattle.pool_lookup.specs.Lookup.{LookupState}
use Rattle.pool_lookup.proofs.lookup.Lookup.put.Goals as goal

pub put_order-requires-clause-asks : goal.put_order-requires-clause-asks
put_order-requires-clause-asks c = sym (ap (λ (l : LookupState). l.state) c.self.view_is) ∙ c.in-Asking.is
