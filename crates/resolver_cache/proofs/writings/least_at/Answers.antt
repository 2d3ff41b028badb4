use Rattle.std.proofs.Common.{sym}
use Rattle.resolver_cache.proofs.LeastDated.{first_is_least, none_is_least, no_keys}
use Rattle.resolver_cache.proofs.writings.least_at.Goals as goal

pub returns-in-Some : goal.returns-in-Some
returns-in-Some c =
    let k = c.in-Some.field-0.now in
    sym (first_is_least c.args.written.now.entries c.args.expiries.now k.0 k.1 c.requires c.in-Some.ensures.member c.in-Some.ensures.least)

pub returns-in-None : goal.returns-in-None
returns-in-None c =
    sym (none_is_least c.args.written.now.entries c.args.expiries.now c.requires (no_keys c.args.expiries.now.keys (λ some. let none = c.in-None.ensures.variant.1 some in cc)))
