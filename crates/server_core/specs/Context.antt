-- What a pool of servers is set to.
use Rattle.std.specs.Prelude.{ℕ, Option}
use Rattle.resolver_settings.specs.Access.{Access}
use Rattle.resolver_settings.specs.declared.options.ResolverOpts.{ResolverOpts}

-- its options, how many probes may go on at a time, and which addresses are taken out of answers, if any are
pub record Context : Type 0 where
  pub options : ResolverOpts
  pub probe_budget : ℕ
  pub answer_address_filter : Option Access
