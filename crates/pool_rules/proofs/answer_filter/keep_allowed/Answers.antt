use Rattle.std.proofs.Common.{rules}
use Rattle.std.specs.Prelude.{not}
use Rattle.std.proofs.lemmas.Fn.{filter_same}
use Rattle.resolver_settings.specs.Access.{denies}
use Rattle.resolution.specs.Verdict.{holds_denied}
use Rattle.pool_rules.proofs.answer_filter.keep_allowed.Goals as goal

pub returns : goal.returns
returns c = filter_same _ (λ r. not (holds_denied (denies c.args.set.now) r)) _ (λ x b g h. search rules) _ _ c.retain.ensures.filtered
