use Rattle.std.proofs.Common.{rules}
use Rattle.std.proofs.lemmas.Fn.{filter_same}
use Rattle.dns_core.specs.Stripping.{is_kept}
use Rattle.dns_core.proofs.stripping.keep.Goals as goal

pub returns : goal.returns
returns c = filter_same _ (is_kept c.args.asked) _ (λ x b g h. search rules) _ _ c.retain.ensures.filtered
