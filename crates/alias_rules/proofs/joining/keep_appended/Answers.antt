use Rattle.std.proofs.Common.{rules}
use Rattle.std.proofs.lemmas.Fn.{filter_same}
use Rattle.resolution.specs.Answering.{is_appended}
use Rattle.alias_rules.proofs.joining.keep_appended.Goals as goal

pub returns : goal.returns
returns c = filter_same _ (is_appended c.args.asked) _ (λ x b g h. search rules) _ _ c.retain.ensures.filtered
