use Rattle.std.proofs.Common.{rules}
use Rattle.std.proofs.lemmas.Fn.{filter_same}
use Rattle.resolution.specs.Verdict.{is_in_bailiwick}
use Rattle.walk_response.proofs.verdict.keep.Goals as goal

pub returns : goal.returns
returns c = filter_same _ (is_in_bailiwick c.args.zone.now) _ (λ x b g h. search rules) _ _ c.retain.ensures.filtered
