use Rattle.resolution_reference.specs.Plain.{apex, kept, holds_for}
use Rattle.resolution_reference.proofs.SectionTests.{list_any-kept}
use Rattle.resolution_reference.proofs.kept.kept.Kept.has_under.Goals as goal

pub returns : goal.returns
returns c = let e = list_any-kept c.args.self.now (holds_for (kept c.args.delegation.now) (apex c.args.base.now) c.args.ip) in cc
