use Rattle.resolution_reference.specs.Plain.{apex, names_target}
use Rattle.resolution_reference.proofs.SectionTests.{list_any-kept}
use Rattle.resolution_reference.proofs.kept.kept.Kept.is_target.Goals as goal

pub returns : goal.returns
returns c = let e = list_any-kept c.args.self.now (names_target (apex c.args.base.now) c.args.name.now) in cc
