use Rattle.std.specs.Prelude.{◌&&◌}
use Rattle.dns_core.specs.Name.{same_names}
use Rattle.dns_core.specs.Classifying.{is_ns}
use Rattle.resolution_reference.specs.Plain.{apex}
use Rattle.resolution_reference.proofs.SectionTests.{list_any-kept}
use Rattle.resolution_reference.proofs.kept.kept.Kept.is_delegation.Goals as goal

pub returns : goal.returns
returns c = let e = list_any-kept c.args.self.now (λ r. is_ns r && same_names r.name (apex c.args.labels.now)) in cc
