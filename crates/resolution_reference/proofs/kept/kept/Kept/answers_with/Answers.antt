use Rattle.resolver_settings.specs.Access.{denies}
use Rattle.resolution_reference.proofs.SectionTests.{all_denied-tests}
use Rattle.resolution_reference.proofs.kept.kept.Kept.answers_with.Goals as goal

pub returns : goal.returns
returns c = let a = all_denied-tests (denies c.args.self.now.denied.now) c.args.self.now.message.now in cc
