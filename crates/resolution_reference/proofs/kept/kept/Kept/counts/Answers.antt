use Rattle.std.specs.Prelude.{not}
use Rattle.resolver_settings.specs.Access.{denies}
use Rattle.resolution.specs.Verdict.{holds_denied, is_in_bailiwick}
use Rattle.resolution_reference.specs.Plain.{apex}
use Rattle.resolution_reference.proofs.SectionTests.{all_denied-tests, emptied-tests}
use Rattle.resolution_reference.proofs.kept.kept.Kept.counts.Goals as goal

pub returns : goal.returns
returns c =
    let a = all_denied-tests (denies c.args.self.now.denied.now) c.args.self.now.message.now in
    let b = emptied-tests (λ r. not (holds_denied (denies c.args.self.now.denied.now) r)) (is_in_bailiwick (apex c.args.self.now.zone.now)) c.args.self.now.message.now in
    cc
