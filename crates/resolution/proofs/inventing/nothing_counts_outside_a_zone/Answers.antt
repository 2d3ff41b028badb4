use Rattle.std.proofs.Common.{◌≡◌, true, false}
use Rattle.resolver_settings.specs.Access.{denies}
use Rattle.resolution.specs.Records.{records}
use Rattle.resolution.specs.Verdict.{is_in_bailiwick, holds_denied}
use Rattle.resolution.proofs.ElementsFiltered.{All-from_Has}
use Rattle.resolution.proofs.NoAddressIsInvented.{in_zone-counted, allowed-counted}
use Rattle.resolution.proofs.inventing.nothing_counts_outside_a_zone.Goals as goal

pub returns-clause-inside : goal.returns-clause-inside
returns-clause-inside c = λ policy o q z k v. All-from_Has (λ r. is_in_bailiwick z r ≡ true) (records k) (λ r h. in_zone-counted policy o q z k r v h)

pub returns-clause-allowed : goal.returns-clause-allowed
returns-clause-allowed c = λ policy o q z k v. All-from_Has (λ r. holds_denied (denies policy.answer_filter) r ≡ false) (records k) (λ r h. allowed-counted policy o q z k r v h)
