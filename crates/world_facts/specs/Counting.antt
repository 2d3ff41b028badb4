-- What is told and counts whole.
use Rattle.std.specs.Prelude.{◌≡◌, true, false}
use Rattle.dns_core.specs.Name.{DomainName}
use Rattle.dns_core.specs.Classifying.{no_records}
use Rattle.dns_core.specs.declared.message.Query.{Query}
use Rattle.dns_core.specs.declared.message.Message.{Message as Response}
use Rattle.dns_core.specs.declared.log.ToldOutcome.{ToldOutcome}
use Rattle.dns_core.specs.declared.log.ToldOutcome.TheVariants.{Message}
use Rattle.resolution.specs.Class.{has_no_data_for}
use Rattle.resolution.specs.Verdict.{scrub_negative}
use Rattle.resolution.specs.declared.verdict.Verdict.{Verdict}
use Rattle.resolution.specs.declared.verdict.Verdict.TheVariants.{Pos, Neg}

-- A message with data for the question counts as it is, and one without as the denial that it is.
pub data CountsWhole (query : Query) (zone : DomainName) (outcome : ToldOutcome) (verdict : Verdict) : Type 0 where
  as_answer : {m : Response} → outcome ≡ Message m → has_no_data_for query m ≡ false → verdict ≡ Pos m → CountsWhole query zone outcome verdict
  as_denial : {m : Response} → outcome ≡ Message m → has_no_data_for query m ≡ true → verdict ≡ Neg (scrub_negative zone (no_records m)) → CountsWhole query zone outcome verdict
