use Rattle.std.proofs.Common.{ℕ, refl, inl, arith}
use Rattle.std.specs.declared.net.ip_addr.IpAddr.TheVariants.{V4}
use Rattle.dns_core.specs.declared.connection.Protocol.TheVariants.{Udp}
use Rattle.dns_core.specs.declared.log.ToldOutcome.TheVariants as outcome
use Rattle.resolution.specs.Names.{root, question}
use Rattle.resolution.specs.Telling.{Tells}
use Rattle.resolution.specs.Serving.{Serves}
use Rattle.resolution.specs.Serving.Serves.{of_root}
use Rattle.resolution.specs.Serving.Heard.{heard}
use Rattle.resolution.specs.Answering.{Base}
use Rattle.resolution.specs.Answering.Answers.{direct, by_alias}
use Rattle.resolution.specs.BaseScript as script
use Rattle.resolution.specs.declared.verdict.Verdict.TheVariants.{Pos}
use Rattle.resolution.proofs.Sameness.{Same-refl}
use Rattle.resolution.proofs.base_script.an_alias_is_answered.Goals as goal

serves : (n : ℕ) → Serves script.policy script.alias_log n (V4 (script.quad 11 0 0 1)) root
serves n = of_root (0, omega arith, refl)

told_4 : Tells script.alias_log 4 (question script.x 1) (outcome.Message script.alias_reply) 3 (V4 (script.quad 11 0 0 1)) 0
told_4 = record { protocol = Udp; asked = question script.x 1; asked_at = 0; told = record { below = omega arith; is = refl }; question = record { below = omega arith; is = refl }; before = omega arith; same = refl }

told_8 : Tells script.alias_log 8 (question script.y 1) (outcome.Message script.target_reply) 7 (V4 (script.quad 11 0 0 1)) 0
told_8 = record { protocol = Udp; asked = question script.y 1; asked_at = 0; told = record { below = omega arith; is = refl }; question = record { below = omega arith; is = refl }; before = omega arith; same = refl }

base_4 : Base script.policy script.alias_log 0 (question script.x 1) 4 root (Pos script.alias_reply)
base_4 = record { told = outcome.Message script.alias_reply; moment = 0; heard = heard told_4 (serves 3) refl; counts = refl; fresh = inl (omega arith) }

base_8 : Base script.policy script.alias_log 0 (question script.y 1) 8 root (Pos script.target_reply)
base_8 = record { told = outcome.Message script.target_reply; moment = 0; heard = heard told_8 (serves 7) refl; counts = refl; fresh = inl (omega arith) }

pub returns : goal.returns
returns c = record {
  answers = by_alias base_4 (inl refl) refl (direct base_8 (inl refl) refl (Same-refl script.target_reply)) (Same-refl script.whole_reply);
  few = omega arith;
}
