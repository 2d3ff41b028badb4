use Rattle.std.proofs.Common.{refl, inl, arith}
use Rattle.std.specs.declared.net.ip_addr.IpAddr.TheVariants.{V4}
use Rattle.dns_core.specs.declared.connection.Protocol.TheVariants.{Udp}
use Rattle.dns_core.specs.declared.log.ToldOutcome.TheVariants as outcome
use Rattle.resolution.specs.Names.{root, question}
use Rattle.resolution.specs.Telling.{Tells}
use Rattle.resolution.specs.Serving.{Serves}
use Rattle.resolution.specs.Serving.Serves.{of_root, of_glue}
use Rattle.resolution.specs.Serving.Delegates.{delegates}
use Rattle.resolution.specs.Serving.Heard.{heard}
use Rattle.resolution.specs.Answering.{Base}
use Rattle.resolution.specs.Answering.Answers.{direct}
use Rattle.resolution.specs.BaseScript as script
use Rattle.resolution.specs.declared.verdict.Verdict.TheVariants.{Pos}
use Rattle.resolution.proofs.Sameness.{Same-refl}
use Rattle.resolution.proofs.base_script.the_base_script_is_answered.Goals as goal

root_serves : Serves script.policy script.log 3 (V4 (script.quad 11 0 0 1)) root
root_serves = of_root (0, omega arith, refl)

told_4 : Tells script.log 4 (question script.commercial 2) (outcome.Message (script.referral script.commercial script.nic (script.quad 11 0 0 2))) 3 (V4 (script.quad 11 0 0 1)) 0
told_4 = record { protocol = Udp; asked = question script.commercial 2; asked_at = 0; told = record { below = omega arith; is = refl }; question = record { below = omega arith; is = refl }; before = omega arith; same = refl }

com_serves : Serves script.policy script.log 7 (V4 (script.quad 11 0 0 2)) script.commercial
com_serves = of_glue (delegates {i = 4} {z = root} (omega arith) (heard told_4 root_serves refl) refl refl refl) refl (0, omega arith, refl)

told_8 : Tells script.log 8 (question script.example 2) (outcome.Message (script.referral script.example script.ns_example (script.quad 11 0 0 3))) 7 (V4 (script.quad 11 0 0 2)) 0
told_8 = record { protocol = Udp; asked = question script.example 2; asked_at = 0; told = record { below = omega arith; is = refl }; question = record { below = omega arith; is = refl }; before = omega arith; same = refl }

example_serves : Serves script.policy script.log 11 (V4 (script.quad 11 0 0 3)) script.example
example_serves = of_glue (delegates {i = 8} {z = script.commercial} (omega arith) (heard told_8 com_serves refl) refl refl refl) refl (0, omega arith, refl)

told_12 : Tells script.log 12 (question script.example 1) (outcome.Message script.reply) 11 (V4 (script.quad 11 0 0 3)) 0
told_12 = record { protocol = Udp; asked = question script.example 1; asked_at = 0; told = record { below = omega arith; is = refl }; question = record { below = omega arith; is = refl }; before = omega arith; same = refl }

base_12 : Base script.policy script.log 0 (question script.example 1) 12 script.example (Pos script.reply)
base_12 = record { told = outcome.Message script.reply; moment = 0; heard = heard told_12 example_serves refl; counts = refl; fresh = inl (omega arith) }

pub returns : goal.returns
returns c = record { answers = direct base_12 (inl refl) refl (Same-refl script.reply); few = omega arith }
