use Rattle.std.proofs.Common.{sym, ◌∙◌}
use Rattle.resolution.proofs.Classified.{class_of_message-itself}
use Rattle.resolution.proofs.Caseless.{class_of_message-same, classified-same}
use Rattle.resolution.proofs.orders.a_message_is_what_classify_says.Goals as goal

pub returns : goal.returns
returns c = λ m q e. sym (class_of_message-same m.query q e m) ∙ class_of_message-itself m ∙ classified-same m.query q e _
