use Rattle.std.proofs.Common.{◌∙◌, Bool, ap}
use Rattle.resolution.specs.Class.{class_of_error}
use Rattle.pool_rules.specs.RetryQueue.{QueueState, ending_of}
use Rattle.pool_rules.proofs.QueueAfterEnd.{turned_by}
use Rattle.pool_rules.proofs.retry_queue.RetryQueue.hear_error.Goals as goal

pub returns-in-FallBackToTcp-clause-plan : goal.returns-in-FallBackToTcp-clause-plan
returns-in-FallBackToTcp-clause-plan c =
    let s = c.args.candidate in
    let e = c.args.error in
    let udp_off = ap (λ (p : QueueState). p.udp_off) c.self.view_is in
    let turns = c.in-FallBackToTcp.ensures ∙ ap (λ (b : Bool). ending_of b s.trusted (class_of_error e)) udp_off in
    turned_by s e c.args.self.now c.turn.new.self turns c.turn.ensures
