use Rattle.std.proofs.Common.{◌∙◌, Bool, cond, Some, find, ap, sym}
use Rattle.std.specs.List.{after_first}
use Rattle.pool_rules.specs.RetryQueue.{QueueState, may_ask}
use Rattle.pool_rules.proofs.FirstThatPasses.{after_no}
use Rattle.pool_rules.proofs.retry_queue.RetryQueue.pop_allowed.Goals as goal

pub refused-preserved : goal.refused-preserved
refused-preserved c =
    let may = may_ask c.self.inside.policy.disable_udp in
    let left = c.pop_front.new.self.items in
    let barred = sym c.may_ask.ensures ∙ c.if-may_ask.false in
    record {
      busy = ap (λ (p : QueueState). p.busy) c.self.view_is ∙ c.refused.invariant.busy;
      udp_off = ap (λ (p : QueueState). p.udp_off) c.self.view_is ∙ c.refused.invariant.udp_off;
      kept = ap (λ (p : QueueState). p.kept) c.self.view_is ∙ c.refused.invariant.kept;
      sleeps = ap (λ (p : QueueState). p.sleeps) c.self.view_is ∙ c.refused.invariant.sleeps;
      most = ap (λ (p : QueueState). p.most) c.self.view_is ∙ c.refused.invariant.most;
      first =
          sym (ap (λ (b : Bool). cond b (Some c.in-Some.candidate) (find may left)) barred)
          ∙ ap (find may) (sym c.in-Some.ensures.items)
          ∙ ap (λ (p : QueueState). find (may_ask p.udp_off) p.waiting) c.self.view_is
          ∙ c.refused.invariant.first
          ∙ ap (λ (p : QueueState). find (may_ask p.udp_off) c.args.self.now.waiting) (sym c.self.view_is);
      rest =
          sym (after_no may c.in-Some.candidate left barred)
          ∙ ap (after_first may) (sym c.in-Some.ensures.items)
          ∙ ap (λ (p : QueueState). after_first (may_ask p.udp_off) p.waiting) c.self.view_is
          ∙ c.refused.invariant.rest
          ∙ ap (λ (p : QueueState). after_first (may_ask p.udp_off) c.args.self.now.waiting) (sym c.self.view_is);
    }
