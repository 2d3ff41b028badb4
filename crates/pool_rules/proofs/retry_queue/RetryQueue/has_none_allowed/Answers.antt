use Rattle.std.proofs.Common.{◌≡◌, ◌∙◌, not, ap, rules, tests}
use Rattle.std.specs.List.{list_any}
use Rattle.std.proofs.lemmas.Iterator.Consumers.{YieldsList-from_deque}
use Rattle.std.proofs.lemmas.Iterator.Search.{any_from_yields_List}
use Rattle.pool_rules.specs.RetryQueue.{QueueState, may_ask}
use Rattle.pool_rules.proofs.retry_queue.RetryQueue.has_none_allowed.Goals as goal

pub returns : goal.returns
returns c =
    let may = may_ask c.args.self.now.udp_off in
    let queue = c.self.inside.waiting.items in
    let found : c.any.result ≡ list_any may queue =
    any_from_yields_List may _ _ c.any.result c.any.ensures.ran (YieldsList-from_deque queue c.iter.ensures.rest) (λ x b q k. search (rules, tests)) in
    ap not (found ∙ ap (λ (p : QueueState). list_any may p.waiting) c.self.view_is)
