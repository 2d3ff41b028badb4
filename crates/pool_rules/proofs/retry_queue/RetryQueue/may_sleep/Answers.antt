use Rattle.std.proofs.Common.{rules}
use Rattle.pool_rules.proofs.retry_queue.RetryQueue.may_sleep.Goals as goal

pub returns-then-not-is_empty : goal.returns-then-not-is_empty
returns-then-not-is_empty c = search rules
