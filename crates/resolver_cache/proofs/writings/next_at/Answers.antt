use Rattle.resolver_cache.proofs.Above.{above_last}
use Rattle.resolver_cache.proofs.writings.next_at.Goals as goal

pub returns-in-Some : goal.returns-in-Some
returns-in-Some c =
    above_last c.checked_add.result c.args.written.now.entries c.in-Some.last.now c.checked_add.ensures c.in-Some.ensures.all_up_to
