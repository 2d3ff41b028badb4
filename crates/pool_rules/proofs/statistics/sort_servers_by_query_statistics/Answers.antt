use Rattle.std.proofs.Common.{rules}
use Rattle.std.proofs.lemmas.Fn.{always_returns_same}
use Rattle.std.proofs.lemmas.List.Sorted.{IsNonDecreasingBy-from_sort_by_key}
use Rattle.pool_rules.specs.Statistics.{delay_of}
use Rattle.pool_rules.proofs.statistics.sort_servers_by_query_statistics.Goals as goal

pub returns-clause-sorted : goal.returns-clause-sorted
returns-clause-sorted c =
    IsNonDecreasingBy-from_sort_by_key (delay_of c.args.table.now c.args.now) _ c.in_ok-sort_by_cached_key.ensures.sorted (λ a r q k. search rules)

pub returns-clause-stable : goal.returns-clause-stable
returns-clause-stable c =
    c.sort_by_cached_key.ensures.stable (delay_of c.args.table.now c.args.now) (always_returns_same _ _ _ (λ a r q k. search rules))
