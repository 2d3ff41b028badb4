use Rattle.std.proofs.Common.{rules, false}
use Rattle.std.proofs.lemmas.Fn.{filter_same}
use Rattle.server_pool.specs.UsableServers.{is_reached}
use Rattle.server_pool.proofs.open_lookups.reached.keep_reached.Goals as goal

pub returns : goal.returns
returns c = filter_same _ (is_reached (record { disable_udp = false }) c.args.table.now) _ (λ x b g h. search rules) _ _ c.retain.ensures.filtered
