use Rattle.std.proofs.Common.{◌+◌}
use Rattle.server_pool.proofs.NewServers.{pool-live}
use Rattle.server_pool.proofs.pool.NameServerPool.from_config.Goals as goal

pub returns-clause-live : goal.returns-clause-live
returns-clause-live c =
    pool-live c.from_nameservers.result c.args.first_delays.now c.args.servers.items c.args.shared.now c.add_all.new.shared c.from_nameservers.new.shared
    (c.add_all.new.shared.pools + 1) c.in_ok-numbers.numbers.items c.in_ok-numbers.ensures.ok c.in_ok-numbers.ensures.numbers
    c.from_nameservers.ensures.ok c.from_nameservers.ensures.pool
