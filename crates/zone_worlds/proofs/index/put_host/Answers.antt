use Rattle.std.specs.HashMap.{get}
use Rattle.std.specs.contracts.net.ip_addr.IpAddrPartialEq.TheImpl as address
use Rattle.std.specs.contracts.net.ip_addr.IpAddrEq.TheImpl.Laws as address_eq
use Rattle.zone_worlds.proofs.IndexOfOneMore.{put_new, put_known, absent, present}
use Rattle.zone_worlds.proofs.index.put_host.Goals as goal

pub returns-in_ok-insert : goal.returns-in_ok-insert
returns-in_ok-insert c = λ a.
    let none = absent (get address.ghosts.eq c.args.hosts.now c.args.ip) c.contains_key.result c.contains_key.ensures c.if-not-contains_key.true in
    put_new address_eq.laws-law c.args.hosts.now c.insert.new.self c.args.ip a c.args.place none (c.in_ok-insert.ensures.updates.0 a)

pub returns-else-not-contains_key : goal.returns-else-not-contains_key
returns-else-not-contains_key c = λ a.
    let some = present (get address.ghosts.eq c.args.hosts.now c.args.ip) c.contains_key.result c.contains_key.ensures c.if-not-contains_key.false in
    put_known address_eq.laws-law c.args.hosts.now c.args.ip a c.args.place some.0 some.1
