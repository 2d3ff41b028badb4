use Rattle.std.specs.HashMap.{get}
use Rattle.dns_core.specs.Name.{same_names}
use Rattle.dns_core.specs.NameLaws.{same_names_equiv}
use Rattle.zone_worlds.proofs.IndexOfOneMore.{put_new, put_known, absent, present}
use Rattle.zone_worlds.proofs.index.put_first.Goals as goal

pub returns-in_ok-insert : goal.returns-in_ok-insert
returns-in_ok-insert c = λ n.
    let none = absent (get same_names c.args.zones.now c.args.apex) c.contains_key.result c.contains_key.ensures c.if-not-contains_key.true in
    put_new same_names_equiv c.args.zones.now c.insert.new.self c.args.apex n c.args.place none (c.in_ok-insert.ensures.updates.0 n)

pub returns-else-not-contains_key : goal.returns-else-not-contains_key
returns-else-not-contains_key c = λ n.
    let some = present (get same_names c.args.zones.now c.args.apex) c.contains_key.result c.contains_key.ensures c.if-not-contains_key.false in
    put_known same_names_equiv c.args.zones.now c.args.apex n c.args.place some.0 some.1
