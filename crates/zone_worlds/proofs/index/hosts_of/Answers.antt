use Rattle.std.proofs.Common.{refl}
use Rattle.std.proofs.lemmas.List.{take_more}
use Rattle.std.proofs.lemmas.Option.{slice_get_read}
use Rattle.zone_worlds.proofs.IndexOfOneMore.{hosts_more}
use Rattle.zone_worlds.proofs.index.hosts_of.Goals as goal

pub loop-place-preserved : goal.loop-place-preserved
loop-place-preserved c =
    let hosts = c.args.hosts.now in
    let i = c.loop-place.place in
    let x = c.index-hosts-place.result in
    let here = slice_get_read hosts _ i x refl c.loop-place-test.true c.index-hosts-place.is in
    let more = take_more hosts i x c.loop-place-test.true in
    let next = hosts_more hosts _ c.loop-place.places c.put_host.new.hosts x i c.loop-place.invariant c.in_ok-put_host.ensures here in
    rw more (rw (← c.index-hosts-place.is) next)
