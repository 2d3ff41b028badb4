use Rattle.std.proofs.Common.{Some, None, cond, refl, ap, ◌∙◌}
use Rattle.std.specs.Option.{option_or}
use Rattle.std.specs.HashMap.{get}
use Rattle.std.proofs.lemmas.List.{take_more}
use Rattle.std.proofs.lemmas.Option.{slice_get_read}
use Rattle.dns_core.specs.Name.{same_names}
use Rattle.zone_worlds.proofs.IndexOfOneMore.{zones_more}
use Rattle.zone_worlds.proofs.index.places_of.Goals as goal

pub loop-place-preserved : goal.loop-place-preserved
loop-place-preserved c =
    let zones = c.args.zones.now in
    let i = c.loop-place.place in
    let x = c.index-zones-place.result in
    let here = slice_get_read zones _ i x refl c.loop-place-test.true c.index-zones-place.is in
    let more = take_more zones i x c.loop-place-test.true in
    let next = zones_more zones _ c.loop-place.places c.put_first.new.zones x i c.loop-place.invariant
    (λ n. c.in_ok-put_first.ensures n ∙ ap (λ k. option_or (get same_names c.loop-place.places n) (cond (same_names k n) (Some i) None)) c.in_ok-try_clone.ensures) here in
    rw more (rw (← c.index-zones-place.is) next)
