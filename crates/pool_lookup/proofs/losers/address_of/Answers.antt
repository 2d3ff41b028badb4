use Rattle.std.proofs.Common.{◌∙◌, sym, ap}
use Rattle.std.proofs.lemmas.Bool.{ltb-true, ltb-false}
use Rattle.std.proofs.lemmas.Option.{slice_get_past}
use Rattle.server_core.specs.Servers.{place_of}
use Rattle.pool_lookup.proofs.LosersRecorded.{address_in}
use Rattle.pool_lookup.proofs.losers.address_of.Goals as goal

pub get-requires : goal.get-requires
get-requires c = ltb-true _ _ (sym c.is_live.ensures ∙ c.if-is_live.true)

pub returns-else-is_live : goal.returns-else-is_live
returns-else-is_live c =
    sym (ap address_in (slice_get_past c.args.table.now (place_of c.args.number) (ltb-false _ _ (sym c.is_live.ensures ∙ c.if-is_live.false))))
