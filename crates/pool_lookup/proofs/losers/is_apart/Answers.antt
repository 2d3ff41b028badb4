use Rattle.std.proofs.Common.{◌∙◌, not, sym, ap}
use Rattle.pool_lookup.specs.Cancelling.{address_of}
use Rattle.pool_lookup.proofs.LosersRecorded.{apart_at}
use Rattle.pool_lookup.proofs.losers.is_apart.Goals as goal

pub returns-in-Some : goal.returns-in-Some
returns-in-Some c =
    ap not c.has_address.ensures
    ∙ sym (apart_at (address_of c.args.table.now) c.args.among.now c.args.number c.in-Some.ip (sym (sym c.in-Some.is ∙ c.address_of.ensures)))
