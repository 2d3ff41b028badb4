use Rattle.std.proofs.Common.{◌≡◌, ◌==◌, false, take}
use Rattle.std.specs.List.{list_any}
use Rattle.pool_lookup.specs.Cancelling.{others_of}
use Rattle.pool_lookup.proofs.lookup.Lookup.stands_before.Given as goal

abbrev pub invariant-earlier : goal.invariant-earlier
invariant-earlier l = list_any (λ m. m == l.number) (take l.other (others_of l.self)) ≡ false
