use Rattle.std.proofs.Common.{◌≡◌, [], take, drop}
use Rattle.pool_lookup.specs.Cancelling.{others_of}
use Rattle.pool_lookup.proofs.LosersRecorded.{cancelled_from}
use Rattle.pool_lookup.proofs.lookup.Lookup.cancel_others.Given as goal

-- the rest of the servers give the same table
abbrev pub invariant-others : goal.invariant-others
invariant-others l =
    cancelled_from l.self.ended l.winner l.now (take l.place (others_of l.self)) (drop l.place (others_of l.self)) l.table
    ≡ cancelled_from l.self.ended l.winner l.now [] (others_of l.self) l.fn.table
