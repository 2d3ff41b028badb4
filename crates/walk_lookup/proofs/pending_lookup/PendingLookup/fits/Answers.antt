use Rattle.walk_lookup.proofs.pending_lookup.PendingLookup.fits.Goals as goal

pub returns-in-Pending : goal.returns-in-Pending
returns-in-Pending c = rw c.in-Pending.is c.is_polled.ensures
