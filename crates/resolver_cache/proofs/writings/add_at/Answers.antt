use Rattle.std.proofs.Common.{ℕ, true, List, subst, sym}
use Rattle.kept_responses.specs.declared.entry.Entry.{Entry}
use Rattle.resolver_cache.specs.Writings.{AreDated}
use Rattle.resolver_cache.proofs.ExpiriesStay.{none_under, said_of_same, dated_added, dated_undone}
use Rattle.resolver_cache.proofs.writings.add_at.Goals as goal

pub returns-in-Ok-clause-kept : goal.returns-in-Ok-clause-kept
returns-in-Ok-clause-kept c =
    let es = c.args.written.now.entries in
    record {
      rising = c.in-Ok.ensures.rising;
      dated = dated_added es _ c.args.expiries.now _ c.args.number c.args.entry c.requires.kept.dated (none_under c.args.number es c.requires.above) (said_of_same c.insert.new.self c.args.expiries.now true c.args.number c.expiry-expiry.ensures c.in_ok-_new.ensures.updates.0) c.in-Ok.ensures.updates;
    }

pub returns-in-Err-clause-kept : goal.returns-in-Err-clause-kept
returns-in-Err-clause-kept c =
    let es = c.args.written.now.entries in
    record {
      rising = c.in-Err.ensures.rising;
      dated = subst (λ (l : List (ℕ × Entry)). AreDated l c.remove-there.new.self) (sym c.in-Err.ensures.err) (dated_undone es c.args.expiries.now _ _ c.args.number c.expiry-expiry.result c.requires.kept.dated (none_under c.args.number es c.requires.above) c.in_ok-_new.ensures.updates.0 c.remove-there.ensures.updates.0);
    }
