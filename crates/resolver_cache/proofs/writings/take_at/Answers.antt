use Rattle.std.proofs.Common.{false, sym}
use Rattle.resolver_cache.proofs.ExpiriesStay.{said_of_same, dated_taken}
use Rattle.resolver_cache.proofs.writings.take_at.Goals as goal

pub returns-in-Some-clause-kept : goal.returns-in-Some-clause-kept
returns-in-Some-clause-kept c = record {
  rising = c.in-Some.ensures.ordered;
  dated = dated_taken c.args.written.now.entries _ c.args.expiries.now _ c.args.number c.in-Some.gone c.requires.dated (sym c.in-Some.ensures.value) (said_of_same c.remove-there.new.self c.args.expiries.now false c.args.number c.expiry.ensures c.remove-there.ensures.updates.0) c.in-Some.ensures.updates.0;
}
