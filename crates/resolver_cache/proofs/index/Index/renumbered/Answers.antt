use Rattle.std.proofs.Common.{◌∙◌, arith}
use Rattle.std.specs.Map.Iter.{deref}
use Rattle.std.proofs.lemmas.Map.Iter.{rest_more, rest_all}
use Rattle.resolver_cache.proofs.CopiesRenumbered.{begun_same, begun_above, begun_few, all_moved, counted_on, number_fits, next_above, new_here, moved_on}
use Rattle.resolver_cache.proofs.index.Index.renumbered.Goals as goal

pub loop-entry-init : goal.loop-entry-init
loop-entry-init c =
    let all = c.into_iter-entry-iterator.ensures.into_iter_gives ∙ c.values-entry-items.ensures.rest in
    let same = begun_same c.new-copy.result.writings c.args.self.now.writings c.written-written.result.now.entries _ c.new-copy.ensures.empty all c.written-written.ensures in
    record {
      same = same;
      above = begun_above c.new-copy.result.writings c.new-copy.ensures.empty;
      placed = c.new-copy.ensures.placed;
      few = begun_few c.args.self.now.writings c.written-written.result.now.entries _ all c.written-written.ensures;
    }

pub add_copy-requires-clause-new : goal.add_copy-requires-clause-new
add_copy-requires-clause-new c =
    let more = rest_more deref c.loop-entry.entry-iterator c.next.new.self c.next.result c.in-Some.entry c.in-Some.is c.next.ensures.steps in
    new_here c.args.self.now.writings c.loop-entry.copy.writings c.loop-entry.entry-iterator c.next.new.self c.in-Some.entry.now c.requires c.loop-entry.invariant.same more

pub overflow_add-number : goal.overflow_add-number
overflow_add-number c =
    let more = rest_more deref c.loop-entry.entry-iterator c.next.new.self c.next.result c.in-Some.entry c.in-Some.is c.next.ensures.steps in
    let fits = number_fits c.args.self.now.writings c.written-written.result.now.entries c.loop-entry.entry-iterator c.next.new.self c.loop-entry.number c.in-Some.entry.now c.loop-entry.invariant.few more c.written-written.ensures c.values-entry-items.ensures.fits in
    omega (arith, fits)

pub loop-entry-preserved : goal.loop-entry-preserved
loop-entry-preserved c =
    let es = c.loop-entry.copy.writings in
    let it = c.loop-entry.entry-iterator in
    let rest = c.next.new.self in
    let e = c.in-Some.entry.now in
    let n = c.loop-entry.number in
    let more = rest_more deref it rest c.next.result c.in-Some.entry c.in-Some.is c.next.ensures.steps in
    record {
      same = moved_on c.args.self.now.writings es _ it rest n e c.loop-entry.invariant.same more c.in_ok-add_copy.ensures.ok;
      above = next_above es _ n e c.loop-entry.invariant.above c.in_ok-add_copy.ensures.ok;
      placed = c.in_ok-add_copy.ensures.placed;
      few = counted_on c.args.self.now.writings it rest n e c.loop-entry.invariant.few more;
    }

pub returns-clause-same : goal.returns-clause-same
returns-clause-same c =
    let none = rest_all deref c.loop-entry.entry-iterator c.next.new.self c.next.result c.in-None.is c.next.ensures.steps in
    all_moved c.loop-entry.copy.writings c.args.self.now.writings c.loop-entry.entry-iterator none c.loop-entry.invariant.same
