use Rattle.recursor_core.proofs.MachineWords.{refl, IfOk-weaker, Some, seen_by, IsStepAt, KeptHolds}
use Rattle.recursor_question.specs.Steps.{SteppedBy}
use Rattle.recursor_core.proofs.OnePlaceIsSet.{kept_at}
use Rattle.recursor_core.proofs.MachineAfterStep.{held-at, same-at, steps-at, gives-at, derived-at}
use Rattle.recursor_core.proofs.machine.resolutions.RecursorCore.step.Goals as goal

pub returns-clause-steps : goal.returns-clause-steps
returns-clause-steps c =
    let core = c.args.self.now in
    let xs = core.resolutions.items in
    let at = kept_at xs c.args.r c.index_mut.result.now c.in-Some.resolution c.requires c.index_mut.ensures.value c.in-Some.is in
    steps-at core.pools c.next.new.pools xs c.args.r c.in-Some.resolution c.next.new.self c.next.result at (rw c.deref_mut.ensures.value at c.next.ensures.steps) c.next.ensures.given

pub returns-clause-gives : goal.returns-clause-gives
returns-clause-gives c log d =
    let core = c.args.self.now in
    let xs = core.resolutions.items in
    let b = c.in-Some.resolution in
    let at = kept_at xs c.args.r c.index_mut.result.now b c.requires c.index_mut.ensures.value c.in-Some.is in
    let view = seen_by core log in
    let step : IsStepAt view core.greatest c.tick-tick.result = record { since_is = refl; now_is = c.tick-tick.ensures } in
    let stepped : SteppedBy view core.policy core.cache core.greatest c.tick-tick.result = record { are = refl; walks = d.walks; at = step; keeps = d.cache } in
    let held = held-at (KeptHolds view) xs c.args.r (Some b) at d.resolutions in
    let well = c.next.ensures.holds view (rw c.policy.ensures stepped) d.pools (rw c.deref_mut.ensures.value held) in (
      derived-at core _ log c.args.r _ _ at refl refl d (λ h. (well.holds, well.tables)),
      IfOk-weaker c.next.result _ _ (λ s h. gives-at core log c.args.r b s at (rw c.deref_mut.ensures.value at h)) well.gives,
    )

pub returns-clause-same : goal.returns-clause-same
returns-clause-same c =
    let xs = c.args.self.now.resolutions.items in
    let at = kept_at xs c.args.r c.index_mut.result.now c.in-Some.resolution c.requires c.index_mut.ensures.value c.in-Some.is in
    same-at c.args.self.now _ c.args.r c.in-Some.resolution c.next.new.self at (rw c.deref_mut.ensures.value at c.next.ensures.begun) refl refl
