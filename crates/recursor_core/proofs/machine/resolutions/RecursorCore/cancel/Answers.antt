use Rattle.recursor_core.proofs.MachineWords.{◌≤◌, length, None, ap, refl, arith, set, slice_get_read, seen_by}
use Rattle.recursor_core.proofs.MachineAfterStep.{ended-at, gone-ended, gone-past, derived-at}
use Rattle.recursor_core.proofs.machine.resolutions.RecursorCore.cancel.Goals as goal

pub returns-in-Some-clause-derived : goal.returns-in-Some-clause-derived
returns-in-Some-clause-derived c log d =
    let xs = c.args.self.now.resolutions.items in
    let at = slice_get_read xs (length xs) c.args.r c.index_mut.result.now refl (omega (arith, c.if-r-len.true)) c.index_mut.ensures.value in
    derived-at c.args.self.now _ log c.args.r _ None at refl (ap (set xs c.args.r) c.replace.ensures.after) d
    (λ h. (tt, c.leave.ensures.holds (seen_by c.args.self.now log) d.pools))

pub returns-in-Some-clause-same : goal.returns-in-Some-clause-same
returns-in-Some-clause-same c =
    let xs = c.args.self.now.resolutions.items in
    ended-at c.args.self.now _ c.args.r (omega (arith, c.if-r-len.true)) refl (ap (set xs c.args.r) c.replace.ensures.after)

pub returns-in-None-clause-derived : goal.returns-in-None-clause-derived
returns-in-None-clause-derived c log d =
    let xs = c.args.self.now.resolutions.items in
    let at = slice_get_read xs (length xs) c.args.r c.index_mut.result.now refl (omega (arith, c.if-r-len.true)) c.index_mut.ensures.value in
    derived-at c.args.self.now _ log c.args.r _ None at refl (ap (set xs c.args.r) c.replace.ensures.after) d (λ h. (tt, d.pools))

pub returns-in-None-clause-same : goal.returns-in-None-clause-same
returns-in-None-clause-same c =
    let xs = c.args.self.now.resolutions.items in
    ended-at c.args.self.now _ c.args.r (omega (arith, c.if-r-len.true)) refl (ap (set xs c.args.r) c.replace.ensures.after)

pub returns-in-Some-clause-ended : goal.returns-in-Some-clause-ended
returns-in-Some-clause-ended c =
    let xs = c.args.self.now.resolutions.items in
    rw c.replace.ensures.after (gone-ended xs c.args.r (omega (arith, c.if-r-len.true)))

pub returns-in-None-clause-ended : goal.returns-in-None-clause-ended
returns-in-None-clause-ended c =
    let xs = c.args.self.now.resolutions.items in
    rw c.replace.ensures.after (gone-ended xs c.args.r (omega (arith, c.if-r-len.true)))

pub returns-else-r-len-clause-ended : goal.returns-else-r-len-clause-ended
returns-else-r-len-clause-ended c =
    let xs = c.args.self.now.resolutions.items in
    let past : length xs ≤ c.args.r = omega (arith, c.if-r-len.false) in
    gone-past xs c.args.r past
