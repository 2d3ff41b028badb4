use Rattle.walk_tables.proofs.Names.{◌≡◌, ℕ, true, refl, sym, ap, ◌∙◌, Some, None, Result, Ok, Err, is_err, NoMemory, Shared, HasNoted, GivesNext, aim_of, noted, OpenOrder, step-count}
use Rattle.walk_tables.specs.declared.pools.PoolsStep.{PoolsStep}
use Rattle.walk_tables.proofs.PoolsAfterStep.{pools-ordered, pools-done, pools-answer, pools-go, pools-waits}
use Rattle.walk_tables.proofs.LookupOrders.{awaits-order}
use Rattle.walk_tables.proofs.pools.Pools.step.Goals as goal

pub returns-in-Ok-Order-clause-holds : goal.returns-in-Ok-Order-clause-holds
returns-in-Ok-Order-clause-holds c view step h =
    let old = c.args.self.now in
    let n = c.args.lookup.now.number in
    let note : HasNoted n (noted (Some (record { number = c.in-Ok-Order.number; aim = aim_of c.in-Ok-Order.order; since = view.greatest; polled = None })) None None) (record old { shared = c.next.new.shared }) c.note.new.self =
    rw (c.number-n.ensures, c.aim_of-aim.ensures, step.since_is) at c.note.ensures in
    pools-ordered view n old c.note.new.self c.next.new.shared h
    (rw c.number-n.ensures at (sym c.contains_key.ensures ∙ c.if-not-contains_key.false)) c.in-Ok-Order.field-0 (rw step.now_is at c.in-Ok-Order.ensures.steps) c.in-Ok-Order.number c.in-Ok-Order.order c.in-Ok-Order.field-0-is note

pub returns-in-Ok-Order-clause-goes : goal.returns-in-Ok-Order-clause-goes
returns-in-Ok-Order-clause-goes c view step h =
    let old = c.args.self.now in
    let n = c.args.lookup.now.number in
    pools-go view n old c.note.new.self c.next.new.shared h
    (rw c.number-n.ensures at (sym c.contains_key.ensures ∙ c.if-not-contains_key.false)) c.in-Ok-Order.field-0 (rw step.now_is at c.in-Ok-Order.ensures.steps) c.in-Ok-Order.number c.in-Ok-Order.order c.in-Ok-Order.field-0-is

pub returns-in_err-decide-in-Ok-Done-clause-holds : goal.returns-in_err-decide-in-Ok-Done-clause-holds
returns-in_err-decide-in-Ok-Done-clause-holds c view step h =
    let old = c.args.self.now in
    let shared = c.next.new.shared in
    let there = rw c.number-n.ensures at (sym c.contains_key.ensures ∙ c.if-not-contains_key.false) in
    let steps = rw step.now_is at c.in-Ok-Done.ensures.steps in
    let note = rw c.number-n.ensures at c.note-in-Ok-Done.ensures in
    c.decide.ensures.holds view (rw c.number-n.ensures (pools-answer view _ old _ shared h there c.in-Ok-Done.field-0 steps c.in-Ok-Done.told c.in-Ok-Done.field-0-is note))
    (pools-done view _ old _ shared h there c.in-Ok-Done.field-0 steps note)

pub returns-in_ok-decide-in-Ok-Done-clause-holds : goal.returns-in_ok-decide-in-Ok-Done-clause-holds
returns-in_ok-decide-in-Ok-Done-clause-holds c view step h =
    let old = c.args.self.now in
    let shared = c.next.new.shared in
    let there = rw c.number-n.ensures at (sym c.contains_key.ensures ∙ c.if-not-contains_key.false) in
    let steps = rw step.now_is at c.in-Ok-Done.ensures.steps in
    let note = rw c.number-n.ensures at c.note-in-Ok-Done.ensures in
    c.decide.ensures.holds view (rw c.number-n.ensures (pools-answer view _ old _ shared h there c.in-Ok-Done.field-0 steps c.in-Ok-Done.told c.in-Ok-Done.field-0-is note))
    (pools-done view _ old _ shared h there c.in-Ok-Done.field-0 steps note)

-- where memory runs out, or it waits, it is forgotten
pub returns-in-Ok-Waiting-clause-holds : goal.returns-in-Ok-Waiting-clause-holds
returns-in-Ok-Waiting-clause-holds c view step h =
    let old = c.args.self.now in
    let n = c.args.lookup.now.number in
    pools-waits view n old c.forget.new.self c.next.new.shared h (rw c.number-n.ensures at (sym c.contains_key.ensures ∙ c.if-not-contains_key.false)) (Ok c.in-Ok-Waiting.field-0)
    (rw step.now_is at c.in-Ok-Waiting.ensures.steps) c.in-Ok-Waiting.ensures.halts (rw c.number-n.ensures at c.forget.ensures)

pub returns-in-Err-clause-holds : goal.returns-in-Err-clause-holds
returns-in-Err-clause-holds c view step h =
    let old = c.args.self.now in
    let n = c.args.lookup.now.number in
    let none = c.in-Err.ensures in
    pools-waits view n old c.forget-in-Err.new.self c.next.new.shared h (rw c.number-n.ensures at (sym c.contains_key.ensures ∙ c.if-not-contains_key.false)) (Err c.in-Err.field-0)
    none.steps (rw step.now_is at none.halts) (rw c.number-n.ensures at c.forget-in-Err.ensures)

-- ---- how many orders were given

gives-none : (old new : ℕ) (r : Result PoolsStep NoMemory) → is_err r ≡ true → new ≡ old → GivesNext old new r
gives-none old new (Err e) is same = same
gives-none old new (Ok s) is same = cc

pub returns-in-Ok-Order-clause-given : goal.returns-in-Ok-Order-clause-given
returns-in-Ok-Order-clause-given c =
    let told = c.in-Ok-Order.ensures in
    let count = rw c.in-Ok-Order.field-0-is at (step-count _ _ c.args.self.now.shared c.next.new.shared (Ok c.in-Ok-Order.field-0) told.steps told.halts told.gone) in
    (count.0, ap (λ (x : Shared). x.given) c.note.ensures.same.shared ∙ count.1)

pub returns-in_err-decide-in-Ok-Done-clause-given : goal.returns-in_err-decide-in-Ok-Done-clause-given
returns-in_err-decide-in-Ok-Done-clause-given c =
    let told = c.in-Ok-Done.ensures in
    let count = rw c.in-Ok-Done.field-0-is at (step-count _ _ c.args.self.now.shared c.next.new.shared (Ok c.in-Ok-Done.field-0) told.steps told.halts told.gone) in
    gives-none _ _ c.from_residual.result c.from_residual.ensures.0 (c.decide.ensures.given ∙ ap (λ (x : Shared). x.given) c.note-in-Ok-Done.ensures.same.shared ∙ count)

pub returns-in_ok-decide-in-Ok-Done-clause-given : goal.returns-in_ok-decide-in-Ok-Done-clause-given
returns-in_ok-decide-in-Ok-Done-clause-given c =
    let told = c.in-Ok-Done.ensures in
    let count = rw c.in-Ok-Done.field-0-is at (step-count _ _ c.args.self.now.shared c.next.new.shared (Ok c.in-Ok-Done.field-0) told.steps told.halts told.gone) in
    c.decide.ensures.given ∙ ap (λ (x : Shared). x.given) c.note-in-Ok-Done.ensures.same.shared ∙ count

pub returns-in-Ok-Waiting-clause-given : goal.returns-in-Ok-Waiting-clause-given
returns-in-Ok-Waiting-clause-given c =
    let told = c.in-Ok-Waiting.ensures in
    let count = rw c.in-Ok-Waiting.field-0-is at (step-count _ _ c.args.self.now.shared c.next.new.shared (Ok c.in-Ok-Waiting.field-0) told.steps told.halts told.gone) in
    ap (λ (x : Shared). x.given) c.forget.ensures.same.shared ∙ count

pub returns-in-Err-clause-given : goal.returns-in-Err-clause-given
returns-in-Err-clause-given c =
    let none = c.in-Err.ensures in
    ap (λ (x : Shared). x.given) c.forget-in-Err.ensures.same.shared ∙ step-count _ _ c.args.self.now.shared c.next.new.shared (Err c.in-Err.field-0) none.steps none.halts none.gone

-- ---- the order is the one that is waited for

pub returns-in-Ok-Order-clause-waits : goal.returns-in-Ok-Order-clause-waits
returns-in-Ok-Order-clause-waits c =
    let old = c.args.self.now in
    let n = c.args.lookup.now.number in
    let mid = record old { shared = c.next.new.shared } in
    let first = c.in-Ok-Order.ensures in
    let given : OpenOrder = record { number = c.in-Ok-Order.number; aim = aim_of c.in-Ok-Order.order; since = c.args.since; polled = None } in
    let note : HasNoted n (noted (Some given) None None) mid c.note.new.self = rw (c.number-n.ensures, c.aim_of-aim.ensures) at c.note.ensures in
    awaits-order n c.args.tick.now old c.note.new.self c.next.new.shared c.in-Ok-Order.field-0 c.in-Ok-Order.number c.in-Ok-Order.order given c.in-Ok-Order.field-0-is first.steps (λ none. (first.gone none).0)
    (rw c.number-n.ensures at (sym c.contains_key.ensures ∙ c.if-not-contains_key.false)) refl note
