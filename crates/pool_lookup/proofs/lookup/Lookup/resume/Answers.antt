use Rattle.std.proofs.Common.{◌∙◌, List, length, slice_get, inr, ap, sym, subst, arith}
use Rattle.std.proofs.lemmas.Option.{slice_get_within}
use Rattle.pool_lookup.specs.declared.attempt.Attempt.{Attempt}
use Rattle.pool_lookup.specs.Giving.{IsGivenAt}
use Rattle.pool_lookup.specs.Lookup.{LookupState}
use Rattle.pool_lookup.proofs.StepsCanBeTaken.{can_resume}
use Rattle.pool_lookup.proofs.NextStepGives.{place_there, resumed, stepped_resume}
use Rattle.pool_lookup.proofs.AttemptIsWritten.{on_err_always}
use Rattle.pool_lookup.proofs.lookup.Lookup.resume.Goals as goal

pub give_at-requires-clause-place : goal.give_at-requires-clause-place
give_at-requires-clause-place c =
    let found = place_there c.args.self.now c.args.place c.requires.want in
    let same = ap (λ (l : LookupState). length l.attempts) c.self.view_is in
    let within = slice_get_within c.args.self.now.attempts c.args.place found.0 found.1 in
    omega (arith, within, same)

pub give_at-requires-clause-can : goal.give_at-requires-clause-can
give_at-requires-clause-can c = λ a there.
    let same = ap (λ (l : LookupState). l.attempts) c.self.view_is in
    can_resume c.args.self.now c.args.table.now c.args.place a c.requires.can.0 c.requires.can.1 c.requires.want (sym (ap (λ (xs : List Attempt). slice_get xs c.args.place) same) ∙ there)

pub returns-clause-gives : goal.returns-clause-gives
returns-clause-gives c =
    let l = c.args.self.now in
    let same = ap (λ (s : LookupState). s.attempts) c.self.view_is in
    let found = place_there l c.args.place c.requires.want in
    let given = c.in_ok-order.ensures.given found.0 (ap (λ (xs : List Attempt). slice_get xs c.args.place) same ∙ found.1) in
    resumed l _ c.args.place c.args.number c.args.tick.now c.args.table.now found.0 c.in_ok-order.order c.give_at.new.attempts.items c.requires.want found.1
    (subst (λ (xs : List Attempt). IsGivenAt c.args.place c.args.number c.args.tick.now c.args.table.now xs found.0 c.in_ok-order.order c.give_at.new.attempts.items) same given)
    (ap (λ (s : LookupState). record s { attempts = c.give_at.new.attempts.items }) c.self.view_is)

pub returns-clause-table : goal.returns-clause-table
returns-clause-table c =
    let l = c.args.self.now in
    let same = ap (λ (s : LookupState). s.attempts) c.self.view_is in
    let found = place_there l c.args.place c.requires.want in
    c.in_ok-order.ensures.table found.0 (ap (λ (xs : List Attempt). slice_get xs c.args.place) same ∙ found.1)
    ∙ sym (stepped_resume l c.args.place found.0 c.args.table.now c.requires.want found.1).0

pub returns-in_err-order-clause-halted : goal.returns-in_err-order-clause-halted
returns-in_err-order-clause-halted c =
    let l = c.args.self.now in
    let same = ap (λ (s : LookupState). s.attempts) c.self.view_is in
    let found = place_there l c.args.place c.requires.want in
    on_err_always c.from_residual.result
    (inr (c.in_err-order.ensures.table found.0 (ap (λ (xs : List Attempt). slice_get xs c.args.place) same ∙ found.1) ∙ sym (stepped_resume l c.args.place found.0 c.args.table.now c.requires.want found.1).1))
