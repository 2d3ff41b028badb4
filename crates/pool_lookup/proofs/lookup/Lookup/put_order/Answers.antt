use Rattle.std.proofs.Common.{Some, None, sym, refl}
use Rattle.pool_rules.specs.AnswerFilter.{denied_by}
use Rattle.pool_lookup.specs.Attempts.{is_open_at}
use Rattle.pool_lookup.proofs.OutcomeIsPut.{at_number, at_no_number, out_at_number, table_at, done_at, put_all, found_none, of_results}
use Rattle.pool_lookup.proofs.StepsCanBeTaken.{can_end, can_put, found_at}
use Rattle.pool_lookup.proofs.lookup.Lookup.put_order.Goals as goal

pub put_attempt-requires-clause-can : goal.put_attempt-requires-clause-can
put_attempt-requires-clause-can c =
    let l = c.args.self.now in
    let found = found_at (is_open_at c.args.number) l.attempts c.in-Some.place (sym c.in-Some.ensures) in
    can_end l c.in-Some.place found.0 c.requires.holds c.requires.asks found.1

pub put_attempt-requires-clause-there : goal.put_attempt-requires-clause-there
put_attempt-requires-clause-there c = λ a there. can_put c.args.self.now c.args.table.now c.in-Some.place a c.requires.holds c.requires.asks c.requires.reached there

pub returns-in-Some-clause-after : goal.returns-in-Some-clause-after
returns-in-Some-clause-after c =
    let l = c.args.self.now in
    let found = found_at (is_open_at c.args.number) l.attempts c.in-Some.place (sym c.in-Some.ensures) in
    put_all c.put_attempt.result c.args.tick.patience c.args.number c.in-Some.place c.args.outcome found.0 l c.requires.asks (sym c.in-Some.ensures) found.1 (c.put_attempt.ensures.after found.0 found.1)

pub returns-in-Some-clause-lookup : goal.returns-in-Some-clause-lookup
returns-in-Some-clause-lookup c =
    let l = c.args.self.now in
    of_results c.put_attempt.result c.put_attempt.new.self _ _ _ _ (at_number (denied_by c.args.cx.now.answer_address_filter) c.args.tick c.args.number c.in-Some.place c.args.outcome l c.requires.asks (sym c.in-Some.ensures))
    (out_at_number c.args.number c.in-Some.place c.args.tick.now c.args.outcome l (sym c.in-Some.ensures)) c.put_attempt.ensures.lookup

pub returns-in-Some-clause-table : goal.returns-in-Some-clause-table
returns-in-Some-clause-table c =
    let l = c.args.self.now in
    of_results c.put_attempt.result c.put_attempt.new.table _ _ _ _ (table_at c.args.tick c.args.number c.args.outcome l c.args.table.now (Some c.in-Some.place) c.requires.asks (sym c.in-Some.ensures)) refl c.put_attempt.ensures.table

pub returns-in-None-clause-after : goal.returns-in-None-clause-after
returns-in-None-clause-after c =
    let l = c.args.self.now in
    sym (done_at c.args.tick.patience c.args.number c.args.outcome l None c.requires.asks (found_none (is_open_at c.args.number) l.attempts (sym c.in-None.ensures)))

pub returns-in-None-clause-lookup : goal.returns-in-None-clause-lookup
returns-in-None-clause-lookup c = sym (at_no_number (denied_by c.args.cx.now.answer_address_filter) c.args.tick c.args.number c.args.outcome c.args.self.now c.requires.asks (sym c.in-None.ensures))

pub returns-in-None-clause-table : goal.returns-in-None-clause-table
returns-in-None-clause-table c = sym (table_at c.args.tick c.args.number c.args.outcome c.args.self.now c.args.table.now None c.requires.asks (sym c.in-None.ensures))
