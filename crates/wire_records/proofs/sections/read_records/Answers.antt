use Rattle.std.proofs.Common.{sym, ◌∙◌, arith}
use Rattle.std.proofs.lemmas.Result.{err_from_is_err_and}
use Rattle.wire_names.proofs.Loops.{fails_as}
use Rattle.wire_records.specs.Reading.{record_of}
use Rattle.wire_records.proofs.Turns.{turns_done, turn_on, turn_fails}
use Rattle.wire_records.proofs.sections.read_records.Goals as goal

pub returns-in_err-record-clause-exact : goal.returns-in_err-record-clause-exact
returns-in_err-record-clause-exact c =
    let e = c.in_err-record.field-0.0 in
    let failed = turn_fails e record_of c.records.records.items c.records.left c.args.message.now c.records.rest.now c.records-test.true c.in_err-record.ensures.exact in
    let p = err_from_is_err_and c.from_residual.result c.from_residual.ensures.1 in
    rw (p.1, p.2) (fails_as e _ _ c.records.invariant.read failed)

pub records-preserved : goal.records-preserved
records-preserved c = record {
  read = rw c.in_ok-push.ensures.items (sym (turn_on record_of c.records.records.items c.records.left c.args.message.now c.records.rest.now c.in_ok-record.after.now c.in_ok-record.record c.records-test.true c.in_ok-record.ensures.exact) ∙ c.records.invariant.read);
  rest = c.in_ok-record.ensures.rest;
  kept = c.in_ok-record.ensures.kept;
}

pub returns-clause-exact : goal.returns-clause-exact
returns-clause-exact c = sym c.records.invariant.read ∙ turns_done record_of c.records.records.items c.records.left c.args.message.now c.records.rest.now (omega (arith, c.records-test.false))
