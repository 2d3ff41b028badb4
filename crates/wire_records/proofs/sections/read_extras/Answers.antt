use Rattle.std.proofs.Common.{Bool, sym, ap, ◌∙◌, arith}
use Rattle.std.proofs.lemmas.Result.{err_from_is_err_and}
use Rattle.wire_names.proofs.Loops.{fails_as}
use Rattle.wire_records.specs.Reading.{extra_of}
use Rattle.wire_records.proofs.Turns.{extras_done, extra_on, extra_fails}
use Rattle.wire_records.proofs.sections.read_extras.Goals as goal

pub returns-in_err-extra-clause-exact : goal.returns-in_err-extra-clause-exact
returns-in_err-extra-clause-exact c =
    let e = c.in_err-extra.field-0.0 in
    let here = fails_as e _ _ (ap (λ (seen : Bool). extra_of seen c.args.message.now c.extras.rest.now) c.is_some.ensures) c.in_err-extra.ensures.exact in
    let failed = extra_fails e c.extras.records.items c.extras.left c.extras.told c.args.message.now c.extras.rest.now c.extras-test.true here in
    let p = err_from_is_err_and c.from_residual.result c.from_residual.ensures.1 in
    rw (p.1, p.2) (fails_as e _ _ c.extras.invariant.read failed)

pub extras-preserved : goal.extras-preserved
extras-preserved c =
    let here = ap (λ (seen : Bool). extra_of seen c.args.message.now c.extras.rest.now) (sym c.is_some.ensures) ∙ c.in_ok-extra.ensures.exact in
    let on = extra_on c.extras.records.items c.extras.left c.extras.told c.args.message.now c.extras.rest.now c.in_ok-extra.after.now c.in_ok-extra.extra c.extras-test.true here in
    record {
      read = rw (c.in_ok-add_extra.ensures.records, c.in_ok-add_extra.ensures.told) (sym on ∙ c.extras.invariant.read);
      rest = c.in_ok-extra.ensures.rest;
      kept = c.in_ok-extra.ensures.kept;
    }

pub returns-clause-exact : goal.returns-clause-exact
returns-clause-exact c = sym c.extras.invariant.read ∙ extras_done c.extras.records.items c.extras.left c.extras.told c.args.message.now c.extras.rest.now (omega (arith, c.extras-test.false))
