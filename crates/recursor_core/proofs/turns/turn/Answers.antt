use Rattle.recursor_core.proofs.Names.{◌<◌, ⊎_elim, inl, arith, open_at, due}
use Rattle.recursor_core.proofs.WorkLeft.{was_some, was_none, polled_all}
use Rattle.recursor_core.proofs.MachineHoldsOn.{goes_trans, told_before}
use Rattle.recursor_core.specs.declared.turns.TurnResult.TheVariants as turned
use Rattle.recursor_core.proofs.turns.turn.Goals as goal

pub returns-in_err-ask-clause-goes : goal.returns-in_err-ask-clause-goes
returns-in_err-ask-clause-goes g c = goes_trans g.P.ConnectionProvider c.args.tick _ _ _ _ _ _ c.rounds.invariant.goes c.ask.ensures.goes

pub returns-in-Done-clause-goes : goal.returns-in-Done-clause-goes
returns-in-Done-clause-goes g c = goes_trans g.P.ConnectionProvider c.args.tick _ _ _ _ _ _ c.rounds.invariant.goes c.ask.ensures.goes

pub returns-in-Ended-clause-goes : goal.returns-in-Ended-clause-goes
returns-in-Ended-clause-goes g c = goes_trans g.P.ConnectionProvider c.args.tick _ _ _ _ _ _ c.rounds.invariant.goes c.ask.ensures.goes

pub returns-in-Done-clause-told : goal.returns-in-Done-clause-told
returns-in-Done-clause-told g c =
    told_before g.P.ConnectionProvider c.args.tick c.args.core.now c.rounds.core c.args.runner.now c.rounds.runner (g.P.ConnectionProvider.log c.ask.new.runner.carrier.provider) c.args.r
    (turned.Done c.in-Done.reply) c.rounds.invariant.goes (rw c.in-Done.is at c.in_ok-ask.ensures.told)

pub returns-in_err-poll_rest-clause-goes : goal.returns-in_err-poll_rest-clause-goes
returns-in_err-poll_rest-clause-goes g c =
    goes_trans g.P.ConnectionProvider c.args.tick _ _ _ _ _ _ c.rounds.invariant.goes
    (goes_trans g.P.ConnectionProvider c.args.tick _ _ _ _ _ _ c.ask.ensures.goes c.poll_rest.ensures.goes)

pub returns-then-not-branch-clause-goes : goal.returns-then-not-branch-clause-goes
returns-then-not-branch-clause-goes g c =
    goes_trans g.P.ConnectionProvider c.args.tick _ _ _ _ _ _ c.rounds.invariant.goes
    (goes_trans g.P.ConnectionProvider c.args.tick _ _ _ _ _ _ c.ask.ensures.goes c.poll_rest.ensures.goes)

pub returns-then-not-branch-clause-falls : goal.returns-then-not-branch-clause-falls
returns-then-not-branch-clause-falls g c =
    let p = c.args.tick.patience in
    let before = c.rounds.invariant.keeps in
    let asked = c.ask.ensures.keeps in
    let polled = c.poll_rest.ensures.keeps in
    let goal : (due p c.ask.new.core c.ask.new.runner < due p c.args.core.now c.args.runner.now) → due p c.poll_rest.new.core c.poll_rest.new.runner < due p c.args.core.now c.args.runner.now
    = λ less. omega (arith, less, polled) in
    let all = was_none c.in_ok-poll_rest.field-0 _ _ c.if-not-branch.true c.in_ok-poll_rest.ensures.falls in
    ⊎_elim (λ less. goal (omega (arith, less, before)))
    (λ waits. ⊎_elim (λ less. goal (omega (arith, less, asked)))
    (λ none. absurd (polled_all (open_at c.ask.new.core c.args.r) c.rounds.polled c.ask.new.polled waits.0 waits.1 all none)) c.rounds.invariant.falls)
    (rw c.in-Pending.is at c.in_ok-ask.ensures.falls)

pub rounds-preserved : goal.rounds-preserved
rounds-preserved g c =
    let before = c.rounds.invariant.keeps in
    let asked = c.ask.ensures.keeps in
    let less = was_some c.in_ok-poll_rest.field-0 _ _ c.if-not-branch.false c.in_ok-poll_rest.ensures.falls in
    record {
      goes = goes_trans g.P.ConnectionProvider c.args.tick _ _ _ _ _ _ c.rounds.invariant.goes
          (goes_trans g.P.ConnectionProvider c.args.tick _ _ _ _ _ _ c.ask.ensures.goes c.poll_rest.ensures.goes);
      keeps = omega (arith, before, asked, less);
      falls = inl (omega (arith, before, asked, less));
    }
