use Rattle.recursor_core.proofs.Names.{arith}
use Rattle.recursor_core.proofs.MachineHoldsOn.{goes_trans}
use Rattle.recursor_core.proofs.turns.poll_rest.Goals as goal

pub returns-in_err-poll_order-clause-goes : goal.returns-in_err-poll_order-clause-goes
returns-in_err-poll_order-clause-goes g c =
    goes_trans g.P.ConnectionProvider c.args.tick c.args.core.now c.orders.core c.poll_order.new.core c.args.runner.now c.orders.runner c.poll_order.new.runner
    c.orders.invariant.goes c.poll_order.ensures.goes

pub orders-preserved : goal.orders-preserved
orders-preserved g c =
    let before = c.orders.invariant.keeps in
    let less = c.in_ok-poll_order.ensures.falls in
    record {
      goes = goes_trans g.P.ConnectionProvider c.args.tick c.args.core.now c.orders.core c.poll_order.new.core c.args.runner.now c.orders.runner c.poll_order.new.runner
          c.orders.invariant.goes c.poll_order.ensures.goes;
      keeps = omega (arith, before, less);
      falls = omega (arith, before, less);
    }
