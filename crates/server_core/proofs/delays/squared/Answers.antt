use Rattle.std.proofs.Common.{sym}
use Rattle.server_core.proofs.Factors.{square-within, squared-first, squared-next}
use Rattle.server_core.proofs.delays.squared.Goals as goal

pub loop-done-init : goal.loop-done-init
loop-done-init c = record { squares = sym (squared-first c.args.factor); within = c.requires }

pub loop-done-preserved : goal.loop-done-preserved
loop-done-preserved c =
    let next = squared-next c.loop-done._done c.args.factor in
    record {
      squares = cc next;
      within = square-within c.loop-done.square c.loop-done.invariant.within;
    }
