use Rattle.recursor_core.proofs.MachineWords.{length, ap, arith, refl, seen_by, Advances, seen_at, with_patience, cache-later, Extends-refl}
use Rattle.std.proofs.Common.{min}
use Rattle.recursor_core.proofs.MachineAdvances.{walks-on}
use Rattle.recursor_core.proofs.machine.resolutions.RecursorCore.clear.Goals as goal

pub returns-clause-derived : goal.returns-clause-derived
returns-clause-derived c log bound walks holds =
    let core = c.args.self.now in
    let before = seen_by core log in
    let after = seen_at (with_patience (min core.policy.patience c.args.patience) core.policy) core.greatest core.moment log in
    let less : Advances before after = record { policy = refl; patience = omega arith; greatest = omega arith; moment = omega arith; extends = Extends-refl log } in
    rw c.with_patience.ensures (record {
      bound = bound;
      walks = walks-on core.policy (min core.policy.patience c.args.patience) walks;
      cache = cache-later before after less core.cache holds.cache;
      pools = c.clear-2.ensures.holds before after less holds.pools;
      resolutions = λ i d within. absurd (let none = ap length c.clear.ensures.items in omega (arith, within, none));
    })
