use Rattle.recursor_core.proofs.MachineWords.{◌≤◌, arith, refl, later-by, Extends-refl}
use Rattle.recursor_core.proofs.MachineAdvances.{derived-later}
use Rattle.recursor_core.proofs.machine.resolutions.RecursorCore.reach.Goals as goal

pub returns-clause-derived : goal.returns-clause-derived
returns-clause-derived c log d =
    let core = c.args.self.now in
    let later : core.moment ≤ c.max-self.result = omega (arith, c.max-self.ensures) in
    derived-later core (record core { moment = c.max-self.result }) log log d (later-by core.policy core.greatest core.greatest core.moment c.max-self.result log log (omega arith) later (Extends-refl log)) d.bound refl refl refl
