use Rattle.recursor_core.proofs.MachineWords.{◌≡◌, ◌∙◌, sym, ap, arith, ℕ, Extends-refl, Policy, Advances, seen_by}
use Rattle.recursor_core.proofs.MachineAdvances.{derived-later}
use Rattle.recursor_core.proofs.machine.resolutions.RecursorCore.begin.Goals as goal

pub returns-in-Ok-clause-derived : goal.returns-in-Ok-clause-derived
returns-in-Ok-clause-derived c log later d =
    let h = rw c.in-Ok.is at (c.begin_resolution.ensures.derived log later d) in
    let same = c.begin_resolution.ensures.same.1 in
    let moment : c.max-self.result ≡ c.args.now = omega (arith, c.max-self.ensures, same, later) in
    rw moment h

pub returns-in-Err-clause-derived : goal.returns-in-Err-clause-derived
returns-in-Err-clause-derived c log later d =
    let core = c.args.self.now in
    let new = c.begin_resolution.new.self in
    let same = c.begin_resolution.ensures.same in
    let fewer = ap (λ (s : Policy). s.patience) same.0 in
    let on : Advances (seen_by core log) (seen_by new log) = record {
      policy = same.0 ∙ ap (λ (n : ℕ). record core.policy { patience = n }) (sym fewer);
      patience = omega (arith, fewer);
      greatest = omega (arith, same.2);
      moment = omega (arith, same.1);
      extends = Extends-refl log;
    } in
    let bound = d.bound in
    derived-later core new log log d on (omega (arith, bound, same.2)) same.3 c.begin_resolution.ensures.pools (rw c.in-Err.is at c.begin_resolution.ensures.err)
