use Rattle.std.proofs.Common.{inr, refl}
use Rattle.recursor_command.specs.Faults.{fault_text}
use Rattle.recursor_command.proofs.command.finish.Goals as goal

pub returns-in-Err-clause-write : goal.returns-in-Err-clause-write
returns-in-Err-clause-write g c = λ is.
    let part = c.tell.ensures.part is in
    (part.0, (fault_text c.in-Err.fault, inr (c.in-Err.fault, c.in-Err.ensures.err, refl), part.1))
