use Rattle.std.proofs.Common.{ℕ, List, Err, inl, inr, refl, sym, ap, ◌∙◌, subst}
use Rattle.recursor_command.specs.Faults.{fault_text}
use Rattle.recursor_command.specs.declared.faults.Fault.TheVariants.{Memory, Read, Words}
use Rattle.recursor_command.specs.Command.{HasRefused, IsTextFor}
use Rattle.recursor_command.proofs.WholeSourceRead.{refused_held, text_held, memory_fits, of_command, part_fits, text_of_run, text_of_refusal, nothing_taken, taken_by}
use Rattle.recursor_command.proofs.command.run.Goals as goal

pub returns-in-Ok-clause-scenario : goal.returns-in-Ok-clause-scenario
returns-in-Ok-clause-scenario g c = λ is.
    let command = c.in-Some.command in
    let refused = subst (λ (b : List ℕ). HasRefused command b (g.K.Sink.written c.args.sink.now) (g.K.Sink.written c.finish.new.sink)) c.as_slice.ensures.value (c.finish.ensures.scenario is) in
    of_command _ _ command (sym c.command_of.ensures ∙ c.in-Some.is) (refused_held command _ _ _ _ c.in-Ok.bytes.items c.in-Ok.ensures.held refused)

pub returns-in-Err-NoMemory-clause-write : goal.returns-in-Err-NoMemory-clause-write
returns-in-Err-NoMemory-clause-write g c = λ is.
    let part = c.tell-in-Err-NoMemory.ensures.part is in
    (part.0, (fault_text Memory, text_of_run _ c.in-Some.command _ _ _ _ (sym c.command_of.ensures ∙ c.in-Some.is) (inr (memory_fits c.in-Some.command _)), part.1))

pub returns-in-Err-Failed-clause-write : goal.returns-in-Err-Failed-clause-write
returns-in-Err-Failed-clause-write g c = λ is.
    let part = c.tell-in-Err-Failed.ensures.part is in
    let rose = c.in-Err-Failed.ensures.fault (ap Err c.in-Err-Failed.field-0-is) in
    (part.0, (fault_text Read, text_of_run _ c.in-Some.command _ _ _ _ (sym c.command_of.ensures ∙ c.in-Some.is) (inl (rose, refl)), part.1))

pub returns-in-Ok-clause-write : goal.returns-in-Ok-clause-write
returns-in-Ok-clause-write g c = λ is.
    let command = c.in-Some.command in
    let wrote = c.finish.ensures.write is in
    part_fits _ _ _ _ _ _
    (λ text t. text_of_run _ command _ _ _ text (sym c.command_of.ensures ∙ c.in-Some.is)
    (inr (text_held command _ _ c.in-Ok.bytes.items text c.in-Ok.ensures.held (subst (λ (b : List ℕ). IsTextFor command b text) c.as_slice.ensures.value t)))) wrote

pub returns-in_default-clause-write : goal.returns-in_default-clause-write
returns-in_default-clause-write g c = λ is.
    let part = c.tell.ensures.part is in
    (part.0, (fault_text Words, text_of_refusal _ _ _ _ (sym c.command_of.ensures ∙ c.in_default.is), part.1))

pub returns-in_default-clause-bound : goal.returns-in_default-clause-bound
returns-in_default-clause-bound g c = nothing_taken _ _ _ refl

pub returns-in-Ok-clause-bound : goal.returns-in-Ok-clause-bound
returns-in-Ok-clause-bound g c = taken_by _ c.in-Some.command _ _ (sym c.command_of.ensures ∙ c.in-Some.is) c.bytes_of.ensures.bound

pub returns-in-Err-NoMemory-clause-bound : goal.returns-in-Err-NoMemory-clause-bound
returns-in-Err-NoMemory-clause-bound g c = taken_by _ c.in-Some.command _ _ (sym c.command_of.ensures ∙ c.in-Some.is) c.bytes_of.ensures.bound

pub returns-in-Err-Failed-clause-bound : goal.returns-in-Err-Failed-clause-bound
returns-in-Err-Failed-clause-bound g c = taken_by _ c.in-Some.command _ _ (sym c.command_of.ensures ∙ c.in-Some.is) c.bytes_of.ensures.bound
