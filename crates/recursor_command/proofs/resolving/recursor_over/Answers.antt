use Rattle.std.proofs.Common.{Err, ap, sym, ◌∙◌}
use Rattle.recursor_command.proofs.Setup.{memory_alone}
use Rattle.recursor_command.proofs.resolving.recursor_over.Goals as goal

pub only_memory-requires : goal.only_memory-requires
only_memory-requires g c =
    let e = c.in-Err.ensures in
    memory_alone c.in-Err.error e.only
    (λ is. c.requires.rooted (sym c.items.ensures ∙ e.no_roots.0 (ap Err is)))
    (λ is. let ordered = c.requires.ordered in let back = (e.reversed.0 (ap Err is)).1 in cc)
    (λ is. let delayed = c.requires.delayed in let bad = (e.first_delays.0 (ap Err is)).2 in cc)
