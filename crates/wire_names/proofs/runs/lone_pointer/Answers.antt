use Rattle.std.proofs.Common.{ap, ◌∙◌, ℕ, List, ◌∷◌}
use Rattle.wire_names.specs.Reading.{run_of}
use Rattle.wire_names.proofs.RunLaws.{pointer_again}
use Rattle.wire_names.proofs.runs.lone_pointer.Goals as goal

pub returns : goal.returns
returns c =
    let high = c.in_ok-high.high in
    let low = c.in_ok-low.low in
    ap (run_of 0) c.in_ok-high.ensures ∙ ap (λ (after : List ℕ). run_of 0 (high ∷ after)) c.in_ok-low.ensures ∙ pointer_again high low c.in_ok-low.rest.now c.if-high-lt192.false
