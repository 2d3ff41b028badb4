use Rattle.std.proofs.Common.{◌≡◌, length, false, arith, ltb, ap, sym, subst, ◌∙◌}
use Rattle.std.proofs.lemmas.Bool.{le-ltb}
use Rattle.recursor_text.specs.declared.reading.draft.Place.{Place}
use Rattle.recursor_text.specs.Unbuilt.{refusal_at}
use Rattle.recursor_text.specs.Reading.{GivesScenario, fails_at, cause_of}
use Rattle.recursor_text.proofs.OneLine.{goes_on, stops}
use Rattle.recursor_text.proofs.reading.text.read_lines.Goals as goal

pub returns-in-Err-Refused : goal.returns-in-Err-Refused
returns-in-Err-Refused c =
    let cut = rw c.in-Some.is at c.cut.ensures.parts in
    let refused = rw c.in-Err-Refused.field-0-is at c.in-Err-Refused.ensures in
    let short : ltb 16777216 (length c.args.bytes.now) ≡ false = le-ltb _ _ (omega arith) in
    let stopped = stops c.lines.draft c.lines.number c.lines.rest.now c.cut.result.0.now c.in-Some.after.now _ cut refused c.lines.invariant.so_far in
    let told = ap (λ (p : Place). fails_at c.lines.number (cause_of (refusal_at p c.cut.result.0.now))) c.place-place.ensures in
    rw short (subst (GivesScenario c.refuse.result) (told ∙ sym stopped) c.refuse.ensures)

pub lines-preserved : goal.lines-preserved
lines-preserved c =
    let cut = rw c.in-Some.is at c.cut.ensures.parts in
    let shorter = rw c.in-Some.is at c.cut.ensures.shorter in
    record {
      so_far = goes_on c.lines.draft c.take.new.self c.lines.number c.lines.rest.now c.cut.result.0.now c.in-Some.after.now _ cut c.in-Ok.ensures c.lines.invariant.so_far;
      short = omega arith;
    }
