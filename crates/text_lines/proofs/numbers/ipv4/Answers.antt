use Rattle.std.proofs.Common.{◌==◌, refl}
use Rattle.text_lines.proofs.TextIsCut.{split_cons}
use Rattle.text_lines.proofs.numbers.ipv4.Goals as goal

pub returns-in-Some : goal.returns-in-Some
returns-in-Some c =
    let e = split_cons (λ b. b == 46) c.in-Some._more.now in
    rw (c.cut.ensures.parts, c.in_ok-rest.was, c.cut-2.ensures.parts, c.in_ok-rest-2.was, c.cut-3.ensures.parts, c.in_ok-rest-3.was, c.cut-4.ensures.parts, c.in-Some.is, e.2) refl
