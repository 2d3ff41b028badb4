use Rattle.std.proofs.Common.{◌==◌, refl}
use Rattle.text_lines.proofs.TextIsCut.{split_cons}
use Rattle.text_lines.proofs.networks.net.Goals as goal

pub returns-in-Some-more : goal.returns-in-Some-more
returns-in-Some-more c =
    let e = split_cons (λ b. b == 47) c.in-Some-more._more.now in
    rw (c.cut.ensures.parts, c.in-Some.is, c.cut-2.ensures.parts, c.in-Some-more.is, e.2) refl
