use Rattle.std.proofs.Common.{◌==◌, refl}
use Rattle.text_lines.proofs.TextIsCut.{split_cons}
use Rattle.text_lines.proofs.words.Words.end.Goals as goal

pub returns-in-Some : goal.returns-in-Some
returns-in-Some c =
    let e = split_cons (λ b. b == 32) c.in-Some.field-0.now in
    rw (← c.self.view_is, c.in-Some.is, e.2) refl
