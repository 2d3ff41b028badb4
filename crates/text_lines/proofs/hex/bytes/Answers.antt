use Rattle.std.proofs.Common.{◌≡◌, ℕ, ◌≤◌, false, eqb, List, length, Option, sym, subst, arith}
use Rattle.std.specs.Prelude.{codes}
use Rattle.std.specs.Str.{bytes_eq}
use Rattle.text_lines.specs.Fields.{Gives}
use Rattle.text_lines.proofs.HexLaws.{bytes_few, bytes_many}
use Rattle.text_lines.proofs.hex.bytes.Goals as goal

pub returns-then-word-gt-MOST_DIGITS : goal.returns-then-word-gt-MOST_DIGITS
returns-then-word-gt-MOST_DIGITS c = bytes_many c.args.word.now (omega arith)

pub returns : goal.returns
returns c =
    let w = c.args.word.now in
    let some : eqb (length w) 0 ≡ false = let e = c.is_empty.ensures in let f = c.if-is_empty.false in cc in
    let plain : bytes_eq w (codes "-") ≡ false = let e = c.eq.ensures in let f = c.if-eq.false in let s = c.as_slice.ensures in cc in
    let short : length w ≤ 131070 = omega arith in
    subst (λ (read : Option (List ℕ)). Gives c.pairs.result read) (sym (bytes_few w some plain short)) c.pairs.ensures
