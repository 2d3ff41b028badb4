use Rattle.std.proofs.Common.{◌+◌, ◌/◌, ◌%◌, ◌^◌, ◌<◌, ◌≤◌, [], ◌∷◌, arith}
use Rattle.std.specs.Prelude.{decimal}
use Rattle.std.proofs.lemmas.Fmt.{decimal_step}
use Rattle.transcript_printer.proofs.TextsAppended.{appended_twice}
use Rattle.transcript_printer.proofs.words.+put_number.Goals as goal

pub returns : goal.returns
returns t c =
    let many : 10 ≤ c.args.n = omega arith in
    let small : c.args.n < 2 ^ 64 = omega arith in
    appended_twice c.args.out.now.items (decimal (c.args.n / 10)) ((48 + c.args.n % 10) ∷ []) c.in_ok-put_number.ensures c.in_ok-put_digit-2.ensures (decimal_step c.args.n many small)
