use Rattle.std.proofs.Common.{◌<◌, sym, ap, ◌∙◌, arith}
use Rattle.wire_names.specs.Reading.{run_of}
use Rattle.wire_names.proofs.EndLaws.{pointed_end}
use Rattle.wire_names.proofs.ends.end_of.Goals as goal

pub returns-then-to-ends : goal.returns-then-to-ends
returns-then-to-ends c =
    let message = c.args.message.now in
    let to = c.in-Some.to in
    let lt : to < c.args.place = omega (arith, c.if-to-ends.true, c.requires.all) in
    let read = ap (run_of 0) (sym c.split_at.ensures.back) ∙ c.in-Some.ensures in
    pointed_end message c.args.place to _ c.in-Some._rest.now lt read (c.requires.ends to c.if-to-ends.true)
