use Rattle.std.proofs.Common.{refl, ◌∙◌}
use Rattle.std.proofs.lemmas.List.{take_more}
use Rattle.std.proofs.lemmas.Option.{slice_get_read}
use Rattle.script_upstream.proofs.IndexOfOneMore.{indexed_more}
use Rattle.script_upstream.proofs.courses.index.Index.of.Goals as goal

pub loop-place-preserved : goal.loop-place-preserved
loop-place-preserved c =
    let lines = c.args.lines.now in
    let i = c.loop-place.place in
    let x = c.index-lines-place.result in
    let here = slice_get_read lines _ i x refl c.loop-place-test.true c.index-lines-place.is in
    let more = take_more lines i x c.loop-place-test.true in
    let next = indexed_more lines _ c.loop-place.index c.add.new.self x i c.loop-place.invariant.indexed c.in_ok-add.ensures here in
    record {
      indexed = rw more (rw (← c.index-lines-place.is) next);
      unused = λ a. c.in_ok-add.ensures.used a ∙ c.loop-place.invariant.unused a;
    }
