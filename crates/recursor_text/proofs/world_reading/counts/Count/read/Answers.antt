use Rattle.std.proofs.Common.{◌≡◌, true, Some, rules}
use Rattle.recursor_text.specs.Counts.{is_numeral, narrow_value}
use Rattle.recursor_text.proofs.CountLaws.{narrow_takes}
use Rattle.recursor_text.proofs.world_reading.counts.Count.read.Goals as goal

pub returns-in-Ok : goal.returns-in-Ok
returns-in-Ok c =
    let is : is_numeral c.args.word.now ≡ true = search rules in
    let read : narrow_value c.args.word.now ≡ Some c.in-Ok.number = search rules in
    narrow_takes c.args.word.now c.in-Ok.number is read
