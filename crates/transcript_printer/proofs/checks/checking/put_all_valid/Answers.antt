use Rattle.std.proofs.Common.{false, take, arith}
use Rattle.transcript_printer.specs.Log.{numbered_text}
use Rattle.transcript_printer.proofs.TextsAppended.{appended_twice, numbered_none, numbered_next}
use Rattle.transcript_printer.specs.Checking.{valid_text}
use Rattle.transcript_printer.proofs.OneMoreValidity.{same_item}
use Rattle.transcript_printer.proofs.checks.checking.put_all_valid.Goals as goal

pub loop-i-init : goal.loop-i-init
loop-i-init c = numbered_none valid_text c.args.out.now.items

pub loop-i-preserved : goal.loop-i-preserved
loop-i-preserved c =
    let xs = c.args.valid.now in
    appended_twice c.args.out.now.items (numbered_text valid_text 1 (take c.loop-i.i xs)) _ c.loop-i.invariant c.in_ok-put_valid.ensures (numbered_next valid_text xs c.loop-i.i _ (omega arith) (same_item xs c.loop-i.i false _ (omega arith)))
