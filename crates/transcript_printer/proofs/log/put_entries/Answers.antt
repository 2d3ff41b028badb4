use Rattle.std.proofs.Common.{◌+◌, take, arith}
use Rattle.std.proofs.lemmas.Result.{err_from_is_err_and}
use Rattle.transcript_printer.specs.Log.{numbered_text, entry_text}
use Rattle.transcript_printer.proofs.TextsAppended.{appended_twice, extends_then, numbered_none, numbered_next}
use Rattle.transcript_printer.proofs.log.put_entries.Goals as goal

pub loop-i-init : goal.loop-i-init
loop-i-init c = numbered_none entry_text c.args.out.now.items

pub returns-in_err-put_entry : goal.returns-in_err-put_entry
returns-in_err-put_entry c =
    let failed = err_from_is_err_and c.from_residual.result c.from_residual.ensures.1 in
    rw failed.1 (extends_then c.args.out.now.items (numbered_text entry_text 1 (take c.loop-i.i c.args.entries.now)) c.loop-i.invariant c.in_err-put_entry.ensures)

pub loop-i-preserved : goal.loop-i-preserved
loop-i-preserved c =
    let xs = c.args.entries.now in
    let x = c.index-entries-i.result in
    appended_twice c.args.out.now.items (numbered_text entry_text 1 (take c.loop-i.i xs)) (entry_text (c.loop-i.i + 1) x) c.loop-i.invariant c.in_ok-put_entry.ensures (numbered_next entry_text xs c.loop-i.i x (omega arith) c.index-entries-i.is)
