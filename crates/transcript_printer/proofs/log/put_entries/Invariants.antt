use Rattle.std.proofs.Common.{◌≡◌, ◌++◌, take}
use Rattle.transcript_printer.specs.Log.{numbered_text, entry_text}
use Rattle.transcript_printer.proofs.log.put_entries.Given as goal

abbrev pub invariant-loop-i : goal.invariant-loop-i
invariant-loop-i l = l.out.items ≡ l.fn.out.items ++ numbered_text entry_text 1 (take l.i l.entries)
