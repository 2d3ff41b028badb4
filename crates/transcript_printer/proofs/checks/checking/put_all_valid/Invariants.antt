use Rattle.std.proofs.Common.{◌≡◌, ◌++◌, take}
use Rattle.transcript_printer.specs.Log.{numbered_text}
use Rattle.transcript_printer.specs.Checking.{valid_text}
use Rattle.transcript_printer.proofs.checks.checking.put_all_valid.Given as goal

abbrev pub invariant-loop-i : goal.invariant-loop-i
invariant-loop-i l = l.out.items ≡ l.fn.out.items ++ numbered_text valid_text 1 (take l.i l.valid)
