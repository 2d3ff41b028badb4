use Rattle.std.proofs.Common.{◌≡◌, ◌++◌, take}
use Rattle.transcript_printer.specs.Log.{numbered_text}
use Rattle.transcript_printer.specs.Transcript.{reply_text}
use Rattle.transcript_printer.proofs.replies.put_replies.Given as goal

abbrev pub invariant-loop-i : goal.invariant-loop-i
invariant-loop-i l = l.out.items ≡ l.fn.out.items ++ numbered_text reply_text 1 (take l.i l.replies)
