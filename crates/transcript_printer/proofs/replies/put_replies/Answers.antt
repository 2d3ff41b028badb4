use Rattle.std.proofs.Common.{◌+◌, take, arith}
use Rattle.std.proofs.lemmas.Result.{err_from_is_err_and}
use Rattle.transcript_printer.specs.Log.{numbered_text}
use Rattle.transcript_printer.specs.Transcript.{reply_text}
use Rattle.transcript_printer.proofs.TextsAppended.{appended_twice, extends_then, numbered_none, numbered_next}
use Rattle.transcript_printer.proofs.replies.put_replies.Goals as goal

pub loop-i-init : goal.loop-i-init
loop-i-init c = numbered_none reply_text c.args.out.now.items

pub returns-in_err-put_reply : goal.returns-in_err-put_reply
returns-in_err-put_reply c =
    let failed = err_from_is_err_and c.from_residual.result c.from_residual.ensures.1 in
    rw failed.1 (extends_then c.args.out.now.items (numbered_text reply_text 1 (take c.loop-i.i c.args.replies.now)) c.loop-i.invariant c.in_err-put_reply.ensures)

pub loop-i-preserved : goal.loop-i-preserved
loop-i-preserved c =
    let xs = c.args.replies.now in
    let x = c.index-replies-i.result in
    appended_twice c.args.out.now.items (numbered_text reply_text 1 (take c.loop-i.i xs)) (reply_text (c.loop-i.i + 1) x) c.loop-i.invariant c.in_ok-put_reply.ensures (numbered_next reply_text xs c.loop-i.i x (omega arith) c.index-replies-i.is)
