use Rattle.std.proofs.lemmas.Result.{err_from_is_err_and}
use Rattle.transcript_printer.proofs.TextsAppended.{extends_none}
use Rattle.transcript_printer.proofs.words.put_ipv6.Goals as goal

pub returns-in_err-text : goal.returns-in_err-text
returns-in_err-text c =
    let failed = err_from_is_err_and c.from_residual.result c.from_residual.ensures.1 in rw failed.1 (extends_none c.args.out.now.items)
