use Rattle.std.proofs.Common.{◌∷◌, ◌++◌, [], Some, refl, sym}
use Rattle.dns_core.specs.declared.log.LogEntry.TheVariants.{Opened}
use Rattle.dns_core.specs.declared.net_error.NetError.TheVariants.{Io}
use Rattle.dns_core.specs.declared.net_error.IoKind.TheVariants.{Refused}
use Rattle.script_upstream.specs.Book.{told, open_at}
use Rattle.script_upstream.proofs.LogStaysTrue.{kept_more}
use Rattle.script_upstream.proofs.LogHoldsOn.{hold, pushed, counts_more}
use Rattle.script_upstream.proofs.books.book.ScriptLog.refuse.Goals as goal

pub returns-clause-holds : goal.returns-clause-holds
returns-clause-holds c =
    let b = c.args.self.now in
    let next = c.next_number.ensures in
    let e = Opened c.args.endpoint.ip c.args.endpoint.protocol c.args.now (Some (Io Refused)) in
    let kept = kept_more b.script (told b) e (open_at b) c.requires.holds.keeps (sym c.requires.refused) (λ n d is. record { unwaited = refl; unended = refl }) in
    hold _ b.script (told b ++ e ∷ []) b.index next.same.script next.same.index
    (pushed (told b) c.next_number.new.self.log c.next_number.new.self.late c.push.new.self e next.told c.in_ok-next_number.ensures.late c.in_ok-push.ensures.ok)
    (rw next.open kept)
    (counts_more b.script (told b) e b.index c.requires.holds.counts (λ a. refl)) c.requires.holds.knows
