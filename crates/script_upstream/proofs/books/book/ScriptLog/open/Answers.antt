use Rattle.std.proofs.Common.{◌+◌, None, Some, length, refl, sym, ◌∙◌, ap}
use Rattle.dns_core.specs.declared.log.LogEntry.TheVariants.{Opened}
use Rattle.script_upstream.specs.Giving.{refusal}
use Rattle.script_upstream.specs.Book.{told}
use Rattle.script_upstream.proofs.LogHoldsOn.{held, begun, not_begun, counts_more}
use Rattle.script_upstream.proofs.books.book.ScriptLog.open.Goals as goal

pub returns-in_err-begin-clause-holds : goal.returns-in_err-begin-clause-holds
returns-in_err-begin-clause-holds c =
    let m = c.next_number.new.self in
    let next = c.next_number.ensures in
    let h = held c.args.self.now m next.told next.open next.same c.requires.holds in
    not_begun m _ refl refl c.in_err-begin.ensures.same c.in_err-begin.ensures.fewer h.counts h.knows h

pub returns-clause-holds : goal.returns-clause-holds
returns-clause-holds c =
    let m = c.next_number.new.self in
    let next = c.next_number.ensures in
    let h = held c.args.self.now m next.told next.open next.same c.requires.holds in
    let e = Opened c.args.endpoint.ip c.args.endpoint.protocol c.args.now None in
    let fits = sym c.requires.refused ∙ ap (λ s. refusal s c.args.endpoint) (sym next.same.script) in
    let number_is = c.in_ok-number.ensures.number ∙ ap (λ es. length es + 1) (sym next.told) in
    begun m _ e c.in_ok-course.course c.in_ok-number.number c.in_ok-number.ensures.late number_is refl refl c.in_ok-begin.ensures.known c.in_ok-begin.ensures.noted fits (ap Some (sym c.in_ok-course.ensures.course)) c.in_ok-course.ensures.qualified
    (counts_more m.script (told m) e m.index h.counts (λ a. refl)) h.knows h
