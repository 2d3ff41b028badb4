use Rattle.std.proofs.Common.{◌∷◌, ◌++◌, [], None, cond, nat_eq, refl, ◌∙◌, ap, subst}
use Rattle.std.specs.HashMap.{get}
use Rattle.dns_core.specs.declared.log.LogEntry.TheVariants.{Told}
use Rattle.script_upstream.specs.Book.{told, open_at, IsDueAs}
use Rattle.script_upstream.proofs.LogStaysTrue.{kept_ended}
use Rattle.script_upstream.proofs.LogHoldsOn.{hold, pushed, counts_more, fits_told}
use Rattle.script_upstream.proofs.books.book.ScriptLog.tell.Goals as goal

pub returns-clause-holds : goal.returns-clause-holds
returns-clause-holds c =
    let b = c.args.self.now in
    let k = c.args.number in
    let next = c.next_number.ensures in
    let same = c.take_outcome.ensures.same in
    let o = c.in_ok-outcome.outcome in
    let e = Told k c.args.now o in
    let as_it = subst (λ m. IsDueAs o (get nat_eq m k)) next.open c.in_ok-outcome.ensures in
    let fits = fits_told b.script (told b) k c.args.now (open_at b k) o (λ d is. c.requires.holds.keeps.awaited k d is) c.requires.due as_it in
    let kept = kept_ended b.script (told b) e (open_at b) (open_at c.take_outcome.new.self) k c.requires.holds.keeps (λ n. c.take_outcome.ensures.fewer n ∙ ap (λ m. cond (nat_eq k n) None (get nat_eq m n)) next.open) fits (λ n. (refl, refl)) in
    hold _ b.script (told b ++ e ∷ []) b.index (ap (λ x. x.script) same ∙ next.same.script) (ap (λ x. x.index) same ∙ next.same.index)
    (ap told same ∙ pushed (told b) c.next_number.new.self.log c.next_number.new.self.late c.push.new.self e next.told c.in_ok-next_number.ensures.late c.in_ok-push.ensures.ok)
    kept (counts_more b.script (told b) e b.index c.requires.holds.counts (λ a. refl)) c.requires.holds.knows
