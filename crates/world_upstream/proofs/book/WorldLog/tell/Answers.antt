use Rattle.std.proofs.Common.{◌∷◌, ◌++◌, [], None, cond, nat_eq, refl, ◌∙◌, ap}
use Rattle.std.specs.HashMap.{get}
use Rattle.dns_core.specs.declared.log.LogEntry.TheVariants.{Told}
use Rattle.world_upstream.specs.Book.{told, open_at}
use Rattle.world_upstream.proofs.OpenStaysTrue.{hold, hold_still, pushed, kept_ended, fits_told}
use Rattle.world_upstream.proofs.book.WorldLog.tell.Goals as goal

pub returns-in_err-next_number-clause-holds : goal.returns-in_err-next_number-clause-holds
returns-in_err-next_number-clause-holds c =
    let next = c.next_number.ensures in
    hold_still c.args.self.now c.next_number.new.self next.told next.open next.world c.requires.holds

pub returns-in_err-push-clause-holds : goal.returns-in_err-push-clause-holds
returns-in_err-push-clause-holds c =
    let next = c.next_number.ensures in
    hold_still c.args.self.now _ (ap (λ l. l ++ c.next_number.new.self.late) c.in_err-push.ensures.err ∙ next.told) next.open next.world c.requires.holds

pub returns-clause-holds : goal.returns-clause-holds
returns-clause-holds c =
    let b = c.args.self.now in
    let k = c.args.number in
    let next = c.next_number.ensures in
    let same = c.forget.ensures.same in
    let e = Told k c.args.now c.args.outcome in
    let fits = fits_told b.world (told b) k c.args.now c.args.outcome (c.requires.holds.keeps.awaited k 0 c.requires.due.due) c.requires.due.comes in
    let kept = kept_ended b.world (told b) e (open_at b) (open_at c.forget.new.self) k c.requires.holds.keeps (λ n. c.forget.ensures.fewer n ∙ ap (λ m. cond (nat_eq k n) None (get nat_eq m n)) next.open) fits (λ n. (refl, refl)) in
    hold _ b.world (told b ++ e ∷ []) (ap (λ x. x.world) same ∙ next.world)
    (ap told same ∙ pushed (told b) c.next_number.new.self.log c.next_number.new.self.late c.push.new.self e next.told c.in_ok-next_number.ensures.late c.in_ok-push.ensures.ok)
    kept c.requires.holds.qualified
