use Rattle.std.proofs.Common.{◌-◌, ◌∷◌, ◌++◌, [], cond, nat_eq, ◌∙◌, ap}
use Rattle.std.specs.Option.{option_map}
use Rattle.std.specs.HashMap.{get}
use Rattle.dns_core.specs.declared.log.LogEntry.TheVariants.{Waited}
use Rattle.world_upstream.specs.Book.{told, open_at}
use Rattle.world_upstream.proofs.OpenStaysTrue.{hold, hold_still, pushed, kept_waited, waits_some}
use Rattle.world_upstream.proofs.book.WorldLog.wait.Goals as goal

pub returns-in_err-next_number-clause-holds : goal.returns-in_err-next_number-clause-holds
returns-in_err-next_number-clause-holds c =
    let next = c.next_number.ensures in
    hold_still c.args.self.now c.next_number.new.self next.told next.open next.world c.requires.holds

pub returns-in_err-push-clause-holds : goal.returns-in_err-push-clause-holds
returns-in_err-push-clause-holds c =
    let next = c.next_number.ensures in
    hold_still c.args.self.now _ (ap (λ l. l ++ c.next_number.new.self.late) c.in_err-push.ensures.err ∙ next.told) next.open next.world c.requires.holds

pub returns-clause-holds : goal.returns-clause-holds
returns-clause-holds c =
    let b = c.args.self.now in
    let k = c.args.number in
    let next = c.next_number.ensures in
    let same = c.shorten.ensures.same in
    let e = Waited k in
    let some = waits_some (open_at b k) c.requires.waits in
    let kept = kept_waited b.world (told b) k some.0 (open_at b) (open_at c.shorten.new.self) c.requires.holds.keeps some.1 some.2
    (λ n. c.shorten.ensures.shorter n ∙ ap (λ m. cond (nat_eq k n) (option_map (λ polls. polls - 1) (get nat_eq m k)) (get nat_eq m n)) next.open ∙ ap (λ o. cond (nat_eq k n) (option_map (λ polls. polls - 1) o) (open_at b n)) some.1) in
    hold _ b.world (told b ++ e ∷ []) (ap (λ x. x.world) same ∙ next.world)
    (ap told same ∙ pushed (told b) c.next_number.new.self.log c.next_number.new.self.late c.push.new.self e next.told c.in_ok-next_number.ensures.late c.in_ok-push.ensures.ok)
    kept c.requires.holds.qualified
