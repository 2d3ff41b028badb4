use Rattle.std.proofs.Common.{◌∷◌, ◌++◌, [], cond, nat_eq, refl, ◌∙◌, ap}
use Rattle.std.specs.Option.{option_map}
use Rattle.std.specs.HashMap.{get}
use Rattle.dns_core.specs.declared.log.LogEntry.TheVariants.{Waited}
use Rattle.script_upstream.specs.Course.{shortened}
use Rattle.script_upstream.specs.Book.{told, open_at}
use Rattle.script_upstream.proofs.LogStaysTrue.{kept_waited}
use Rattle.script_upstream.proofs.LogHoldsOn.{hold, pushed, counts_more, waits_some}
use Rattle.script_upstream.proofs.books.book.ScriptLog.wait.Goals as goal

pub returns-clause-holds : goal.returns-clause-holds
returns-clause-holds c =
    let b = c.args.self.now in
    let k = c.args.number in
    let next = c.next_number.ensures in
    let same = c.shorten.ensures.same in
    let e = Waited k in
    let some = waits_some (open_at b k) c.requires.waits in
    let kept = kept_waited b.script (told b) k (open_at b) (open_at c.shorten.new.self) some.0 c.requires.holds.keeps some.1 some.2
    (λ n. c.shorten.ensures.shorter n ∙ ap (λ m. cond (nat_eq k n) (option_map shortened (get nat_eq m k)) (get nat_eq m n)) next.open ∙ ap (λ o. cond (nat_eq k n) (option_map shortened o) (open_at b n)) some.1) in
    hold _ b.script (told b ++ e ∷ []) b.index (ap (λ x. x.script) same ∙ next.same.script) (ap (λ x. x.index) same ∙ next.same.index)
    (ap told same ∙ pushed (told b) c.next_number.new.self.log c.next_number.new.self.late c.push.new.self e next.told c.in_ok-next_number.ensures.late c.in_ok-push.ensures.ok)
    kept (counts_more b.script (told b) e b.index c.requires.holds.counts (λ a. refl)) c.requires.holds.knows
