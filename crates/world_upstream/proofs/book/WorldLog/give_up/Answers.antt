use Rattle.std.proofs.Common.{◌∷◌, ◌++◌, [], nat_eq, refl, ◌∙◌, ap}
use Rattle.std.specs.HashMap.{get}
use Rattle.dns_core.specs.declared.log.LogEntry.TheVariants.{GaveUp}
use Rattle.world_upstream.specs.Book.{told, open_at}
use Rattle.world_upstream.proofs.OpenStaysTrue.{hold, kept_ended}
use Rattle.world_upstream.proofs.book.WorldLog.give_up.Goals as goal

pub returns-clause-holds : goal.returns-clause-holds
returns-clause-holds c =
    let b = c.args.self.now in
    let e = GaveUp c.args.number c.args.now in
    let same = c.forget.ensures.same in
    let late = c.note_late.ensures in
    hold _ b.world (told b ++ e ∷ []) (late.world ∙ ap (λ x. x.world) same) (late.told ∙ ap (λ x. told x ++ e ∷ []) same)
    (kept_ended b.world (told b) e (open_at b) (open_at c.note_late.new.self) c.args.number c.requires.holds.keeps (λ n. ap (λ m. get nat_eq m n) late.opened ∙ c.forget.ensures.fewer n) tt (λ n. (refl, refl))) c.requires.holds.qualified
