use Rattle.std.proofs.Common.{◌∷◌, ◌++◌, [], Some, cond, nat_eq, ◌∙◌, ap}
use Rattle.std.specs.HashMap.{get}
use Rattle.world_upstream.specs.Book.{told, open_at}
use Rattle.world_upstream.proofs.OpenStaysTrue.{hold, hold_still, pushed, put_back, kept_same, kept_fewer, kept_begun}
use Rattle.world_upstream.proofs.book.WorldLog.begin.Goals as goal

pub returns-in_default-clause-holds : goal.returns-in_default-clause-holds
returns-in_default-clause-holds c =
    let next = c.next_number.ensures in
    hold_still c.args.self.now c.next_number.new.self next.told next.open next.world c.requires.holds

pub returns-in-Err-clause-holds : goal.returns-in-Err-clause-holds
returns-in-Err-clause-holds c =
    let b = c.args.self.now in
    let next = c.next_number.ensures in
    let same = c.expect.ensures.same in
    hold _ b.world (told b) (ap (λ x. x.world) same ∙ next.world) (ap told same ∙ next.told)
    (kept_same b.world (told b) (open_at b) (open_at c.expect.new.self) c.requires.holds.keeps (λ n. rw c.in-Err.is at (c.expect.ensures.err) n ∙ ap (λ m. get nat_eq m n) next.open)) c.requires.holds.qualified

pub returns-in_err-note-in-Ok-expect-clause-holds : goal.returns-in_err-note-in-Ok-expect-clause-holds
returns-in_err-note-in-Ok-expect-clause-holds c =
    let b = c.args.self.now in
    let k = c.in-Ok.number in
    let next = c.next_number.ensures in
    let same = c.expect.ensures.same in
    let last = c.in_err-note-in-Ok-expect.ensures.err in
    hold _ b.world (told b) (ap (λ x. x.world) last ∙ ap (λ x. x.world) same ∙ next.world) (ap told last ∙ ap told same ∙ next.told)
    (kept_fewer b.world (told b) (open_at b) (open_at c.note.new.self) k c.requires.holds.keeps
    (λ n. put_back (nat_eq k n) (Some c.args.polls) (open_at b n) (open_at c.expect.new.self n) (open_at c.note.new.self n) (rw c.in-Ok-expect.is at (c.expect.ensures.ok) n ∙ ap (λ m. cond (nat_eq k n) (Some c.args.polls) (get nat_eq m n)) next.open) (c.in_err-note-in-Ok-expect.ensures.fewer n))) c.requires.holds.qualified

pub returns-in_ok-note-in-Ok-expect-clause-holds : goal.returns-in_ok-note-in-Ok-expect-clause-holds
returns-in_ok-note-in-Ok-expect-clause-holds c =
    let b = c.args.self.now in
    let e = c.args.entry in
    let k = c.in-Ok.number in
    let next = c.next_number.ensures in
    let same = c.expect.ensures.same in
    let last = c.in_ok-note-in-Ok-expect.ensures.ok in
    let late = ap (λ x. x.late) last ∙ ap (λ x. x.late) same in
    hold _ b.world (told b ++ e ∷ []) (ap (λ x. x.world) last ∙ ap (λ x. x.world) same ∙ next.world)
    (pushed (told b) c.next_number.new.self.log c.note.new.self.late c.note.new.self.log e (ap (λ l. c.next_number.new.self.log ++ l) late ∙ next.told) (late ∙ (rw c.in-Ok.is at c.next_number.ensures.late)) (ap (λ x. x.log) last ∙ ap (λ x. x.log ++ e ∷ []) same))
    (kept_begun b.world (told b) e (open_at b) (open_at c.note.new.self) c.args.polls c.requires.holds.keeps c.requires.begins c.requires.polls (λ n. ap (λ x. open_at x n) last ∙ rw c.in-Ok-expect.is at (c.expect.ensures.ok) n ∙ ap (λ m. cond (nat_eq k n) (Some c.args.polls) (get nat_eq m n)) next.open ∙ ap (λ j. cond (nat_eq j n) (Some c.args.polls) (open_at b n)) (rw c.in-Ok.is at c.next_number.ensures.number))) c.requires.holds.qualified
