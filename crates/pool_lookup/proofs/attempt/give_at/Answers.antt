use Rattle.std.proofs.Common.{◌≡◌, subst}
use Rattle.server_core.specs.Hearing.{changed_at}
use Rattle.server_core.specs.Sending.{after_next}
use Rattle.pool_lookup.specs.declared.attempt.Attempt.{Attempt}
use Rattle.pool_lookup.proofs.AttemptIsWritten.{read_at, same_at, put_back, given_at}
use Rattle.pool_lookup.proofs.attempt.give_at.Goals as goal

pub give-requires : goal.give-requires
give-requires c =
    let lent = c.index_mut-attempt.result.now in
    c.requires.can lent (read_at c.args.attempts.now.items c.args.place lent c.requires.place c.index_mut-attempt.ensures.value)

pub returns-clause-given : goal.returns-clause-given
returns-clause-given c = λ a there.
    let lent = c.index_mut-attempt.result.now in
    given_at c.give.result c.args.place c.args.number c.args.tick.now c.args.table.now c.args.attempts.now.items a lent c.give.new.self
    (same_at c.args.attempts.now.items c.args.place lent a c.index_mut-attempt.ensures.value there) c.give.ensures.orders c.give.ensures.ok

pub returns-clause-err : goal.returns-clause-err
returns-clause-err c = put_back c.give.result c.args.attempts.now.items c.args.place c.index_mut-attempt.result.now c.give.new.self c.index_mut-attempt.ensures.value c.give.ensures.err

pub returns-clause-table : goal.returns-clause-table
returns-clause-table c = λ a there.
    let lent = c.index_mut-attempt.result.now in
    subst (λ (x : Attempt). c.give.new.table ≡ changed_at (after_next x.send.stage c.give.result) x.send.server c.args.table.now)
    (same_at c.args.attempts.now.items c.args.place lent a c.index_mut-attempt.ensures.value there) c.give.ensures.table
