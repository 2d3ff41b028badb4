use Rattle.std.proofs.Common.{◌≡◌, subst}
use Rattle.std.specs.Prelude.{MatchResult}
use Rattle.pool_lookup.specs.Cancelling.{heard_table}
use Rattle.pool_lookup.specs.declared.attempt.Attempt.{Attempt}
use Rattle.pool_lookup.proofs.AttemptIsWritten.{read_at, same_at, put_back, put_there}
use Rattle.pool_lookup.proofs.attempt.put_at.Goals as goal

pub put-requires : goal.put-requires
put-requires c =
    let lent = c.index_mut-attempt.result.now in
    c.requires.there lent (read_at c.args.attempts.now.items c.args.place lent c.requires.place c.index_mut-attempt.ensures.value)

pub returns-clause-put : goal.returns-clause-put
returns-clause-put c = λ a there.
    let lent = c.index_mut-attempt.result.now in
    put_there c.put.result c.args.place c.args.tick c.args.outcome c.args.attempts.now.items a lent c.put.new.self
    (same_at c.args.attempts.now.items c.args.place lent a c.index_mut-attempt.ensures.value there) c.put.ensures.after c.put.ensures.end c.put.ensures.ok

pub returns-clause-err : goal.returns-clause-err
returns-clause-err c = put_back c.put.result c.args.attempts.now.items c.args.place c.index_mut-attempt.result.now c.put.new.self c.index_mut-attempt.ensures.value c.put.ensures.err

pub returns-clause-table : goal.returns-clause-table
returns-clause-table c = λ a there.
    let lent = c.index_mut-attempt.result.now in
    subst (λ (x : Attempt). MatchResult c.put.result (λ put. c.put.new.table ≡ heard_table c.args.tick c.args.outcome x c.args.table.now) (λ error. c.put.new.table ≡ c.args.table.now))
    (same_at c.args.attempts.now.items c.args.place lent a c.index_mut-attempt.ensures.value there) c.put.ensures.table
