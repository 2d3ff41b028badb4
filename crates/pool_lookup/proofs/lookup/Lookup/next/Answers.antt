use Rattle.std.proofs.Common.{◌≡◌, subst, IfOk, OnOk, OnErr}
use Rattle.pool_lookup.specs.Giving.{Gives, Halts, stepped_table}
use Rattle.pool_lookup.specs.Lookup.{LookupState}
use Rattle.pool_lookup.proofs.StepsCanBeTaken.{can_begin}
use Rattle.pool_lookup.proofs.NextStepGives.{sound_started, reached_started}
use Rattle.pool_lookup.proofs.lookup.Lookup.next.Goals as goal

pub start-requires : goal.start-requires
start-requires c = λ over. can_begin c.args.self.now c.requires.holds over

pub give-requires-clause-holds : goal.give-requires-clause-holds
give-requires-clause-holds c = sound_started c.args.tick.now c.args.self.now c.start.new.self c.start.ensures c.requires.holds

pub give-requires-clause-reached : goal.give-requires-clause-reached
give-requires-clause-reached c = reached_started c.args.tick.now c.args.self.now c.start.new.self c.args.table.now c.start.ensures c.requires.reached

pub returns-clause-gives : goal.returns-clause-gives
returns-clause-gives c = subst (λ (l : LookupState). IfOk c.give.result (λ step. Gives c.args.number c.args.tick.now c.args.table.now l step c.give.new.self)) c.start.ensures c.give.ensures.gives

pub returns-clause-table : goal.returns-clause-table
returns-clause-table c = subst (λ (l : LookupState). OnOk c.give.result (c.give.new.table ≡ stepped_table l c.args.table.now)) c.start.ensures c.give.ensures.table

pub returns-clause-err : goal.returns-clause-err
returns-clause-err c = subst (λ (l : LookupState). OnErr c.give.result (c.give.new.self ≡ l)) c.start.ensures c.give.ensures.err

pub returns-clause-halted : goal.returns-clause-halted
returns-clause-halted c = subst (λ (l : LookupState). OnErr c.give.result (Halts l c.args.table.now c.give.new.table)) c.start.ensures c.give.ensures.halted
