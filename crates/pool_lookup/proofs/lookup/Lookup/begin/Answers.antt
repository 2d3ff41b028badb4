use Rattle.std.proofs.Common.{◌∙◌, ap, sym, subst}
use Rattle.pool_lookup.specs.Holds.{Holds}
use Rattle.pool_lookup.specs.Lookup.{LookupState}
use Rattle.pool_lookup.specs.Rounds.{CanBegin, round_begun}
use Rattle.pool_lookup.proofs.LookupHoldsOn.{holds_begun}
use Rattle.pool_lookup.proofs.StepsCanBeTaken.{fresh_begins}
use Rattle.pool_lookup.proofs.lookup.Lookup.begin.Goals as goal

pub begin_round-requires-clause-can : goal.begin_round-requires-clause-can
begin_round-requires-clause-can c = subst CanBegin (sym (c.get_mut.ensures.value ∙ c.in_ok-lookup.ensures)) (fresh_begins c.args.request c.args.servers.items c.args.concurrency c.args.timeout c.args.now c.requires.some)

pub begin_round-requires-clause-none : goal.begin_round-requires-clause-none
begin_round-requires-clause-none c = ap (λ (l : LookupState). l.ready) (c.get_mut.ensures.value ∙ c.in_ok-lookup.ensures)

pub returns-clause-begun : goal.returns-clause-begun
returns-clause-begun c = c.begin_round.ensures ∙ ap (round_begun c.args.now) (c.get_mut.ensures.value ∙ c.in_ok-lookup.ensures)

pub returns-clause-holds : goal.returns-clause-holds
returns-clause-holds c = λ denied.
    subst (Holds denied) (sym (c.begin_round.ensures ∙ ap (round_begun c.args.now) (c.get_mut.ensures.value ∙ c.in_ok-lookup.ensures))) (holds_begun denied c.args.request c.args.servers.items c.args.concurrency c.args.timeout c.args.now c.requires.some)
