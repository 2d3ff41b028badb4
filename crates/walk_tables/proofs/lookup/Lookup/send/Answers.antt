use Rattle.walk_tables.proofs.lookup.Lookup.send.Goals as goal

-- the pools: `begin` asks what the clause has, with the request's question for that of the lookup
pub returns-clause-pools : goal.returns-clause-pools
returns-clause-pools c view here served h = c.begin.ensures.holds view here (rw c.requires.asks served) h

pub returns-clause-holds : goal.returns-clause-holds
returns-clause-holds c view t0 h = record { above = h.above; ask = tt }

pub returns-in_err-lookup-clause-pools : goal.returns-in_err-lookup-clause-pools
returns-in_err-lookup-clause-pools c view here served h = c.begin.ensures.holds view here (rw c.requires.asks served) h
