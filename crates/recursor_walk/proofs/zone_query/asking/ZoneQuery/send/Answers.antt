use Rattle.recursor_walk.proofs.zone_query.asking.ZoneQuery.send.Goals as goal

pub returns-clause-holds : goal.returns-clause-holds
returns-clause-holds c view t0 here pools h =
    (record { site = rw c.send.ensures.query h.site; lookup = c.send.ensures.holds view t0 h.lookup }, c.send.ensures.pools view here (rw c.items-ips.ensures h.site) pools)
