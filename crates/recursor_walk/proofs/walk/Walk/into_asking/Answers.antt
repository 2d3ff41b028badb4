use Rattle.recursor_walk.proofs.walk.Walk.into_asking.Goals as goal

pub returns-clause-holds : goal.returns-clause-holds
returns-clause-holds c view t0 h =
    record { asks = c.new.ensures.is.2; own = rw (c.new.ensures.is.0, c.new.ensures.is.2) h.own; holds = c.new.ensures.holds view t0 h.site }
