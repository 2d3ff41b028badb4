use Rattle.recursor_walk.proofs.QueryWords.{sym, ◌∙◌}
use Rattle.recursor_walk.proofs.CachedIsUsable.{recalled-for, recalled-answers}
use Rattle.recursor_walk.proofs.zone_query.asking.ZoneQuery.recall.Goals as goal

pub returns-in_ok-answer_with-in-Some-clause-holds : goal.returns-in_ok-answer_with-in-Some-clause-holds
returns-in_ok-answer_with-in-Some-clause-holds c view t0 reads h =
    let p = c.args.self.now.lookup.query in
    let found = recalled-for view t0 c.args.cache.now p c.in_ok-counted.counted (rw reads.at at reads.since) reads.holds (rw reads.at at c.in_ok-counted.ensures) in
    c.in_ok-answer_with-in-Some.ensures.holds view t0
    (recalled-answers view t0 p c.args.question.now.query c.in_ok-counted.counted c.in-Some.counted h.asks found (sym c.answerable.ensures ∙ c.in-Some.is))

pub returns-in-None-clause-holds : goal.returns-in-None-clause-holds
returns-in-None-clause-holds c view t0 reads h =
    record {
      asks = c.begin.ensures.query ∙ h.asks;
      own = rw c.begin.ensures.query h.own;
      holds = record {
        site = rw c.begin.ensures.query h.holds.site;
        lookup = c.begin.ensures.holds view t0 c.args.self.now.zone h.holds.lookup;
      };
    }
