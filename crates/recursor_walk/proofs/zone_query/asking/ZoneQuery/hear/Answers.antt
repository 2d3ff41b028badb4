use Rattle.recursor_walk.proofs.QueryWords.{◌∙◌}
use Rattle.recursor_walk.proofs.zone_query.asking.ZoneQuery.hear.Goals as goal

pub returns-clause-holds : goal.returns-clause-holds
returns-clause-holds c view t0 h =
    c.in_ok-conclude.ensures view t0 (record {
      asks = c.hear-found.ensures.query ∙ h.asks;
      walked = rw c.hear-found.ensures.query h.holds.site.walked;
      own = rw c.hear-found.ensures.query h.own;
      came = c.hear-found.ensures.holds view t0 c.args.self.now.zone h.holds.lookup;
    })
