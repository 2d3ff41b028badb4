use Rattle.walk_response.specs.Lending.{lent_by}
use Rattle.walk_response.proofs.GlueOfServers.{same-next, same-last, lent_by-append}
use Rattle.walk_response.proofs.glue.add_addresses.Goals as goal

pub loop-r-preserved : goal.loop-r-preserved
loop-r-preserved c = same-next (lent_by c.args.target.now) (lent_by-append c.args.target.now) c.args.ips.now.items c.loop-r.ips.items c.add_lent.new.ips.items c.args.section.now c.loop-r.r-index c.r-item.result c.loop-r-test.true c.r-item.is c.loop-r.invariant c.in_ok-add_lent.ensures

pub returns : goal.returns
returns c = same-last (lent_by c.args.target.now) c.args.ips.now.items c.loop-r.ips.items c.args.section.now c.loop-r.r-index c.loop-r-test.false c.loop-r.invariant
