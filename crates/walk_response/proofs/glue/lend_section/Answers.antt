use Rattle.resolution.specs.Records.{records}
use Rattle.walk_response.specs.Lending.{lent_for}
use Rattle.walk_response.proofs.GlueOfServers.{same-next, same-last, lent_for-append}
use Rattle.walk_response.proofs.glue.lend_section.Goals as goal

pub loop-r-preserved : goal.loop-r-preserved
loop-r-preserved c = let rs = records c.args.message.now in same-next (lent_for rs c.args.base.now) (lent_for-append rs c.args.base.now) c.args.ips.now.items c.loop-r.ips.items c.lend_named.new.ips.items c.args.section.now c.loop-r.r-index c.r-item.result c.loop-r-test.true c.r-item.is c.loop-r.invariant c.in_ok-lend_named.ensures

pub returns : goal.returns
returns c = same-last (lent_for (records c.args.message.now) c.args.base.now) c.args.ips.now.items c.loop-r.ips.items c.args.section.now c.loop-r.r-index c.loop-r-test.false c.loop-r.invariant
