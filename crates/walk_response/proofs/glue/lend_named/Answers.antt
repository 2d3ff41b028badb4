use Rattle.std.proofs.Common.{◌++◌, List, subst}
use Rattle.std.specs.Prelude.{IfOk}
use Rattle.std.specs.declared.net.ip_addr.IpAddr.{IpAddr}
use Rattle.resolution.specs.Records.{records}
use Rattle.walk_response.specs.Lending.{SameElements}
use Rattle.walk_response.proofs.GlueOfServers.{lent-named}
use Rattle.walk_response.proofs.glue.lend_named.Goals as goal

pub returns-in-Some : goal.returns-in-Some
returns-in-Some c =
    subst (λ (l : List IpAddr). IfOk c.add_glue.result (λ _. SameElements c.add_glue.new.ips.items (c.args.ips.now.items ++ l)))
    (lent-named (records c.args.message.now) c.args.base.now c.in-Some.target.now c.args.r.now c.in-Some.ensures) c.add_glue.ensures
