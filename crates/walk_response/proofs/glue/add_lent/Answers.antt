use Rattle.std.proofs.Common.{[], ◌++◌, Option, subst}
use Rattle.std.specs.Prelude.{IfOk}
use Rattle.std.specs.List.{cons_option}
use Rattle.std.specs.declared.net.ip_addr.IpAddr.{IpAddr}
use Rattle.walk_response.specs.Lending.{SameElements}
use Rattle.walk_response.proofs.glue.add_lent.Goals as goal

pub returns-in-Some : goal.returns-in-Some
returns-in-Some c = subst (λ (o : Option IpAddr). IfOk c.add_new.result (λ _. SameElements c.add_new.new.ips.items (c.args.ips.now.items ++ cons_option o []))) c.in-Some.ensures c.add_new.ensures
