use Rattle.std.proofs.lemmas.Result.{IfOk-weaker}
use Rattle.walk_response.specs.Lending.{lent_by}
use Rattle.walk_response.proofs.GlueOfServers.{same-sections, lent_by-append}
use Rattle.walk_response.proofs.glue.add_glue.Goals as goal

pub returns : goal.returns
returns c =
    let t = c.args.target.now in
    IfOk-weaker c.add_addresses-3.result _ _
    (λ _ h. same-sections (lent_by t) (lent_by-append t) c.args.message.now c.args.ips.now.items c.add_addresses.new.ips.items c.add_addresses-2.new.ips.items c.add_addresses-3.new.ips.items
    c.items.result.now c.items-2.result.now c.items-3.result.now c.items.ensures c.items-2.ensures c.items-3.ensures c.in_ok-add_addresses.ensures c.in_ok-add_addresses-2.ensures h)
    c.add_addresses-3.ensures
