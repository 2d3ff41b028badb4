use Rattle.std.proofs.Common.{List, ap, ◌∙◌}
use Rattle.std.specs.List.{list_any}
use Rattle.dns_core.specs.declared.record.Record.{Record}
use Rattle.zone_rules.specs.Choosing.{is_alias}
use Rattle.world_layout.proofs.NameByRecords.{aliased_named}
use Rattle.world_layout.proofs.naming.is_aliased_by.Goals as goal

pub returns : goal.returns
returns c = c.has_alias.ensures ∙ ap (λ (rs : List Record). list_any (is_alias c.args.name.now) rs) c.named.ensures ∙ aliased_named c.args.world.now c.args.name.now
