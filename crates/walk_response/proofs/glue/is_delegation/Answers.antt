use Rattle.std.proofs.Common.{Bool, ap, ◌∙◌, sym}
use Rattle.std.specs.Prelude.{◌&&◌, ◌||◌}
use Rattle.std.specs.List.{list_any}
use Rattle.dns_core.specs.Classifying.{is_ns}
use Rattle.dns_core.specs.Name.{same_names}
use Rattle.dns_core.specs.declared.record.Record.{Record}
use Rattle.walk_response.proofs.Sections.{any-records}
use Rattle.walk_response.proofs.glue.is_delegation.Goals as goal

pub returns : goal.returns
returns c =
    let m = c.args.message.now in
    let p : Record → Bool = λ r. is_ns r && same_names r.name c.args.name.now in
    c.any_of.ensures
    ∙ ap (λ (b : Bool). (b || c.any_cut-2.result) || c.any_cut-3.result) (c.any_cut.ensures ∙ ap (list_any p) c.items.ensures)
    ∙ ap (λ (b : Bool). (list_any p m.answers || b) || c.any_cut-3.result) (c.any_cut-2.ensures ∙ ap (list_any p) c.items-2.ensures)
    ∙ ap (λ (b : Bool). (list_any p m.answers || list_any p m.authorities) || b) (c.any_cut-3.ensures ∙ ap (list_any p) c.items-3.ensures)
    ∙ sym (any-records p m)
