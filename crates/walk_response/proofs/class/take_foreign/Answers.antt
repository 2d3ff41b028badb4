use Rattle.std.proofs.Common.{ap, ◌∙◌, sym, Option}
use Rattle.std.specs.Prelude.{find}
use Rattle.std.specs.Option.{option_or}
use Rattle.dns_core.specs.declared.record.Record.{Record}
use Rattle.resolution.specs.Class.{is_foreign}
use Rattle.walk_response.proofs.Sections.{find-records}
use Rattle.walk_response.proofs.class.take_foreign.Goals as goal

pub returns : goal.returns
returns c =
    let m = c.args.message in
    let p = is_foreign c.args.query.now in
    c.or-2.ensures ∙ ap (λ (o : Option Record). option_or o c.take_foreign_in-3.result) c.or.ensures
    ∙ ap (λ (o : Option Record). option_or (option_or o c.take_foreign_in-2.result) c.take_foreign_in-3.result) c.take_foreign_in.ensures
    ∙ ap (λ (o : Option Record). option_or (option_or (find p m.answers) o) c.take_foreign_in-3.result) c.take_foreign_in-2.ensures
    ∙ ap (λ (o : Option Record). option_or (option_or (find p m.answers) (find p m.authorities)) o) c.take_foreign_in-3.ensures
    ∙ sym (find-records p m)
