use Rattle.std.proofs.Common.{ap, ◌∙◌, sym, Option}
use Rattle.std.specs.Prelude.{find}
use Rattle.std.specs.Option.{option_or, option_copied}
use Rattle.dns_core.specs.declared.record.Record.{Record}
use Rattle.resolution.specs.Class.{is_foreign}
use Rattle.walk_response.proofs.Sections.{find-records, copied-or}
use Rattle.walk_response.proofs.class.first_foreign.Goals as goal

pub returns : goal.returns
returns c =
    let m = c.args.message.now in
    let p = is_foreign c.args.query.now in
    let last = option_copied c.foreign_in-3.result in
    ap option_copied (c.or-2.ensures ∙ ap (λ o. option_or o c.foreign_in-3.result) c.or.ensures)
    ∙ copied-or (option_or c.foreign_in.result c.foreign_in-2.result) c.foreign_in-3.result
    ∙ ap (λ (o : Option Record). option_or o last) (copied-or c.foreign_in.result c.foreign_in-2.result)
    ∙ ap (λ (o : Option Record). option_or (option_or o (option_copied c.foreign_in-2.result)) last) (c.foreign_in.ensures ∙ ap (find p) c.items.ensures)
    ∙ ap (λ (o : Option Record). option_or (option_or (find p m.answers) o) last) (c.foreign_in-2.ensures ∙ ap (find p) c.items-2.ensures)
    ∙ ap (λ (o : Option Record). option_or (option_or (find p m.answers) (find p m.authorities)) o) (c.foreign_in-3.ensures ∙ ap (find p) c.items-3.ensures)
    ∙ sym (find-records p m)
