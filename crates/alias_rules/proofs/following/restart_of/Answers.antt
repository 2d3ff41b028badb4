use Rattle.std.proofs.Common.{◌∙◌, sym, ap}
use Rattle.std.specs.Option.{option_copied}
use Rattle.alias_rules.proofs.FirstAlias.{not_led_by_type, not_led_by_name, led_by_alias}
use Rattle.alias_rules.proofs.following.restart_of.Goals as goal

pub returns-then-is_final : goal.returns-then-is_final
returns-then-is_final c = sym (not_led_by_type c.args.message.now c.args.query.now (sym c.is_final.ensures ∙ c.if-is_final.true))

pub returns-in_default : goal.returns-in_default
returns-in_default c =
    let passes = sym c.is_final.ensures ∙ c.if-is_final.false in
    let ends = sym c.alias_at.ensures ∙ ap option_copied c.in_default.is in
    sym (not_led_by_name c.args.message.now c.args.query.now c.items-answers.result.now c.items-answers.ensures passes ends)

pub returns : goal.returns
returns c =
    let passes = sym c.is_final.ensures ∙ c.if-is_final.false in
    let leads = sym c.alias_at.ensures ∙ ap option_copied c.in-Some.is in
    c.restart_from.ensures ∙ sym (led_by_alias c.args.message.now c.args.query.now c.items-answers.result.now c.in-Some._target.now c.items-answers.ensures passes leads)
