use Rattle.std.proofs.Common.{◌≡◌, ◌∙◌, ◌-◌, ℕ, suc, sym, ap, length, arith}
use Rattle.std.specs.Option.{option_copied}
use Rattle.alias_rules.proofs.Rings.{steps_from, follow_by_steps, step_at_owner, step_at_end, step_at_alias}
use Rattle.alias_rules.proofs.following.restart_from.Goals as goal

pub returns-then-owns : goal.returns-then-owns
returns-then-owns c =
    let answers = c.args.answers.now in
    let owned = sym c.owns.ensures ∙ c.if-owns.true in
    sym (step_at_owner answers c.args.asked c.links.left c.links.current.now owned)
    ∙ c.links.invariant ∙ sym (follow_by_steps answers c.args.asked (suc (length answers)) c.args.name.now)

pub returns-in_default : goal.returns-in_default
returns-in_default c =
    let answers = c.args.answers.now in
    let unowned = sym c.owns.ensures ∙ c.if-owns.false in
    let ends = sym c.alias_at.ensures ∙ ap option_copied c.in_default.is in
    sym (step_at_end answers c.args.asked c.links.left c.links.current.now unowned ends)
    ∙ c.links.invariant ∙ sym (follow_by_steps answers c.args.asked (suc (length answers)) c.args.name.now)

pub returns-then-left-eq0 : goal.returns-then-left-eq0
returns-then-left-eq0 c =
    let answers = c.args.answers.now in
    let unowned = sym c.owns.ensures ∙ c.if-owns.false in
    let leads = sym c.alias_at.ensures ∙ ap option_copied c.in-Some.is in
    let none : c.links.left ≡ 0 = omega arith in
    sym (step_at_alias answers c.args.asked c.links.left c.links.current.now c.in-Some.target.now unowned leads
    ∙ ap (λ (k : ℕ). steps_from answers c.args.asked k c.in-Some.target.now) none)
    ∙ c.links.invariant ∙ sym (follow_by_steps answers c.args.asked (suc (length answers)) c.args.name.now)

pub links-preserved : goal.links-preserved
links-preserved c =
    let answers = c.args.answers.now in
    let unowned = sym c.owns.ensures ∙ c.if-owns.false in
    let leads = sym c.alias_at.ensures ∙ ap option_copied c.in-Some.is in
    let fewer : suc (c.links.left - 1) ≡ c.links.left = omega arith in
    ap (λ (k : ℕ). steps_from answers c.args.asked k c.in-Some.target.now) fewer
    ∙ sym (step_at_alias answers c.args.asked c.links.left c.links.current.now c.in-Some.target.now unowned leads)
    ∙ c.links.invariant
