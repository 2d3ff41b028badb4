use Rattle.std.proofs.Common.{◌≡◌, true, ℕ, Option, sym, ap, subst, ◌∙◌}
use Rattle.recursor_command.specs.Checking.{is_at_line, earlier_fault}
use Rattle.recursor_command.specs.Command.{IsUnchecked}
use Rattle.recursor_command.proofs.UnreadTextIsTold.{fails_at_line, fails_early, fails_elsewhere}
use Rattle.recursor_command.proofs.checking.unread_fault.Goals as goal

pub returns-then-not-is_at_line : goal.returns-then-not-is_at_line
returns-then-not-is_at_line c =
    subst (IsUnchecked c.args.bytes.now) (sym c.fault_of.ensures) (fails_elsewhere c.args.bytes.now c.args.error (sym c.is_at_line.ensures ∙ c.if-not-is_at_line.true) c.requires)

pub script_line-requires : goal.script_line-requires
script_line-requires c = (fails_at_line c.args.bytes.now c.args.error (sym c.is_at_line.ensures ∙ c.if-not-is_at_line.false) c.requires).0

pub returns : goal.returns
returns c =
    let is : is_at_line c.args.error.cause ≡ true = sym c.is_at_line.ensures ∙ c.if-not-is_at_line.false in
    let told = c.earlier_fault.ensures ∙ ap (λ (first : Option ℕ). earlier_fault first c.args.error) c.script_line.ensures in
    subst (IsUnchecked c.args.bytes.now) (sym told) (fails_early c.args.bytes.now c.args.error is c.requires)
