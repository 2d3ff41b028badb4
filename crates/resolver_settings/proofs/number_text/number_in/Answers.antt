use Rattle.std.proofs.Common.{ℕ, Ok, sym, ◌∙◌, subst, arith}
use Rattle.std.specs.Str.Parse.{ParsesUnsigned}
use Rattle.resolver_settings.proofs.OneNumber.{none_with_needless_front, number_is_utf8, read_is_number, number_is_no_error}
use Rattle.resolver_settings.proofs.number_text.number_in.Goals as goal

pub returns-then-has_needless_front : goal.returns-then-has_needless_front
returns-then-has_needless_front c = none_with_needless_front c.args.word.now (sym c.has_needless_front.ensures ∙ c.if-has_needless_front.true)

pub returns-in_default : goal.returns-in_default
returns-in_default c = λ n h. c.in_default.ensures.cases.0 (number_is_utf8 c.args.word.now n h)

pub returns-in-Ok-parse : goal.returns-in-Ok-parse
returns-in-Ok-parse c =
    let same = c.in-Ok.ensures.cases.0 in
    let read = subst (λ w. ParsesUnsigned {E = ℕ} 16 10 w (Ok c.in-Ok-parse.n)) same c.in-Ok-parse.ensures.value.0 in
    read_is_number c.args.word.now c.in-Ok-parse.n (omega arith) (sym c.has_needless_front.ensures ∙ c.if-has_needless_front.false) read

pub returns-in-Err : goal.returns-in-Err
returns-in-Err c = λ n h.
    number_is_no_error c.in-Ok.text.now n c.in-Err.field-0 (c.in-Ok.ensures.cases.0 ∙ h.0, h.1) c.in-Err.ensures.value.0
