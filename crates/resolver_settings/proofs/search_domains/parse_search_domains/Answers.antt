use Rattle.std.proofs.Common.{length, string_bytes, Ok, Err, sym, ap, ◌∙◌, subst, arith}
use Rattle.std.specs.Str.{chars}
use Rattle.std.proofs.lemmas.Iterator.{YieldsList-from_chars}
use Rattle.std.proofs.lemmas.Iterator.Consumers.{YieldsList-turn, YieldsList-end}
use Rattle.std.proofs.lemmas.List.{at_drop_all, length_push}
use Rattle.resolver_settings.specs.SearchDomains.{names_of, words_of, with_word, GivesNames}
use Rattle.resolver_settings.proofs.WordsInOrder.{read_from, read_from_start, at_separator, at_other, error_stays, error_given}
use Rattle.resolver_settings.proofs.search_domains.parse_search_domains.Goals as goal

pub loop-c-init : goal.loop-c-init
loop-c-init c = rw (c.empty-names.ensures, c.new-word.ensures.bytes) (read_from_start c.args.raw.now)

pub returns-in_err-names : goal.returns-in_err-names
returns-in_err-names c =
    let t = YieldsList-turn (YieldsList-from_chars c.args.raw.now c.utf8.raw cc) c.loop-c.yielded _ c.loop-c.yielded_by _ _ c.in-Some.c c.in-Some.is c.next.ensures.steps in
    let stays = error_stays c.in_err-names.field-0.0 (with_word c.loop-c.names c.deref.result.now) (names_of (words_of c.args.raw.now))
    (λ e. sym c.loop-c.invariant ∙ at_separator c.loop-c.names (string_bytes c.loop-c.word) (chars c.args.raw.now) (length c.loop-c.yielded) c.in-Some.c (Err c.in_err-names.field-0.0) t (sym c.is_separator.ensures ∙ c.if-is_separator.true) (ap (with_word c.loop-c.names) (sym c.deref.ensures) ∙ e)) in
    error_given c.from_residual.result (names_of (words_of c.args.raw.now)) c.in_err-names.field-0.0 c.from_residual.ensures.1 (stays c.in_err-names.ensures)

pub loop-c-preserved-then-is_separator : goal.loop-c-preserved-then-is_separator
loop-c-preserved-then-is_separator c =
    let t = YieldsList-turn (YieldsList-from_chars c.args.raw.now c.utf8.raw cc) c.loop-c.yielded _ c.loop-c.yielded_by _ _ c.in-Some.c c.in-Some.is c.next.ensures.steps in
    let said = ap (with_word c.loop-c.names) (sym c.deref.ensures) ∙ c.in_ok-names.ensures in
    rw (c.clear.ensures.bytes, length_push c.loop-c.yielded c.in-Some.c)
    (sym (at_separator c.loop-c.names (string_bytes c.loop-c.word) (chars c.args.raw.now) (length c.loop-c.yielded) c.in-Some.c (Ok c.in_ok-names.names) t (sym c.is_separator.ensures ∙ c.if-is_separator.true) said) ∙ c.loop-c.invariant)

pub loop-c-preserved : goal.loop-c-preserved
loop-c-preserved c =
    let t = YieldsList-turn (YieldsList-from_chars c.args.raw.now c.utf8.raw cc) c.loop-c.yielded _ c.loop-c.yielded_by _ _ c.in-Some.c c.in-Some.is c.next.ensures.steps in
    rw (c.in_ok-push.ensures, length_push c.loop-c.yielded c.in-Some.c)
    (sym (at_other c.loop-c.names (string_bytes c.loop-c.word) (chars c.args.raw.now) (length c.loop-c.yielded) c.in-Some.c t (sym c.is_separator.ensures ∙ c.if-is_separator.false)) ∙ c.loop-c.invariant)

pub returns : goal.returns
returns c =
    let t = YieldsList-end (YieldsList-from_chars c.args.raw.now c.utf8.raw cc) c.loop-c.yielded _ c.loop-c.yielded_by _ _ c.in-None.is c.next.ensures.steps in
    let end = at_drop_all (read_from c.loop-c.names (string_bytes c.loop-c.word)) (chars c.args.raw.now) (length c.loop-c.yielded) (omega (arith, t.1)) in
    subst (GivesNames c.with_word-2.result) (ap (with_word c.loop-c.names) c.deref-2.ensures ∙ sym end ∙ c.loop-c.invariant) c.with_word-2.ensures
