use Rattle.std.proofs.Common.{◌∙◌, List, length, slice_get, ap, sym, subst, arith}
use Rattle.server_core.specs.Context.{Context}
use Rattle.pool_rules.specs.AnswerFilter.{denied_by}
use Rattle.pool_lookup.specs.declared.attempt.Attempt.{Attempt}
use Rattle.pool_lookup.specs.Hearing.{IsPutAt, run_out, after_attempt}
use Rattle.pool_lookup.specs.Lookup.{LookupState}
use Rattle.pool_lookup.proofs.ListFacts.{some_at}
use Rattle.pool_lookup.proofs.OutcomeIsPut.{with_attempts, put_can, put_lookup, put_table, out_lookup}
use Rattle.pool_lookup.proofs.lookup.Lookup.put_attempt.Goals as goal

pub put_at-requires-clause-place : goal.put_at-requires-clause-place
put_at-requires-clause-place c =
    let same = ap (λ (s : LookupState). length s.attempts) c.self.view_is in
    let within = c.requires.can.there in
    omega (arith, same, within)

pub put_at-requires-clause-there : goal.put_at-requires-clause-there
put_at-requires-clause-there c = λ a there. c.requires.there a (sym (ap (λ (s : LookupState). slice_get s.attempts c.args.place) c.self.view_is) ∙ there)

pub hear_end-requires : goal.hear_end-requires
hear_end-requires c =
    let l = c.args.self.now in
    let same = ap (λ (s : LookupState). s.attempts) c.self.view_is in
    let a = some_at l.attempts c.args.place c.requires.can.there in
    let at = ap (λ (xs : List Attempt). slice_get xs c.args.place) same ∙ a.1 in
    let xs = c.put_at.new.attempts.items in
    let put = subst (λ (ys : List Attempt). IsPutAt c.args.place c.args.tick c.args.outcome a.0 ys xs c.in-Ok.put) same (c.in-Ok.ensures.put a.0 at) in
    put_can c.args.tick c.args.place c.args.outcome a.0 l c.in-Ok.put xs _ a.1 put (ap (λ (s : LookupState). with_attempts s xs) c.self.view_is) c.requires.can

pub returns-in-Ok-clause-after : goal.returns-in-Ok-clause-after
returns-in-Ok-clause-after c = λ a there.
    let at = ap (λ (s : LookupState). slice_get s.attempts c.args.place) c.self.view_is ∙ there in
    (c.in-Ok.ensures.put a at).after

pub returns-in-Err-clause-after : goal.returns-in-Err-clause-after
returns-in-Err-clause-after c = λ a there. c.in-Err.ensures.put a (ap (λ (s : LookupState). slice_get s.attempts c.args.place) c.self.view_is ∙ there)

pub returns-in-Ok-clause-lookup : goal.returns-in-Ok-clause-lookup
returns-in-Ok-clause-lookup c =
    let l = c.args.self.now in
    let same = ap (λ (s : LookupState). s.attempts) c.self.view_is in
    let a = some_at l.attempts c.args.place c.requires.can.there in
    let at = ap (λ (xs : List Attempt). slice_get xs c.args.place) same ∙ a.1 in
    let xs = c.put_at.new.attempts.items in
    let put = subst (λ (ys : List Attempt). IsPutAt c.args.place c.args.tick c.args.outcome a.0 ys xs c.in-Ok.put) same (c.in-Ok.ensures.put a.0 at) in
    put_lookup (denied_by c.put_at.new.cx.answer_address_filter) c.args.tick c.args.place c.closing_entry-entry.result c.args.outcome a.0 l c.in-Ok.put xs _ c.hear_end.new.self a.1 put
    (ap (λ (s : LookupState). with_attempts s xs) c.self.view_is) c.closing_entry-entry.ensures c.hear_end.ensures.lookup
    ∙ ap (λ (x : Context). after_attempt (denied_by x.answer_address_filter) c.args.tick c.args.place c.args.outcome l) c.put_at.ensures.context

pub returns-in-Ok-clause-table : goal.returns-in-Ok-clause-table
returns-in-Ok-clause-table c =
    let l = c.args.self.now in
    let same = ap (λ (s : LookupState). s.attempts) c.self.view_is in
    let a = some_at l.attempts c.args.place c.requires.can.there in
    let at = ap (λ (xs : List Attempt). slice_get xs c.args.place) same ∙ a.1 in
    let xs = c.put_at.new.attempts.items in
    let put = subst (λ (ys : List Attempt). IsPutAt c.args.place c.args.tick c.args.outcome a.0 ys xs c.in-Ok.put) same (c.in-Ok.ensures.put a.0 at) in
    put_table c.args.tick c.args.place c.closing_entry-entry.result c.args.outcome a.0 l c.in-Ok.put xs _ c.args.table.now c.put_at.new.table c.hear_end.new.table a.1 put
    (ap (λ (s : LookupState). with_attempts s xs) c.self.view_is) c.closing_entry-entry.ensures (c.in-Ok.ensures.table a.0 at) c.hear_end.ensures.table

pub returns-in-Err-clause-lookup : goal.returns-in-Err-clause-lookup
returns-in-Err-clause-lookup c =
    let l = c.args.self.now in
    let a = some_at l.attempts c.args.place c.requires.can.there in
    let back = ap (λ (xs : List Attempt). with_attempts c.args.self.now xs) (c.in-Err.ensures.err ∙ ap (λ (s : LookupState). s.attempts) c.self.view_is) in
    let whole = ap (λ (s : LookupState). with_attempts s c.put_at.new.attempts.items) c.self.view_is ∙ back in
    out_lookup c.args.tick c.args.place c.closing_entry-entry.result c.args.outcome a.0 l c.run_out.new.self a.1 c.closing_entry-entry.ensures
    (λ b at. c.run_out.ensures b (ap (λ (s : LookupState). slice_get s.attempts c.args.place) whole ∙ at) ∙ ap (run_out c.args.place b.candidate.server c.closing_entry-entry.result c.args.tick.now) whole)

pub returns-in-Err-clause-table : goal.returns-in-Err-clause-table
returns-in-Err-clause-table c =
    let l = c.args.self.now in
    let a = some_at l.attempts c.args.place c.requires.can.there in
    c.in-Err.ensures.table a.0 (ap (λ (s : LookupState). slice_get s.attempts c.args.place) c.self.view_is ∙ a.1)
