use Rattle.std.proofs.Common.{◌∙◌, ap, sym, subst}
use Rattle.dns_core.specs.declared.request.DnsRequest.{DnsRequest}
use Rattle.pool_rules.specs.RetryQueue.{HasRoom}
use Rattle.pool_rules.specs.AnswerFilter.{denied_by}
use Rattle.pool_lookup.specs.declared.attempt.Attempt.{Attempt}
use Rattle.pool_lookup.specs.Hearing.{heard, after_end}
use Rattle.pool_lookup.specs.Lookup.{LookupState, question_of}
use Rattle.pool_lookup.specs.Rounds.{CanBegin, settled}
use Rattle.pool_lookup.proofs.OutcomeIsPut.{heard_begins}
use Rattle.pool_lookup.proofs.StepsCanBeTaken.{some_same}
use Rattle.pool_lookup.proofs.lookup.Lookup.end_attempt.Goals as goal

pub hear-requires-clause-room : goal.hear-requires-clause-room
hear-requires-clause-room c = subst (λ (l : LookupState). HasRoom l.queue) (sym c.close-attempt.ensures.closed) c.requires.room

pub hear-requires-clause-asks : goal.hear-requires-clause-asks
hear-requires-clause-asks c =
    ap (λ (r : DnsRequest). r.query) (c.requires.asks c.close-attempt.result c.close-attempt.ensures.attempt) ∙ sym (ap (λ (l : LookupState). question_of l) c.close-attempt.ensures.closed)

pub settle-requires : goal.settle-requires
settle-requires c = λ over.
    let denied = denied_by c.args.cx.now.answer_address_filter in
    subst CanBegin (sym (c.hear.ensures ∙ ap (heard denied c.close-attempt.result.candidate c.args.end c.args.now) c.close-attempt.ensures.closed))
    (heard_begins denied c.args.place c.args.entry c.args.now c.close-attempt.result.candidate c.args.end c.args.self.now c.requires)

pub returns-clause-lookup : goal.returns-clause-lookup
returns-clause-lookup c = λ a there.
    let denied = denied_by c.args.cx.now.answer_address_filter in
    let same = some_same (sym c.close-attempt.ensures.attempt ∙ there) in
    c.settle.ensures ∙ ap (settled c.args.now) (c.hear.ensures ∙ ap (heard denied c.close-attempt.result.candidate c.args.end c.args.now) c.close-attempt.ensures.closed)
    ∙ ap (λ (x : Attempt). after_end denied c.args.place c.args.entry x c.args.end c.args.now c.args.self.now) same
