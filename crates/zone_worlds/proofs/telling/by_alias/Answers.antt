use Rattle.std.proofs.Common.{List, [], true, ap, ◌∙◌}
use Rattle.dns_core.specs.declared.record.Record.{Record}
use Rattle.zone_worlds.specs.Telling.{reply}
use Rattle.zone_worlds.proofs.AliasAnswers.{by_alias_made}
use Rattle.zone_worlds.proofs.telling.by_alias.Goals as goal

pub returns-then-chain : goal.returns-then-chain
returns-then-chain c = by_alias_made c.in_ok-answers.ensures c.if-chain.true (c.in_ok-whole.ensures ∙ ap (λ (xs : List Record). reply c.args.query.now 0 true c.in_ok-answers.answers [] xs) c.empty.ensures)

pub returns : goal.returns
returns c = by_alias_made c.in_ok-answers-2.ensures c.if-chain.false (c.in_ok-single.ensures ∙ ap (λ (xs : List Record). reply c.args.query.now 0 true c.in_ok-answers-2.answers [] xs) c.empty-2.ensures)
