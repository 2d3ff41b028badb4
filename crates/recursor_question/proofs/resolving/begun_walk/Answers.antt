use Rattle.recursor_question.proofs.Words.{◌∙◌, ◌≡◌, ℕ, List, length, sym, ap, arith, nat_tests, DomainName, walk}
use Rattle.recursor_walk.proofs.CandidatesAndServers.{at-root}
use Rattle.recursor_walk.proofs.WalkGoesOn.{reaches-root}
use Rattle.recursor_question.proofs.resolving.begun_walk.Goals as goal

pub returns-then-is_empty-clause-holds : goal.returns-then-is_empty-clause-holds
returns-then-is_empty-clause-holds c view t0 qualified roots =
    let q = c.args.question.now.query in
    let a = c.new-asking in
    let servers = c.in_ok-servers.servers in
    let empty = sym c.is_empty.ensures ∙ c.if-is_empty.true in
    let short : length c.labels.result.now ≡ 0 = grind (arith, nat_tests) in
    let none : length (walk q).labels ≡ 0 =
    sym (ap (λ (ls : List (List ℕ)). length ls) c.labels.ensures.labels ∙ ap (λ (d : DomainName). length d.labels) c.in_ok-name.ensures) ∙ short in
    let site = at-root view q c.root.result servers roots.walks.some qualified none c.root.ensures (c.in_ok-servers.ensures ∙ sym roots.are) in
    rw c.in_ok-in_box.ensures (record {
      asks = a.ensures.is.2 ∙ c.in_ok-query.ensures;
      own = rw (a.ensures.is.2, c.in_ok-query.ensures) (reaches-root view q a.result.zone none);
      holds = a.ensures.holds view t0 (rw c.in_ok-query.ensures site);
    })

pub returns-clause-holds : goal.returns-clause-holds
returns-clause-holds c view t0 qualified roots =
    rw c.in_ok-in_box-2.ensures (c.in_ok-walk.ensures.holds view t0 c.args.question.now.query c.in_ok-name.ensures qualified
    (record { are = roots.are ∙ sym c.in_ok-servers.ensures; walks = roots.walks }))
