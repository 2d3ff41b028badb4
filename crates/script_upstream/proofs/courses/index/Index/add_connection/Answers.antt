use Rattle.std.proofs.Common.{false, Option, Some, ap, ◌∙◌, refl}
use Rattle.std.specs.Prelude.{option_and_then}
use Rattle.std.specs.Option.{option_or, option_map_or}
use Rattle.std.specs.HashMap.{get}
use Rattle.script_upstream.specs.Keys.{same_endpoint}
use Rattle.script_upstream.specs.declared.courses.index.Route.{Route}
use Rattle.script_upstream.proofs.MapAfterPut.{same_route, put_same, put_first}
use Rattle.script_upstream.proofs.courses.index.Index.add_connection.Goals as goal

pub returns-clause-refused : goal.returns-clause-refused
returns-clause-refused c = λ p.
    let refused = λ (o : Option Route). option_map_or (λ r. r.refused) o false in
    let old = c.args.self.now.routes in
    put_same refused _ (get same_endpoint old p) (get same_endpoint old p) (same_endpoint c.args.endpoint p) _ (c.in_ok-insert.ensures.updates.0 p)
    (λ same. c.route-known.ensures.refused ∙ ap refused (same_route old c.args.endpoint p same))
    (λ apart. refl)

pub returns-clause-place : goal.returns-clause-place
returns-clause-place c = λ p.
    let place = λ (o : Option Route). option_and_then (λ r. r.place) o in
    let old = c.args.self.now.routes in
    put_first place _ (get same_endpoint old p) (same_endpoint c.args.endpoint p) _ _ (c.in_ok-insert.ensures.updates.0 p)
    (λ same. c.or.ensures ∙ ap (λ o. option_or o (Some c.args.place)) (c.route-known.ensures.place ∙ ap place (same_route old c.args.endpoint p same)))
