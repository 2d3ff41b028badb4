use Rattle.walk_tables.proofs.Names.{refl, ap, ◌∙◌, after_leave, Shared}
use Rattle.walk_tables.proofs.LookupsAfterStep.{pools-forgotten, pools-left}
use Rattle.walk_tables.proofs.pools.Pools.leave.Goals as goal

pub returns : goal.returns
returns c = record {
  holds = λ view h.
      let n = c.args.lookup.number in
      let mid = c.forget.new.self in
      let forgotten = rw c.number.ensures at c.forget.ensures in
      pools-left view n mid _ (record { left = c.leave.ensures.left; last = c.leave.ensures.last; numbers = refl; delays = refl; sought = λ m. refl }) forgotten.none
      (pools-forgotten view n c.args.self.now mid forgotten h);
  given = ap (λ (shared : Shared). shared.given) (c.leave.ensures.left) ∙ ap (λ (shared : Shared). shared.given) c.forget.ensures.same.shared;
  gone =
      let n = c.args.lookup.number in
      let forgotten = rw c.number.ensures at c.forget.ensures in
      record {
        left = c.leave.ensures.left ∙ ap (λ (shared : Shared). let left : Shared = record shared { lookups = after_leave n shared.lookups } in left) forgotten.same.shared;
        numbers = forgotten.same.numbers;
        delays = forgotten.same.delays;
        none = forgotten.none;
        others = forgotten.others;
      };
}
