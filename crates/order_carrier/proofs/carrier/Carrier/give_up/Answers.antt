use Rattle.std.proofs.Common.{Bool, true, false, cond, ◌≡◌, ℕ, Option, Some, None, refl, sym, ◌∙◌, subst}
use Rattle.std.specs.Prelude.{IsSome, is_some, if◌then◌else◌}
use Rattle.std.proofs.lemmas.Option.{same_Some}
use Rattle.order_carrier.specs.Did.{Stand, order_in}
use Rattle.order_carrier.specs.GivingUp.{open_key, GivesUp}
use Rattle.order_carrier.specs.Stand.{stand_at}
use Rattle.order_carrier.specs.declared.key.Form.TheVariants as form
use Rattle.order_carrier.specs.declared.key.OrderKey.{OrderKey}
use Rattle.order_carrier.proofs.OrderByCallParts.{gives-up-holds}
use Rattle.order_carrier.proofs.carrier.Carrier.give_up.Goals as goal

-- the first of two under which one is under way
first-open : (stands : OrderKey → Stand) (a key : OrderKey) (rest : Option OrderKey) (b : Bool) → is_some (order_in (stands a)) ≡ b → Some key ≡ cond b (Some a) rest
    → (Some key ≡ rest → IsSome (order_in (stands key))) → IsSome (order_in (stands key))
first-open stands a key rest true going is other = subst (λ (k : OrderKey). IsSome (order_in (stands k))) (sym (same_Some _ _ is)) going
first-open stands a key rest false going is other = other is

-- an order is under way under the key that was found
is-open : (stands : OrderKey → Stand) (number : ℕ) (key : OrderKey) → Some key ≡ open_key stands number → IsSome (order_in (stands key))
is-open stands number key is =
    let opening : OrderKey = record { number = number; form = form.Open } in
    let ask : OrderKey = record { number = number; form = form.Ask } in
    let sleep : OrderKey = record { number = number; form = form.Sleep } in
    let last : Option OrderKey = if is_some (order_in (stands sleep)) then Some sleep else None in
    let later : Option OrderKey = if is_some (order_in (stands ask)) then Some ask else last in
    first-open stands opening key later (is_some (order_in (stands opening))) refl is
    (λ is. first-open stands ask key last (is_some (order_in (stands ask))) refl is (λ is. first-open stands sleep key None (is_some (order_in (stands sleep))) refl is (λ is. cc)))

pub give_up_at-requires-clause-open : goal.give_up_at-requires-clause-open
give_up_at-requires-clause-open g c = is-open (stand_at c.args.self.now.slots) c.args.number c.in-Some.key c.in-Some.ensures

pub returns-in-Some-clause-gives_up : goal.returns-in-Some-clause-gives_up
returns-in-Some-clause-gives_up g c key is =
    subst (λ (k : OrderKey). GivesUp k c.args.now c.args.self.now c.give_up_at.new.self) (same_Some _ _ (c.in-Some.ensures ∙ is)) c.give_up_at.ensures.gives_up

pub returns-in-Some-clause-holds : goal.returns-in-Some-clause-holds
returns-in-Some-clause-holds g c =
    gives-up-holds g.P.ConnectionProvider c.in-Some.key c.args.now c.args.self.now c.give_up_at.new.self c.requires c.give_up_at.ensures.gives_up
