-- What a map has at a key after a value was put under another.
use Rattle.std.proofs.Common.{◌≡◌, ℕ, List, [], length, Bool, true, false, cond, Option, Some, None, refl, ap, ◌∙◌, sym}
use Rattle.std.specs.Option.{option_or, option_map_or}
use Rattle.std.specs.HashMap.{HashMap, get}
use Rattle.std.specs.HashMap.Eq.{lookup_congr}
use Rattle.script_upstream.specs.Keys.{same_endpoint, same_asking}
use Rattle.script_upstream.specs.Index.{advanced}
use Rattle.script_upstream.specs.declared.courses.index.Turns.{Turns}
use Rattle.script_upstream.specs.declared.courses.index.Endpoint.{Endpoint}
use Rattle.script_upstream.specs.declared.courses.index.Asking.{Asking}
use Rattle.script_upstream.specs.contracts.courses.index.AskingEq.TheImpl.Laws as asking
use Rattle.script_upstream.specs.contracts.courses.index.EndpointEq.TheImpl.Laws as endpoint

abbrev pub places_of : Option Turns → List ℕ
places_of o = option_map_or (λ t. t.places) o []

abbrev pub used_of : Option Turns → ℕ
used_of o = option_map_or (λ t. t.used) o 0

-- equal keys have one value
pub same_turns : {X S : Type 0} (m : HashMap Asking X S) (k q : Asking) → same_asking k q ≡ true → get same_asking m k ≡ get same_asking m q
same_turns m k q h = lookup_congr same_asking asking.laws-law.congr m.entries k q h

pub same_route : {X S : Type 0} (m : HashMap Endpoint X S) (k q : Endpoint) → same_endpoint k q ≡ true → get same_endpoint m k ≡ get same_endpoint m q
same_route m k q h = lookup_congr same_endpoint endpoint.laws-law.congr m.entries k q h

-- at the key it is x, and at the others as before
pub put : {T X : Type 0} (f : Option T → X) (new mid old : Option T) (b : Bool) (t : T) (x : X) → new ≡ cond b (Some t) mid → (b ≡ true → f (Some t) ≡ x) → (b ≡ false → mid ≡ old) → f new ≡ cond b x (f old)
put f new mid old true t x e here apart = ap f e ∙ here refl
put f new mid old false t x e here apart = ap f (e ∙ apart refl)

pub put_same : {T X : Type 0} (f : Option T → X) (new mid old : Option T) (b : Bool) (t : T) → new ≡ cond b (Some t) mid → (b ≡ true → f (Some t) ≡ f old) → (b ≡ false → mid ≡ old) → f new ≡ f old
put_same f new mid old true t e here apart = ap f e ∙ here refl
put_same f new mid old false t e here apart = ap f (e ∙ apart refl)

-- the first of two
pub put_first : {T X : Type 0} (f : Option T → Option X) (new old : Option T) (b : Bool) (t : T) (x : X) → new ≡ cond b (Some t) old → (b ≡ true → f (Some t) ≡ option_or (f old) (Some x)) → f new ≡ option_or (f old) (cond b (Some x) None)
put_first f new old true t x e here = ap f e ∙ here refl
put_first f new old false t x e here = ap f e ∙ sym (or_none (f old))
  where
    or_none : {X : Type 0} (o : Option X) → option_or o None ≡ o
    or_none None = refl
    or_none (Some x) = refl

-- the turns of a question, as they are left
abbrev pub Leaves : {S : Type 0} → HashMap Asking Turns S → HashMap Asking Turns S → Asking → Turns → Turns → Type 0
Leaves old new k found left = (Some found ≡ get same_asking old k) × ((a : Asking) → get same_asking new a ≡ cond (same_asking k a) (Some left) (get same_asking old a))

pub places_left : {S : Type 0} (old new : HashMap Asking Turns S) (k : Asking) (found left : Turns) → Leaves old new k found left → left.places ≡ found.places → (a : Asking) → places_of (get same_asking new a) ≡ places_of (get same_asking old a)
places_left old new k found left h same = λ a.
    put_same places_of _ (get same_asking old a) (get same_asking old a) (same_asking k a) left (h.1 a)
    (λ alike. same ∙ ap places_of (h.0 ∙ same_turns old k a alike))
    (λ apart. refl)

pub used_left : {S : Type 0} (old new : HashMap Asking Turns S) (k : Asking) (found left : Turns) → Leaves old new k found left → left.used ≡ found.used → (a : Asking) → used_of (get same_asking new a) ≡ used_of (get same_asking old a)
used_left old new k found left h same = λ a.
    put_same used_of _ (get same_asking old a) (get same_asking old a) (same_asking k a) left (h.1 a)
    (λ alike. same ∙ ap used_of (h.0 ∙ same_turns old k a alike))
    (λ apart. refl)

pub used_up : {S : Type 0} (old new : HashMap Asking Turns S) (k : Asking) (found left : Turns) → Leaves old new k found left → left.used ≡ advanced (length found.places) found.used
    → (a : Asking) → used_of (get same_asking new a) ≡ cond (same_asking k a) (advanced (length (places_of (get same_asking old a))) (used_of (get same_asking old a))) (used_of (get same_asking old a))
used_up old new k found left h same = λ a.
    put used_of _ (get same_asking old a) (get same_asking old a) (same_asking k a) left _ (h.1 a)
    (λ alike. same ∙ ap (λ o. advanced (length (places_of o)) (used_of o)) (h.0 ∙ same_turns old k a alike))
    (λ apart. refl)

-- a question without lines uses none up
pub none_used : (o : Option Turns) (b : Bool) → (b ≡ true → o ≡ None) → used_of o ≡ cond b (advanced (length (places_of o)) (used_of o)) (used_of o)
none_used o true h = ap used_of (h refl) ∙ sym (ap (λ o. advanced (length (places_of o)) (used_of o)) (h refl))
none_used o false h = refl
