-- The first record of another class, by its place in a section and among the sections.
use Rattle.std.proofs.Common.{◌≡◌, ◌∙◌, ◌≤◌, ℕ, Bool, true, false, cond, List, ◌++◌, length, refl, ap, sym, get_or, slice_get, Option, Some, None, ltb}
use Rattle.std.specs.Prelude.{find}
use Rattle.std.specs.List.{position, position_or_len}
use Rattle.std.specs.Option.{option_or}
use Rattle.std.proofs.lemmas.Option.{slice_get-get_or, slice_get_past}
use borrow.Author.Tests.{ltb-false}
use Rattle.std.proofs.lemmas.List.Folds.{find_at, find-append}
use Rattle.std.proofs.lemmas.List.Quantifiers.{position-Some}
use Rattle.dns_core.specs.declared.record.Record.{Record}
use Rattle.dns_core.specs.declared.message.Message.{Message}
use Rattle.resolution.specs.Records.{records}

some_is : (b : Bool) (n i : ℕ) → cond b (Some n) None ≡ Some i → n ≡ i
some_is true n i h = cc
some_is false n i h = cc

module _ {X : Type 0} (p : X → Bool) where
  -- where the first one stands
  pub placed : (xs : List X) (i : ℕ) (r : X) → position p xs ≡ Some i → r ≡ get_or xs i r → find p xs ≡ Some r
  placed xs i r h e =
      let at = some_is _ (position_or_len p xs) i h in
      let within = (position-Some p xs i r h).0 in
      find_at p xs ∙ ap (slice_get xs) at ∙ slice_get-get_or xs i r within ∙ ap Some (sym e)

  -- where there is none
  nowhere : (xs : List X) (b : Bool) → ltb (position_or_len p xs) (length xs) ≡ b → cond b (Some (position_or_len p xs)) None ≡ None → find p xs ≡ None
  nowhere xs true e h = cc
  nowhere xs false e h =
      let past : length xs ≤ position_or_len p xs = ltb-false _ _ e in
      find_at p xs ∙ slice_get_past xs (position_or_len p xs) past

  pub placed_nowhere : (xs : List X) → position p xs ≡ None → find p xs ≡ None
  placed_nowhere xs h = nowhere xs _ refl h

-- the first of three options
pub first_is : {X : Type 0} (a b c : Option X) (r : X) → a ≡ Some r → option_or (option_or a b) c ≡ Some r
first_is (Some x) b c r h = h
first_is None b c r h = cc

pub second_is : {X : Type 0} (a b c : Option X) (r : X) → a ≡ None → b ≡ Some r → option_or (option_or a b) c ≡ Some r
second_is (Some x) b c r e h = cc
second_is None (Some x) c r e h = h
second_is None None c r e h = cc

pub third_is : {X : Type 0} (a b c : Option X) → a ≡ None → b ≡ None → option_or (option_or a b) c ≡ c
third_is (Some x) b c e f = cc
third_is None (Some x) c e f = cc
third_is None None c e f = refl

pub find_records : (p : Record → Bool) (m : Message) → find p (records m) ≡ option_or (option_or (find p m.answers) (find p m.authorities)) (find p m.additionals)
find_records p m = find-append p (m.answers ++ m.authorities) m.additionals ∙ ap (λ o. option_or o (find p m.additionals)) (find-append p m.answers m.authorities)
