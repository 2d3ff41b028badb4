use Rattle.walk_lookup.proofs.Names.{◌≡◌, ◌-◌, ◌∙◌, ℕ, List, [], ◌∷◌, Option, Some, None, length, refl, sym, ap, arith, slice_get, last_or, last_of}
use Rattle.std.specs.Option.{option_copied}
use Rattle.walk_lookup.proofs.answered.last_of.Goals as goal

-- the last stands before the end
last-at : (o : Option ℕ) (x : ℕ) (xs : List ℕ) → last_or o (x ∷ xs) ≡ slice_get (x ∷ xs) (length xs)
last-at o x [] = refl
last-at o x (y ∷ ys) = last-at (Some x) y ys

last-copied : (xs : List ℕ) (n : ℕ) → Some n ≡ slice_get xs (length xs - 1) → n ≡ last_of xs
last-copied [] n h = cc
last-copied (x ∷ xs) n h =
    let one : length (x ∷ xs) - 1 ≡ length xs = omega arith in
    let at : last_or None (x ∷ xs) ≡ Some n = last-at None x xs ∙ sym (h ∙ ap (slice_get (x ∷ xs)) one) in
    rw (at, last_of) refl

pub returns-in-Some : goal.returns-in-Some
returns-in-Some c = last-copied c.args.numbers.now c.in-Some.number.now (sym (ap option_copied c.in-Some.is) ∙ c.last.ensures.value)
