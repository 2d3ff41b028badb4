-- How much is left to do in a run.
use Rattle.recursor_core.proofs.Names.{◌≡◌, ◌≤◌, ◌<◌, ◌+◌, ◌-◌, ◌*◌, ◌^◌, ◌∙◌, ℕ, Bool, true, false, Option, Some, None, Result, Ok, Err, OnOk, MatchBool, refl, sym, ap, arith, BTreeSet, contains, nat_cmp, IsSome, NoMemory}
use Rattle.recursor_core.specs.Turns.{due_of}
use Rattle.std.proofs.Math.Nat.{mul-le-mul_left}

-- a number less outweighs all polls of an order, and its end
less_left : (most s t x y : ℕ) → t + 1 ≤ s → x ≤ y + (most + 1) → (most + 2) * t + x < (most + 2) * s + y
less_left most s t x y h l = let m = mul-le-mul_left (most + 2) h in omega (arith, m)

no_more_left : (most s t x y : ℕ) → t ≤ s → x ≤ y → (most + 2) * t + x ≤ (most + 2) * s + y
no_more_left most s t x y h l = let m = mul-le-mul_left (most + 2) h in omega (arith, m)

-- an order that was given leaves less to do, with all its polls
pub due_order : (most before given x : ℕ) → given ≡ before + 1 → given < 2 ^ 64 → due_of most given x + (most + 1) < due_of most before x
unfolding due_of
due_order most before given x next few =
    let m = less_left most (2 ^ 64 - before) (2 ^ 64 - given) (x + (most + 1)) x (omega arith) (omega arith) in omega (arith, m)

-- where no number comes back and no poll is added, no more is left
pub due_later : (most before given x y : ℕ) → before ≤ given → x ≤ y → due_of most given x ≤ due_of most before y
unfolding due_of
due_later most before given x y h l = no_more_left most (2 ^ 64 - before) (2 ^ 64 - given) x y (omega arith) l

-- a poll less is less to do
pub due_polled : (most before given x y : ℕ) → before ≤ given → x < y → due_of most given x < due_of most before y
unfolding due_of
due_polled most before given x y h l = let m = no_more_left most (2 ^ 64 - before) (2 ^ 64 - given) x x (omega arith) (omega arith) in omega (arith, m)

-- the polls that are added
pub due_more : (most given x y more : ℕ) → x ≤ y + more → due_of most given x ≤ due_of most given y + more
unfolding due_of
due_more most given x y more l = omega arith

-- whatever it came to
pub on_ok_below : {T : Type 0} (result : Result T NoMemory) (new mid old : ℕ) → new ≤ mid → mid < old → OnOk result (new < old)
on_ok_below (Ok t) new mid old h le = omega arith
on_ok_below (Err e) new mid old h le = tt

-- what is so where some order was polled, and where none was
pub was_some : (some : Bool) (P Q : Type 0) → some ≡ true → MatchBool some P Q → P
was_some true P Q is h = h
was_some false P Q is h = cc

pub was_none : (some : Bool) (P Q : Type 0) → some ≡ false → MatchBool some P Q → Q
was_none true P Q is h = cc
was_none false P Q is h = h

-- an order that is waited for was polled, where all were; so it is among those that were
pub polled_all : (awaited : Option ℕ) (old new : BTreeSet ℕ) → IsSome awaited → new ≡ old → ((number : ℕ) → awaited ≡ Some number → contains nat_cmp new number ≡ true)
    → ((number : ℕ) → contains nat_cmp old number ≡ false) → ⊥
polled_all None old new some same all none = cc
polled_all (Some number) old new some same all none =
    let wrong : true ≡ false = sym (all number refl) ∙ ap (λ (s : BTreeSet ℕ). contains nat_cmp s number) same ∙ none number in cc
