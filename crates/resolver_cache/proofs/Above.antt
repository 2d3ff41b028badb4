-- The number after the last one is above all.
use Rattle.std.proofs.Common.{◌≡◌, ◌<◌, ◌≤◌, ◌+◌, ℕ, false, List, [], ◌∷◌, Option, Some, None, arith}
use Rattle.std.specs.Prelude.{IfSome}
use Rattle.std.specs.List.{All}
use Rattle.std.specs.Map.{keys_of}
use Rattle.std.specs.Option.{SomeIff}
use Rattle.std.specs.Ordering.{nat_cmp, is_lt}
use Rattle.std.proofs.lemmas.Map.Keys.{ge_from_not_lt}
use Rattle.std.proofs.lemmas.List.Elements.{All-head, All-tail}
use Rattle.kept_responses.specs.declared.entry.Entry.{Entry}
use Rattle.resolver_cache.specs.Writings.{AreBelow}

all_below : (es : List (ℕ × Entry)) (last n : ℕ) → n ≡ last + 1 → All (λ q. is_lt (nat_cmp last q) ≡ false) (keys_of es) → AreBelow n es
all_below [] last n next h = tt
all_below (e ∷ es) last n next h =
    let below : e.0 ≤ last = ge_from_not_lt last e.0 (All-head (λ q. is_lt (nat_cmp last q) ≡ false) e.0 (keys_of es) h) in
    (omega (arith, below, next), all_below es last n next (All-tail (λ q. is_lt (nat_cmp last q) ≡ false) e.0 (keys_of es) h))

pub above_last : (o : Option ℕ) (es : List (ℕ × Entry)) (last : ℕ) → SomeIff o (last + 1 < 18446744073709551616) (last + 1) → All (λ q. is_lt (nat_cmp last q) ≡ false) (keys_of es) → IfSome o (λ n. AreBelow n es)
above_last (Some n) es last made h = all_below es last n made.1 h
above_last None es last made h = tt
