-- Known bytes that are taken or added, one part after another.
use Rattle.std.proofs.Common.{◌≡◌, ℕ, ◌+◌, ◌-◌, ◌≤◌, arith, length, length-append, length-take, take, drop, List, ◌++◌, Some, None, sym, ap, ◌∙◌, append_assoc}
use Rattle.std.specs.declared.option.Option.{Option}
use Rattle.std.specs.Io.KnownBytes.{Consumes, Appends}
use Rattle.std.proofs.lemmas.List.{take-append-drop, take_rest}
use Rattle.dns_core.specs.WholeStreams.{TakesPart, TakesAtMost}

pub consumes_then : (a b c : Option (List ℕ)) (x y : List ℕ) → Consumes a b x → Consumes b c y → Consumes a c (x ++ y)
consumes_then None b c x y p q = tt
consumes_then (Some u) None c x y p q = absurd p
consumes_then (Some u) (Some v) None x y p q = absurd q
consumes_then (Some u) (Some v) (Some w) x y p q = p ∙ ap (λ (r : List ℕ). x ++ r) q ∙ sym (append_assoc x y w)

pub takes_then : (a b c : Option (List ℕ)) (x y : List ℕ) → Consumes a b x → Consumes b c y → TakesPart a c
takes_then a b c x y p q = (x ++ y, consumes_then a b c x y p q)

pub at_most_then : (a b c : Option (List ℕ)) (x z : List ℕ) (n most : ℕ) → Consumes a b x → Consumes b c (take n z) → length x + n ≤ most → TakesAtMost most a c
at_most_then a b c x z n most p q few = (x ++ take n z, consumes_then a b c x (take n z) p q, omega (arith, length-append x (take n z), length-take n z, few))

pub appends_then : (a b c : Option (List ℕ)) (x y : List ℕ) → Appends a b x → Appends b c y → Appends a c (x ++ y)
appends_then None b c x y p q = tt
appends_then (Some u) None c x y p q = absurd p
appends_then (Some u) (Some v) None x y p q = absurd q
appends_then (Some u) (Some v) (Some w) x y p q = q ∙ ap (λ (r : List ℕ). r ++ y) p ∙ append_assoc u x y

pub advanced : (a b c : Option (List ℕ)) (text rest : List ℕ) (n : ℕ) → (part : List ℕ) × (text ≡ part ++ rest) × Appends a b part → Appends b c (take n rest)
    → (part : List ℕ) × (text ≡ part ++ take (length rest - n) (drop n rest)) × Appends a c part
advanced a b c text rest n front more =
    let split : rest ≡ take n rest ++ take (length rest - n) (drop n rest) = sym (take-append-drop n rest) ∙ ap (λ (r : List ℕ). take n rest ++ r) (sym (take_rest rest n)) in (
      front.0 ++ take n rest,
      front.1 ∙ ap (λ (r : List ℕ). front.0 ++ r) split ∙ sym (append_assoc front.0 (take n rest) (take (length rest - n) (drop n rest))),
      appends_then a b c front.0 (take n rest) front.2 more,
    )
