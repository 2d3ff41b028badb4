-- Where pointers lead, as they are kept.
use Rattle.std.proofs.Common.{◌≡◌, ℕ, suc, ◌<◌, List, [], ◌∷◌, ◌++◌, length, drop, Result, Ok, Err, inl, inr, refl, sym, ap, subst, ◌∙◌, arith, length-append}
use Rattle.std.proofs.lemmas.Bool.{cases_lt}
use Rattle.std.proofs.lemmas.List.{get_or_append_left, get_or_push}
use Rattle.wire_names.specs.Kept.{IsEndOf, AreEnds}
use Rattle.wire_names.specs.Reading.{◌>>=◌, Run, run_of, led_of}
use Rattle.wire_names.specs.declared.errors.WireError.{WireError}
use Rattle.wire_names.specs.declared.runs.RunEnd.TheVariants.{Pointer}
use Rattle.wire_names.proofs.Pointers.{from_place, led_below}

-- a pointer to the end leads where the given one does, behind whatever place both are
pub led_same : (message : List ℕ) (n place end : ℕ) → place < n → IsEndOf message place end → led_of n message (Pointer place) ≡ led_of n message (Pointer end)
led_same message n place end lt is =
    let before = is.before in
    led_below n place message lt ∙ sym (led_below (suc place) place message (omega arith)) ∙ sym is.same
    ∙ led_below (suc place) end message (omega (arith, before)) ∙ sym (led_below n end message (omega (arith, before, lt)))

behind_none : (r : Result (List (List ℕ)) WireError) → (r >>= λ others. Ok ([] ++ others)) ≡ r
behind_none (Ok others) = refl
behind_none (Err e) = refl

-- the end of a place at which a pointer stands is the end of that to which it leads
pub pointed_end : (message : List ℕ) (place to end : ℕ) (rest : List ℕ) → to < place → run_of 0 (drop place message) ≡ Ok ([], Pointer to, rest) → IsEndOf message to end → IsEndOf message place end
pointed_end message place to end rest lt read is =
    let before = is.before in
    let here : from_place place message ≡ led_of place message (Pointer to) = ap (λ (r : Result Run WireError). r >>= λ x. led_of place message x.1 >>= λ others. Ok (x.0 ++ others)) read ∙ behind_none (led_of place message (Pointer to)) in
    let there : led_of (suc place) message (Pointer place) ≡ led_of place message (Pointer end) = led_below (suc place) place message (omega arith) ∙ here ∙ led_same message place to end lt is in
    let farther : led_of (suc place) message (Pointer end) ≡ led_of place message (Pointer end) = led_below (suc place) end message (omega (arith, before, lt)) ∙ sym (led_below place end message (omega (arith, before, lt))) in
    record { before = omega (arith, before, lt); same = farther ∙ sym there }

pub ends_same : (message : List ℕ) (before after : List ℕ) → after ≡ before → AreEnds message before → AreEnds message after
ends_same message before after same ends = subst (AreEnds message) (sym same) ends

-- one more end
pub ends_pushed : (message ends : List ℕ) (place end : ℕ) → length ends ≡ place → AreEnds message ends → IsEndOf message place end → AreEnds message (ends ++ end ∷ [])
ends_pushed message ends place end all before here = λ k within.
    elim (cases_lt k (length ends)) [
      | inl lt ↦ subst (IsEndOf message k) (sym (get_or_append_left ends (end ∷ []) 0 k lt)) (before k lt)
      | inr ge ↦
          let last : k ≡ place = omega (arith, all, ge, within, length-append ends (end ∷ [])) in
          rw last (subst (IsEndOf message place) (sym (get_or_push ends end 0 place all)) here)
    ]
