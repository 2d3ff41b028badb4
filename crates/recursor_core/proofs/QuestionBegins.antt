-- A question begins at its place, and replies are put behind one another.
use Rattle.recursor_core.proofs.MachineWords.{◌≡◌, ◌++◌, ℕ, zero, suc, List, [], ◌∷◌, length, Option, Some, None, refl, subst, slice_get, set, same_Some, slice_get_within, Question, Begins, BeginsIf, BeginsAt, RecursorCore, QuestionState}
use Rattle.recursor_core.proofs.OnePlaceIsSet.{slice_get-set_same}
use Rattle.recursor_core.specs.declared.machine.plays.QuestionState.TheVariants as played

-- a question that waits begins at its place
pub begins_waiting : (questions : List Question) (plays : List QuestionState) (q now : ℕ) (core : RecursorCore) (question : Question) (new : QuestionState)
    → slice_get questions q ≡ Some question → slice_get plays q ≡ Some played.Waiting → Begins question now core new
    → BeginsAt questions q now core (slice_get plays q) (slice_get (set plays q new) q)
begins_waiting questions plays q now core question new asks waits b =
    rw (asks, waits, slice_get-set_same plays q new (slice_get_within plays q played.Waiting waits)) b

-- one that does not wait stays as it is
pub begins_else : (question : Option Question) (now : ℕ) (core : RecursorCore) (old : Option QuestionState) → (old ≡ Some played.Waiting → ⊥)
    → BeginsIf question now core old old
begins_else None now core old ne = refl
begins_else (Some x) now core None ne = refl
begins_else (Some x) now core (Some played.Waiting) ne = absurd (ne refl)
begins_else (Some x) now core (Some (played.Begun r)) ne = refl
begins_else (Some x) now core (Some (played.Answered a)) ne = refl
begins_else (Some x) now core (Some played.Unanswered) ne = refl

-- what holds of each of a list, and of one more at its end
pub each_push : {X : Type 0} (Q : ℕ → X → Type 0) (xs : List X) (y : X) → Q (length xs) y → ((q : ℕ) (x : X) → slice_get xs q ≡ Some x → Q q x)
    → (q : ℕ) (x : X) → slice_get (xs ++ y ∷ []) q ≡ Some x → Q q x
each_push Q [] y here h zero x e = subst (Q 0) (same_Some _ _ e) here
each_push Q [] y here h (suc q) x e = cc
each_push Q (z ∷ xs) y here h zero x e = h zero x e
each_push Q (z ∷ xs) y here h (suc q) x e = each_push (λ k. Q (suc k)) xs y here (λ k. h (suc k)) q x e
