-- An index of one line more.
use Rattle.std.proofs.Common.{◌≡◌, ℕ, Bool, true, false, cond, ◌||◌, List, [], ◌∷◌, ◌++◌, map, filter, find, Option, Some, None, slice_get, refl, ap, ◌∙◌, sym}
use Rattle.std.specs.Option.{option_map, option_or}
use Rattle.std.proofs.lemmas.List.{map-append, append-nil}
use Rattle.std.proofs.lemmas.List.Elements.{filter-append}
use Rattle.std.proofs.lemmas.List.Folds.{list_any-append, find-append}
use Rattle.script_upstream.specs.Giving.{replies, refuses, connects}
use Rattle.script_upstream.specs.Index.{IsIndexed, AddsLine, places_at, place_at}
use Rattle.script_upstream.specs.declared.script.script.ScriptLine.{ScriptLine}
use Rattle.script_upstream.specs.declared.courses.index.Index.{Index}

replying_more : {L : Type 0} (g : ℕ → Option L) (p : Bool) (ps : List ℕ) (fs : List L) (i : ℕ) (x : L) → g i ≡ Some x → map g ps ≡ map Some fs → map g (cond p (ps ++ i ∷ []) ps) ≡ map Some (fs ++ cond p (x ∷ []) [])
replying_more g true ps fs i x e h = map-append g ps (i ∷ []) ∙ ap (λ y. map g ps ++ y ∷ []) e ∙ ap (λ ys. ys ++ Some x ∷ []) h ∙ sym (map-append Some fs (x ∷ []))
replying_more g false ps fs i x e h = h ∙ sym (ap (map Some) (append-nil fs))

or_false : (a b : Bool) → (a || b) ≡ (a || (b || false))
or_false true b = refl
or_false false true = refl
or_false false false = refl

connecting_more : {L : Type 0} (g : ℕ → Option L) (b : Bool) (o : Option ℕ) (f : Option L) (i : ℕ) (x : L) → g i ≡ Some x → option_map g o ≡ option_map Some f → option_map g (option_or o (cond b (Some i) None)) ≡ option_map Some (option_or f (cond b (Some x) None))
connecting_more g b (Some j) (Some y) i x e h = h
connecting_more g true None None i x e h = ap Some e
connecting_more g false None None i x e h = refl
connecting_more g b (Some j) None i x e h = cc
connecting_more g b None (Some y) i x e h = cc

pub indexed_more : (lines seen : List ScriptLine) (old new : Index) (x : ScriptLine) (i : ℕ) → IsIndexed lines seen old → AddsLine old new x i → slice_get lines i ≡ Some x → IsIndexed lines (seen ++ x ∷ []) new
indexed_more lines seen old new x i h adds e = record {
  replying = λ a. ap (map (slice_get lines)) (adds.places a) ∙ replying_more (slice_get lines) (replies a x) (places_at old a) (filter (replies a) seen) i x e (h.replying a) ∙ sym (ap (map Some) (filter-append (replies a) seen (x ∷ [])));
  refusing = λ p. adds.refused p ∙ ap (λ b. b || refuses p x) (h.refusing p) ∙ or_false _ _ ∙ sym (list_any-append (refuses p) seen (x ∷ []));
  connecting = λ p. ap (option_map (slice_get lines)) (adds.place_of p) ∙ connecting_more (slice_get lines) (connects p x) (place_at old p) (find (connects p) seen) i x e (h.connecting p) ∙ sym (ap (option_map Some) (find-append (connects p) seen (x ∷ [])));
}
