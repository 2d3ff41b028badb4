-- Texts of plain bytes, cut at another byte.
use Rattle.std.proofs.Common.{◌≡◌, ℕ, Bool, true, false, eqb, List, [], ◌∷◌, ◌++◌, refl, sym, ap, ◌∙◌}
use Rattle.std.specs.List.{join_with_byte, list_all}
use Rattle.std.proofs.lemmas.Bool.{eq-eqb, ne_eqb, and_parts}
use Rattle.std.proofs.lemmas.List.Splits.{join_with_byte-slice_split}
use Rattle.text_lines.specs.Pieces.{pieces}

abbrev pub AllBytes : (ℕ → Bool) → List ℕ → Type 0
AllBytes q w = list_all q w ≡ true

unlike : (q : ℕ → Bool) (c x : ℕ) → q c ≡ false → q x ≡ true → eqb x c ≡ false
unlike q c x out inside = ne_eqb x c (λ e. let h : q c ≡ true = rw e at inside in cc)

pub split_last : (q : ℕ → Bool) (c : ℕ) (w : List ℕ) → q c ≡ false → AllBytes q w → pieces c w ≡ w ∷ []
split_last q c [] out all = refl
split_last q c (x ∷ xs) out all =
    let p = and_parts (q x) (list_all q xs) all in
    let differs : eqb x c ≡ false = unlike q c x out p.0 in
    rw (differs, split_last q c xs out p.1) refl

pub split_at_byte : (q : ℕ → Bool) (c : ℕ) (w rest : List ℕ) → q c ≡ false → AllBytes q w → pieces c (w ++ c ∷ rest) ≡ w ∷ pieces c rest
split_at_byte q c [] rest out all = let same : eqb c c ≡ true = eq-eqb c c refl in rw same refl
split_at_byte q c (x ∷ xs) rest out all =
    let p = and_parts (q x) (list_all q xs) all in
    let differs : eqb x c ≡ false = unlike q c x out p.0 in
    rw (differs, split_at_byte q c xs rest out p.1) refl

abbrev pub AllPlain : (ℕ → Bool) → List (List ℕ) → Type 0
AllPlain q [] = Unit {0}
AllPlain q (w ∷ ws) = AllBytes q w × AllPlain q ws

-- plain words, joined, are cut into these words
pub pieces_again : (q : ℕ → Bool) (c : ℕ) (w : List ℕ) (ws : List (List ℕ)) → q c ≡ false → AllPlain q (w ∷ ws) → pieces c (join_with_byte c (w ∷ ws)) ≡ w ∷ ws
pieces_again q c w [] out all = split_last q c w out all.0
pieces_again q c w (v ∷ vs) out all = split_at_byte q c w (join_with_byte c (v ∷ vs)) out all.0 ∙ ap (λ (r : List (List ℕ)). w ∷ r) (pieces_again q c v vs out all.1)

pub pieces_take : (c : ℕ) (bytes : List ℕ) (ws : List (List ℕ)) → pieces c bytes ≡ ws → bytes ≡ join_with_byte c ws
pieces_take c bytes ws e = sym (join_with_byte-slice_split c bytes) ∙ ap (join_with_byte c) e

pub weaker : (p q : ℕ → Bool) (w : List ℕ) → ((x : ℕ) → p x ≡ true → q x ≡ true) → AllBytes p w → AllBytes q w
weaker p q [] h all = refl
weaker p q (x ∷ xs) h all =
    let a = and_parts (p x) (list_all p xs) all in
    rw (h x a.0, weaker p q xs h a.1) refl

pub append_plain : (q : ℕ → Bool) (v w : List ℕ) → AllBytes q v → AllBytes q w → AllBytes q (v ++ w)
append_plain q [] w a b = b
append_plain q (x ∷ xs) w a b = let p = and_parts (q x) (list_all q xs) a in rw (p.0, append_plain q xs w p.1 b) refl

pub joined_plain : (q : ℕ → Bool) (c : ℕ) (ws : List (List ℕ)) → q c ≡ true → AllPlain q ws → AllBytes q (join_with_byte c ws)
joined_plain q c [] inside all = refl
joined_plain q c (w ∷ []) inside all = all.0
joined_plain q c (w ∷ v ∷ vs) inside all = append_plain q w (c ∷ join_with_byte c (v ∷ vs)) all.0 (rw (inside, joined_plain q c (v ∷ vs) inside all.1) refl)
