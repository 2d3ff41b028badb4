-- Names: what is read is spelled so, in bytes that no line is cut at.
use Rattle.std.proofs.Common.{◌≡◌, ℕ, ◌-◌, Bool, true, false, cond, not, ◌&&◌, eqb, ltb, List, [], ◌∷◌, ◌++◌, length, take, drop, Option, Some, None, Result, Ok, Err, refl, sym, ap, subst, ◌∙◌, append_assoc, arith, inl, inr, ◌⊎◌}
use Rattle.std.specs.List.{list_all}
use Rattle.std.specs.Result.{result_ok}
use Rattle.std.proofs.lemmas.Bool.{eqb-true, and_parts}
use Rattle.std.proofs.lemmas.List.{append-nil, nil_from_length}
use Rattle.dns_core.specs.Name.{DomainName}
use Rattle.dns_core.specs.declared.name_text.NameError.{NameError}
use Rattle.dns_core.specs.declared.name_text.NameError.TheVariants.{LongName}
use Rattle.dns_core.specs.NameText.{pieces_from, is_allowed, label_fault, first_fault, wire_length, is_dotted, labels_of, checked, is_dot, name_of, dotted, text_of}
use Rattle.dns_core.specs.NameText.{pieces as labels_in}
use Rattle.text_lines.specs.Names.{relaxed_name}
use Rattle.text_lines.proofs.StepsThatFail.{some_is}
use Rattle.text_lines.proofs.PlainLaws.{AllBytes, append_plain, weaker}
use Rattle.text_lines.proofs.NumberLaws.{is_word_byte}

-- ---- the text of what was read

cons_step : (t : Bool) (begun : List ℕ) (s r : List (List ℕ)) → ((w : List ℕ) × (ws : List (List ℕ)) × (r ≡ w ∷ ws)) → (w : List ℕ) × (ws : List (List ℕ)) × (cond t (begun ∷ s) r ≡ w ∷ ws)
cons_step true begun s r some = (begun, s, refl)
cons_step false begun s r some = some

pieces_cons : (begun bs : List ℕ) → (w : List ℕ) × (ws : List (List ℕ)) × (pieces_from begun bs ≡ w ∷ ws)
pieces_cons begun [] = (begun, [], refl)
pieces_cons begun (b ∷ bs) = cons_step (eqb b 46) begun (pieces_from [] bs) (pieces_from (begun ++ b ∷ []) bs) (pieces_cons (begun ++ b ∷ []) bs)

dotted_cons : (l : List ℕ) (ls : List (List ℕ)) → ((w : List ℕ) × (ws : List (List ℕ)) × (ls ≡ w ∷ ws)) → dotted (l ∷ ls) ≡ l ++ 46 ∷ dotted ls
dotted_cons l ls some = ap (λ (x : List (List ℕ)). dotted (l ∷ x)) some.2 ∙ sym (ap (λ (x : List (List ℕ)). l ++ 46 ∷ dotted x) some.2)

dotted_step : (t : Bool) (begun : List ℕ) (b : ℕ) (bs : List ℕ) → (t ≡ true → b ≡ 46) → dotted (pieces_from [] bs) ≡ bs → dotted (pieces_from (begun ++ b ∷ []) bs) ≡ (begun ++ b ∷ []) ++ bs
    → dotted (cond t (begun ∷ pieces_from [] bs) (pieces_from (begun ++ b ∷ []) bs)) ≡ begun ++ b ∷ bs
dotted_step true begun b bs is shut more = dotted_cons begun (pieces_from [] bs) (pieces_cons [] bs) ∙ ap (λ (r : List ℕ). begun ++ 46 ∷ r) shut ∙ ap (λ (c : ℕ). begun ++ c ∷ bs) (sym (is refl))
dotted_step false begun b bs is shut more = more ∙ append_assoc begun (b ∷ []) bs

-- the pieces with their dots are the text
dotted_pieces : (begun bs : List ℕ) → dotted (pieces_from begun bs) ≡ begun ++ bs
dotted_pieces begun [] = sym (append-nil begun)
dotted_pieces begun (b ∷ bs) = dotted_step (eqb b 46) begun b bs (λ e. eqb-true b 46 e) (dotted_pieces [] bs) (dotted_pieces (begun ++ b ∷ []) bs)

abbrev is_nil : List ℕ → Bool
is_nil p = eqb (length p) 0

-- a last piece that is empty
last_nil : (x : List ℕ) (xs : List (List ℕ)) → list_all is_nil (drop (length xs) (x ∷ xs)) ≡ true → x ∷ xs ≡ take (length xs) (x ∷ xs) ++ [] ∷ []
last_nil x [] e = let p = and_parts (is_nil x) true e in ap (λ (l : List ℕ). l ∷ []) (nil_from_length x (eqb-true _ _ p.0))
last_nil x (y ∷ ys) e = ap (λ (l : List (List ℕ)). x ∷ l) (last_nil y ys e)

one_less : (x : List ℕ) (xs : List (List ℕ)) → length (x ∷ xs) - 1 ≡ length xs
one_less x xs = omega arith

dot_after : (x : List ℕ) (xs : List (List ℕ)) → dotted ((x ∷ xs) ++ [] ∷ []) ≡ dotted (x ∷ xs) ++ 46 ∷ []
dot_after x [] = refl
dot_after x (y ∷ ys) = ap (λ (r : List ℕ). x ++ 46 ∷ r) (dot_after y ys) ∙ sym (append_assoc x (46 ∷ dotted (y ∷ ys)) (46 ∷ []))

-- the labels of pieces with an empty one at their end, and the final dot
qualified : (ps : List (List ℕ)) → is_dotted ps ≡ true → dotted (take (length ps - 1) ps) ++ 46 ∷ [] ≡ dotted ps
qualified [] e = absurd cc
qualified (x ∷ []) e = absurd cc
qualified (x ∷ y ∷ ys) e =
    let p = and_parts (ltb 1 (length (x ∷ y ∷ ys))) (list_all is_nil (drop (length (x ∷ y ∷ ys) - 1) (x ∷ y ∷ ys))) e in
    let less = one_less x (y ∷ ys) in
    let empty : list_all is_nil (drop (length (y ∷ ys)) (x ∷ y ∷ ys)) ≡ true = ap (λ (n : ℕ). list_all is_nil (drop n (x ∷ y ∷ ys))) (sym less) ∙ p.1 in
    let last = last_nil x (y ∷ ys) empty in
    ap (λ (n : ℕ). dotted (take n (x ∷ y ∷ ys)) ++ 46 ∷ []) less ∙ sym (dot_after x (take (length ys) (y ∷ ys))) ∙ ap dotted (sym last)

text_step : (t : Bool) (ps : List (List ℕ)) → is_dotted ps ≡ t → text_of (record { labels = cond t (take (length ps - 1) ps) ps; fqdn = t }) ≡ dotted ps
text_step true ps e = qualified ps e
text_step false ps e = append-nil (dotted ps)

abbrev ok : DomainName → Result DomainName NameError
ok n = Ok n

ok_is : (m n : DomainName) → ok m ≡ ok n → m ≡ n
ok_is m n e = cc

abbrev err : NameError → Result DomainName NameError
err e = Err e

checked_takes : (f : Option NameError) (long : Bool) (m n : DomainName) → elim f [ Some e ↦ err e | None ↦ cond long (err LongName) (ok m) ] ≡ ok n → (f ≡ None) × (long ≡ false) × (m ≡ n)
checked_takes (Some f) long m n e = absurd cc
checked_takes None true m n e = absurd cc
checked_takes None false m n e = (refl, refl, ok_is m n e)

dot_is : (w : List ℕ) → is_dot w ≡ true → w ≡ 46 ∷ []
dot_is [] e = absurd cc
dot_is (b ∷ []) e = ap (λ (c : ℕ). c ∷ []) (eqb-true b 46 e)
dot_is (b ∷ c ∷ bs) e = absurd cc

ok_chosen : (b : Bool) (m n : DomainName) (r : Result DomainName NameError) → cond b (ok m) r ≡ ok n → ((b ≡ true) × (m ≡ n)) ⊎ ((b ≡ false) × (r ≡ ok n))
ok_chosen true m n r e = inl (refl, ok_is m n e)
ok_chosen false m n r e = inr (refl, e)

abbrev root_name : DomainName
root_name = record { labels = []; fqdn = true }

abbrev read_labels : List ℕ → DomainName
read_labels w = record { labels = labels_of (labels_in w); fqdn = is_dotted (labels_in w) }

-- a name is read from its text alone
pub name_takes : (strict : Bool) (w : List ℕ) (n : DomainName) → name_of strict w ≡ Ok n → w ≡ text_of n
name_takes strict w n e = elim (ok_chosen (is_dot w) root_name n (checked strict (labels_of (labels_in w)) (is_dotted (labels_in w))) e) [
  | inl h ↦ dot_is w h.0 ∙ ap text_of h.1
  | inr h ↦
      let c = checked_takes (first_fault strict (labels_of (labels_in w))) (ltb 255 (wire_length (labels_of (labels_in w)))) (read_labels w) n h.1 in
      sym (dotted_pieces [] w) ∙ sym (text_step (is_dotted (labels_in w)) (labels_in w) refl) ∙ ap text_of c.2
]

-- and its text is read again
pub name_again : (strict : Bool) (w : List ℕ) (n : DomainName) → name_of strict w ≡ Ok n → name_of strict (text_of n) ≡ Ok n
name_again strict w n e = ap (name_of strict) (sym (name_takes strict w n e)) ∙ e

-- ---- the bytes of a text

abbrev some_error : NameError → Option NameError
some_error e = Some e

passed : (b : Bool) (e : NameError) (r : Option NameError) → cond b (some_error e) r ≡ None → (b ≡ false) × (r ≡ None)
passed true e r h = absurd cc
passed false e r h = (refl, h)

not_false : (b : Bool) → not b ≡ false → b ≡ true
not_false true e = refl
not_false false e = absurd cc

abbrev first_of : Option NameError → Option NameError → Option NameError
first_of f r = elim f [ Some e ↦ Some e | None ↦ r ]

no_fault : (f r : Option NameError) → first_of f r ≡ None → (f ≡ None) × (r ≡ None)
no_fault (Some e) r h = absurd cc
no_fault None r h = (refl, h)

label_plain : (l : List ℕ) → label_fault false l ≡ None → AllBytes (is_allowed false) l
label_plain l e =
    let a = passed _ _ _ e in
    let b = passed _ _ _ a.1 in
    not_false _ b.0

is_plain : (x : ℕ) → is_allowed false x ≡ true → is_word_byte x ≡ true
is_plain x e =
    let a = and_parts (ltb 32 x && ltb x 127 && not (eqb x 92)) (not (eqb x 46)) e in
    let b = and_parts (ltb 32 x && ltb x 127) (not (eqb x 92)) a.0 in
    b.0

dotted_plain : (ls : List (List ℕ)) → first_fault false ls ≡ None → AllBytes is_word_byte (dotted ls)
dotted_plain [] e = refl
dotted_plain (l ∷ []) e = weaker _ _ l is_plain (label_plain l (no_fault _ _ e).0)
dotted_plain (l ∷ m ∷ ls) e =
    let f = no_fault (label_fault false l) (first_fault false (m ∷ ls)) e in
    append_plain is_word_byte l (46 ∷ dotted (m ∷ ls)) (weaker _ _ l is_plain (label_plain l f.0)) (dotted_plain (m ∷ ls) f.1)

dot_plain : (b : Bool) → AllBytes is_word_byte (cond b (46 ∷ []) [])
dot_plain true = refl
dot_plain false = refl

text_plain : (n : DomainName) → first_fault false n.labels ≡ None → AllBytes is_word_byte (text_of n)
text_plain n e = append_plain is_word_byte (dotted n.labels) _ (dotted_plain n.labels e) (dot_plain n.fqdn)

pub name_plain : (w : List ℕ) (n : DomainName) → name_of false w ≡ Ok n → AllBytes is_word_byte (text_of n)
name_plain w n e = elim (ok_chosen (is_dot w) root_name n (checked false (labels_of (labels_in w)) (is_dotted (labels_in w))) e) [
  | inl h ↦ subst (λ (m : DomainName). AllBytes is_word_byte (text_of m)) h.1 refl
  | inr h ↦
      let c = checked_takes (first_fault false (labels_of (labels_in w))) (ltb 255 (wire_length (labels_of (labels_in w)))) (read_labels w) n h.1 in
      text_plain n (subst (λ (m : DomainName). first_fault false m.labels ≡ None) c.2 c.0)
]

-- ---- words that are names

pub relaxed_takes : (w : List ℕ) (n : DomainName) → relaxed_name w ≡ Some n → name_of false w ≡ Ok n
relaxed_takes w n e = given (name_of false w) n e
  where
    given : (r : Result DomainName NameError) (n : DomainName) → result_ok r ≡ Some n → r ≡ Ok n
    given (Ok m) n e = let is : m ≡ n = some_is m n e in ap ok is
    given (Err f) n e = absurd cc

pub relaxed_again : (w : List ℕ) (n : DomainName) → name_of false w ≡ Ok n → relaxed_name w ≡ Some n
relaxed_again w n e = rw e refl
