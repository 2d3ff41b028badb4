-- A text that is read strictly as a name has ASCII alone.
use Rattle.std.proofs.Common.{◌≡◌, ℕ, ◌-◌, ◌<◌, Bool, true, false, cond, not, eqb, ltb, List, [], ◌∷◌, ◌++◌, length, take, drop, Option, Some, None, Result, Ok, Err, refl, sym, subst, arith, IsUtf8}
use Rattle.std.specs.List.{list_all}
use Rattle.std.specs.Str.{IsAscii}
use Rattle.std.specs.Option.{option_or}
use Rattle.std.specs.Result.{result_ok}
use Rattle.std.proofs.lemmas.Bool.{eqb-true, and_parts}
use Rattle.std.proofs.lemmas.Bool.Decides.{nat_tests}
use Rattle.std.proofs.lemmas.List.{nil_from_length, take-append-drop}
use Rattle.std.proofs.lemmas.Str.{IsUtf8-from_ascii}
use Rattle.std.proofs.lemmas.Str.Ascii.{IsAscii-nil, IsAscii-cons}
use Rattle.dns_core.specs.Name.{DomainName}
use Rattle.dns_core.specs.declared.name_text.NameError.{NameError}
use Rattle.dns_core.specs.declared.name_text.NameError.TheVariants.{EmptyLabel, BadByte, LongLabel, LongName}
use Rattle.dns_core.specs.NameText.{pieces_from, pieces, is_allowed, label_fault, first_fault, wire_length, is_dotted, labels_of, checked, is_dot, name_of}
use Rattle.resolver_settings.specs.SearchList.{last_domain, domain_of_host, domain_name, domain_of}

abbrev Low : List ℕ → Type 0
Low [] = Unit {0}
Low (b ∷ bs) = (b < 128) × Low bs

abbrev AllLow : List (List ℕ) → Type 0
AllLow [] = Unit {0}
AllLow (p ∷ ps) = Low p × AllLow ps

low_ascii : (bs : List ℕ) → Low bs → IsAscii bs
low_ascii [] h = IsAscii-nil
low_ascii (b ∷ bs) h = IsAscii-cons b bs h.0 (low_ascii bs h.1)

low_split : (xs ys : List ℕ) → Low (xs ++ ys) → Low xs × Low ys
low_split [] ys h = (tt, h)
low_split (x ∷ xs) ys h = let rest = low_split xs ys h.1 in ((h.0, rest.0), rest.1)

-- ---- the bytes of the labels

byte_low : (b : ℕ) → is_allowed true b ≡ true → b < 128
byte_low b e = grind (arith, nat_tests)

label_low : (label : List ℕ) → list_all (is_allowed true) label ≡ true → Low label
label_low [] e = tt
label_low (b ∷ bs) e = let p = and_parts (is_allowed true b) (list_all (is_allowed true) bs) e in (byte_low b p.0, label_low bs p.1)

no_fault : (empty allowed : Bool) (r : Option NameError) → cond empty (Some EmptyLabel) (cond (not allowed) (Some BadByte) r) ≡ None → allowed ≡ true
no_fault true allowed r e = absurd cc
no_fault false true r e = refl
no_fault false false r e = absurd cc

first_of_two : (fault : Option NameError) (r : Option NameError) → (let both : Option NameError = elim fault [ Some e ↦ Some e | None ↦ r ] in both) ≡ None → (fault ≡ None) × (r ≡ None)
first_of_two None r e = (refl, e)
first_of_two (Some x) r e = absurd cc

labels_low : (labels : List (List ℕ)) → first_fault true labels ≡ None → AllLow labels
labels_low [] e = tt
labels_low (l ∷ ls) e =
    let p = first_of_two (label_fault true l) (first_fault true ls) e in
    (label_low l (no_fault (eqb (length l) 0) (list_all (is_allowed true) l) (cond (ltb 63 (length l)) (Some LongLabel) None) p.0), labels_low ls p.1)

-- ---- the pieces of which they are

both_low : (xs ys : List (List ℕ)) → AllLow xs → AllLow ys → AllLow (xs ++ ys)
both_low [] ys h k = k
both_low (x ∷ xs) ys h k = (h.0, both_low xs ys h.1 k)

nils_low : (ps : List (List ℕ)) → list_all (λ p. eqb (length p) 0) ps ≡ true → AllLow ps
nils_low [] e = tt
nils_low (p ∷ ps) e =
    let parts = and_parts (eqb (length p) 0) (list_all (λ p. eqb (length p) 0) ps) e in
    (subst Low (sym (nil_from_length p (eqb-true _ _ parts.0))) tt, nils_low ps parts.1)

dotted_low : (dotted : Bool) (k : ℕ) (ps : List (List ℕ)) → (dotted ≡ true → list_all (λ p. eqb (length p) 0) (drop k ps) ≡ true) → AllLow (cond dotted (take k ps) ps) → AllLow ps
dotted_low true k ps nils h = subst AllLow (take-append-drop k ps) (both_low (take k ps) (drop k ps) h (nils_low (drop k ps) (nils refl)))
dotted_low false k ps nils h = h

pieces_step : (t : Bool) (begun : List ℕ) (b : ℕ) (bs : List ℕ) → (t ≡ true → b ≡ 46) → (AllLow (pieces_from [] bs) → Low [] × Low bs) → (AllLow (pieces_from (begun ++ b ∷ []) bs) → Low (begun ++ b ∷ []) × Low bs)
    → AllLow (cond t (begun ∷ pieces_from [] bs) (pieces_from (begun ++ b ∷ []) bs)) → Low begun × Low (b ∷ bs)
pieces_step true begun b bs is anew more h = let dot = is refl in (h.0, (omega arith, (anew h.1).1))
pieces_step false begun b bs is anew more h = let r = more h in let s = low_split begun (b ∷ []) r.0 in (s.0, (s.1.0, r.1))

pieces_low : (begun bs : List ℕ) → AllLow (pieces_from begun bs) → Low begun × Low bs
pieces_low begun [] h = (h.0, tt)
pieces_low begun (b ∷ bs) h = pieces_step (eqb b 46) begun b bs (λ e. eqb-true b 46 e) (pieces_low [] bs) (pieces_low (begun ++ b ∷ []) bs) h

-- ---- the text

checked_low : (fault : Option NameError) (long : Bool) (n m : DomainName) → (let read : Result DomainName NameError = elim fault [ Some e ↦ Err e | None ↦ cond long (Err LongName) (Ok n) ] in result_ok read) ≡ Some m → fault ≡ None
checked_low None long n m e = refl
checked_low (Some x) long n m e = absurd cc

dot_low : (text : List ℕ) → is_dot text ≡ true → Low text
dot_low [] e = absurd cc
dot_low (b ∷ []) e = let dot = eqb-true b 46 e in (omega arith, tt)
dot_low (b ∷ c ∷ bs) e = absurd cc

text_low : (dot : Bool) (text : List ℕ) (n m : DomainName) → (dot ≡ true → Low text) → result_ok (cond dot (Ok n) (checked true (labels_of (pieces text)) (is_dotted (pieces text)))) ≡ Some m → Low text
text_low true text n m low e = low refl
text_low false text n m low e =
    let ps = pieces text in
    let none = checked_low (first_fault true (labels_of ps)) (ltb 255 (wire_length (labels_of ps))) _ m e in
    (pieces_low [] text (dotted_low (is_dotted ps) (length ps - 1) ps (λ d. (and_parts _ _ d).1) (labels_low (labels_of ps) none))).1

name_is_utf8 : (text : List ℕ) (n : DomainName) → result_ok (name_of true text) ≡ Some n → IsUtf8 text
name_is_utf8 text n e = IsUtf8-from_ascii text (low_ascii text (text_low (is_dot text) text _ n (dot_low text) e))

no_name : (text : List ℕ) (read : Option DomainName) → result_ok (name_of true text) ≡ read → ¬ (IsUtf8 text) → None ≡ result_ok (name_of true text)
no_name text None e h = sym e
no_name text (Some n) e h = absurd (h (name_is_utf8 text n e))

no_foreign_name : (text : List ℕ) → ¬ (IsUtf8 text) → None ≡ result_ok (name_of true text)
no_foreign_name text h = no_name text (result_ok (name_of true text)) refl h

-- a domain that is no text of ASCII is no name
pub no_domain : (lines : List (List (List ℕ))) (host word : List ℕ) → Some word ≡ last_domain lines → ¬ (IsUtf8 word) → None ≡ domain_of lines host
no_domain lines host word e h = subst (λ (set : Option (List ℕ)). None ≡ domain_name (option_or set (domain_of_host host))) e (no_foreign_name word h)
