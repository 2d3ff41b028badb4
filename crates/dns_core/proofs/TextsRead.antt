-- A text that is read as a name is the text of that name.
use Rattle.std.proofs.Common.{◌≡◌, ℕ, ◌-◌, ◌<◌, Bool, true, false, List, [], ◌∷◌, ◌++◌, length, take, drop, refl, ap, ◌∙◌, sym, arith, append_assoc, cond}
use Rattle.std.specs.Prelude.{◌==◌, nat_lt, Option, Some, None, Result, Ok, Err}
use Rattle.std.specs.List.{list_all}
use Rattle.std.specs.Cmp.{first_so, second_so, unsigned_Decides}
use Rattle.std.proofs.lemmas.List.{take-append-drop, append-nil}
use Rattle.std.proofs.lemmas.Bool.Decides.{nat_tests}
use Rattle.std.proofs.lemmas.Grind.{common_steps}
use Rattle.dns_core.specs.Name.{DomainName}
use Rattle.dns_core.specs.NameText.{pieces, pieces_from, is_dotted, labels_of, first_fault, wire_length, checked, is_dot, name_of, dotted, separator, text_of}
use Rattle.dns_core.specs.declared.name_text.NameError.{NameError}
use Rattle.dns_core.specs.declared.name_text.NameError.TheVariants.{LongName}
use Rattle.dns_core.proofs.Dotted.{dotted-push}

-- a dot stands between a label and the pieces after it
dotted-pieces : (l begun bs : List ℕ) → dotted (l ∷ pieces_from begun bs) ≡ l ++ 46 ∷ dotted (pieces_from begun bs)
dotted-pieces l begun [] = refl
dotted-pieces l begun (b ∷ bs) = each (b == 46) (dotted-pieces l (begun ++ b ∷ []) bs)
  where
    each : (t : Bool) → dotted (l ∷ pieces_from (begun ++ b ∷ []) bs) ≡ l ++ 46 ∷ dotted (pieces_from (begun ++ b ∷ []) bs) → dotted (l ∷ cond t (begun ∷ pieces_from [] bs) (pieces_from (begun ++ b ∷ []) bs)) ≡ l ++ 46 ∷ dotted (cond t (begun ∷ pieces_from [] bs) (pieces_from (begun ++ b ∷ []) bs))
    each true h = refl
    each false h = h

-- the pieces of a text, with dots between them, are the text
pieces-joined : (begun bs : List ℕ) → dotted (pieces_from begun bs) ≡ begun ++ bs
pieces-joined begun [] = sym (append-nil begun)
pieces-joined begun (b ∷ bs) = each (b == 46) (unsigned_Decides b 46).0 (pieces-joined [] bs) (pieces-joined (begun ++ b ∷ []) bs)
  where
    each : (t : Bool) → (t ≡ true → b ≡ 46) → dotted (pieces_from [] bs) ≡ bs → dotted (pieces_from (begun ++ b ∷ []) bs) ≡ (begun ++ b ∷ []) ++ bs
        → dotted (cond t (begun ∷ pieces_from [] bs) (pieces_from (begun ++ b ∷ []) bs)) ≡ begun ++ b ∷ bs
    each true is rest next = dotted-pieces begun [] bs ∙ ap (λ (t : List ℕ). begun ++ 46 ∷ t) rest ∙ ap (λ (c : ℕ). begun ++ c ∷ bs) (sym (is refl))
    each false is rest next = next ∙ append_assoc begun (b ∷ []) bs

-- one piece that is empty
empty-last : (ps : List (List ℕ)) → length ps ≡ 1 → list_all (λ p. length p == 0) ps ≡ true → ps ≡ [] ∷ []
empty-last [] n e = absurd (omega (arith, n))
empty-last ([] ∷ []) n e = refl
empty-last ((b ∷ bs) ∷ []) n e = grind (arith, nat_tests)
empty-last (p ∷ q ∷ ps) n e = grind (arith, common_steps)

-- the dot before an empty last piece
last-dot : (ps : List (List ℕ)) → is_dotted ps ≡ true → dotted (take (length ps - 1) ps) ++ 46 ∷ [] ≡ dotted ps
last-dot ps h =
    let k = length ps - 1 in
    let many : 1 < length ps = let t = first_so (nat_lt 1 (length ps)) _ h in grind (arith, nat_tests) in
    let one : length (drop k ps) ≡ 1 = grind (arith, common_steps) in
    let front : length (take k ps) ≡ k = grind (arith, common_steps) in
    let dot : separator (length (take k ps)) ≡ 46 ∷ [] = grind (arith, nat_tests, common_steps) in
    let last = empty-last (drop k ps) one (second_so (nat_lt 1 (length ps)) _ h) in
    let joined : take k ps ++ [] ∷ [] ≡ ps = ap (λ (ls : List (List ℕ)). take k ps ++ ls) (sym last) ∙ take-append-drop k ps in
    ap (λ (s : List ℕ). dotted (take k ps) ++ s) (sym (append-nil _ ∙ dot)) ∙ sym (dotted-push (take k ps) []) ∙ ap dotted joined

-- the labels of the pieces and whether they end in a dot are the pieces
labels-joined : (ps : List (List ℕ)) → text_of (record { labels = labels_of ps; fqdn = is_dotted ps }) ≡ dotted ps
labels-joined ps = each (is_dotted ps) (last-dot ps)
  where
    each : (t : Bool) → (t ≡ true → dotted (take (length ps - 1) ps) ++ 46 ∷ [] ≡ dotted ps) → dotted (cond t (take (length ps - 1) ps) ps) ++ cond t (46 ∷ []) [] ≡ dotted ps
    each true h = h refl
    each false h = append-nil (dotted ps)

-- what passes the checks is what was checked
checked-is : (strict : Bool) (labels : List (List ℕ)) (fqdn : Bool) (n : DomainName) → checked strict labels fqdn ≡ Ok n → n ≡ record { labels = labels; fqdn = fqdn }
checked-is strict labels fqdn n h = each (first_fault strict labels) (nat_lt 255 (wire_length labels)) h
  where
    each : (fault : Option NameError) (long : Bool) → elim fault as (λ _. Result DomainName NameError) [ Some e ↦ Err e | None ↦ cond long (Err LongName) (Ok (record { labels = labels; fqdn = fqdn })) ] ≡ Ok n → n ≡ record { labels = labels; fqdn = fqdn }
    each (Some e) long h = cc
    each None true h = cc
    each None false h = cc

root-text : (text : List ℕ) → is_dot text ≡ true → 46 ∷ [] ≡ text
root-text [] h = cc
root-text (b ∷ []) h = ap (λ (c : ℕ). c ∷ []) (sym ((unsigned_Decides b 46).0 h))
root-text (b ∷ c ∷ bs) h = cc

pub written_back : (strict : Bool) (text : List ℕ) (n : DomainName) → name_of strict text ≡ Ok n → text_of n ≡ text
written_back strict text n h = each (is_dot text) (root-text text) h
  where
    each : (dot : Bool) → (dot ≡ true → 46 ∷ [] ≡ text) → cond dot (Ok (record { labels = []; fqdn = true })) (checked strict (labels_of (pieces text)) (is_dotted (pieces text))) ≡ Ok n → text_of n ≡ text
    each true is h = cc (is refl)
    each false is h = ap text_of (checked-is strict (labels_of (pieces text)) (is_dotted (pieces text)) n h) ∙ labels-joined (pieces text) ∙ pieces-joined [] text

pub read_again : (strict : Bool) (text : List ℕ) (n : DomainName) → name_of strict text ≡ Ok n → name_of strict (text_of n) ≡ Ok n
read_again strict text n h = ap (λ (t : List ℕ). name_of strict t) (written_back strict text n h) ∙ h
