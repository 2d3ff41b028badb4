-- Texts that were appended, one part after another.
use Rattle.std.proofs.Common.{◌≡◌, ℕ, ◌+◌, ◌<◌, suc, length, take, get_or, add-zero, arith, List, [], ◌∷◌, ◌++◌, sym, ap, ◌∙◌, append_assoc}
use Rattle.std.specs.List.{join_with_byte}
use Rattle.std.proofs.lemmas.List.{append-nil, take_more, length-take-le}
use Rattle.std.proofs.lemmas.List.Concat.{flat_map-append}
use Rattle.dns_core.specs.declared.record.Record.{Record}
use Rattle.transcript_printer.specs.Appending.{Extends, spaced}
use Rattle.transcript_printer.specs.Log.{numbered_text}
use Rattle.text_lines.specs.Texts.{line_of, record_line, record_lines}

-- where nothing was appended
pub extends_none : (old : List ℕ) → Extends old old
extends_none old = ([], sym (append-nil old))

-- where something was appended to a text that was appended
pub extends_then : {mid new : List ℕ} (old text : List ℕ) → mid ≡ old ++ text → Extends mid new → Extends old new
extends_then old text a (rest, b) = (text ++ rest, b ∙ ap (λ (r : List ℕ). r ++ rest) a ∙ append_assoc old text rest)

joined : (word : List ℕ) (words : List (List ℕ)) → join_with_byte 32 (word ∷ words) ≡ word ++ spaced words
joined word [] = sym (append-nil word)
joined word (next ∷ words) = ap (λ (r : List ℕ). word ++ 32 ∷ r) (joined next words)

-- a line is its first word, and the others behind spaces
pub line_of-spaced : (word : List ℕ) (words : List (List ℕ)) → line_of (word ∷ words) ≡ word ++ spaced words ++ 10 ∷ []
line_of-spaced word words = ap (λ (r : List ℕ). r ++ 10 ∷ []) (joined word words)

-- likewise what a text begins with
pub line_of_words : (old word : List ℕ) (words : List (List ℕ)) → ((old ++ word) ++ spaced words) ++ 10 ∷ [] ≡ old ++ line_of (word ∷ words)
line_of_words old word words = append_assoc (old ++ word) (spaced words) (10 ∷ []) ∙ append_assoc old word (spaced words ++ 10 ∷ []) ∙ ap (λ (r : List ℕ). old ++ r) (sym (line_of-spaced word words ∙ append_assoc word (spaced words) (10 ∷ [])))

-- a text in two parts
pub appended_twice : {mid new text : List ℕ} (old first second : List ℕ) → mid ≡ old ++ first → new ≡ mid ++ second → text ≡ first ++ second → new ≡ old ++ text
appended_twice old first second a b e = b ∙ ap (λ (r : List ℕ). r ++ second) a ∙ append_assoc old first second ∙ ap (λ (r : List ℕ). old ++ r) (sym e)

-- the lines of three lists of records
pub sections : (old : List ℕ) (a b c : List Record) → ((old ++ record_lines a) ++ record_lines b) ++ record_lines c ≡ old ++ record_lines ((a ++ b) ++ c)
sections old a b c =
    let both : record_lines ((a ++ b) ++ c) ≡ (record_lines a ++ record_lines b) ++ record_lines c =
    flat_map-append record_line (a ++ b) c ∙ ap (λ (r : List ℕ). r ++ record_lines c) (flat_map-append record_line a b) in
    rw both (simp append_assoc)

n_more : (n k : ℕ) → n + 1 + k ≡ n + suc k
n_more n k = omega arith

-- no value that is numbered
pub numbered_none : {X : Type 0} (text : ℕ → X → List ℕ) (old : List ℕ) → old ≡ old ++ numbered_text text 1 []
unfolding numbered_text
numbered_none text old = sym (append-nil old)

-- one more value that is numbered
numbered_more : {X : Type 0} (text : ℕ → X → List ℕ) (n : ℕ) (xs : List X) (x : X) → numbered_text text n (xs ++ x ∷ []) ≡ numbered_text text n xs ++ text (n + length xs) x
unfolding numbered_text
numbered_more text n [] x = append-nil (text n x) ∙ ap (λ (k : ℕ). text k x) (sym (add-zero n))
numbered_more text n (y ∷ xs) x =
    ap (λ (r : List ℕ). text n y ++ r) (numbered_more text (n + 1) xs x ∙ ap (λ (k : ℕ). numbered_text text (n + 1) xs ++ text k x) (n_more n (length xs)))
    ∙ sym (append_assoc (text n y) (numbered_text text (n + 1) xs) (text (n + suc (length xs)) x))

next_place : {X : Type 0} (xs : List X) (i : ℕ) → i < length xs → 1 + length (take i xs) ≡ i + 1
next_place xs i below = omega (arith, length-take-le i xs (omega arith))

-- the next value of a list, numbered from 1
pub numbered_next : {X : Type 0} (text : ℕ → X → List ℕ) (xs : List X) (i : ℕ) (x : X) → i < length xs → x ≡ get_or xs i x → numbered_text text 1 (take (i + 1) xs) ≡ numbered_text text 1 (take i xs) ++ text (i + 1) x
numbered_next text xs i x below is =
    ap (numbered_text text 1) (take_more xs i x below ∙ ap (λ y. take i xs ++ y ∷ []) (sym is))
    ∙ numbered_more text 1 (take i xs) x
    ∙ ap (λ (k : ℕ). numbered_text text 1 (take i xs) ++ text k x) (next_place xs i below)
