-- Reading character by character gives the names of the words between separators.
use Rattle.std.proofs.Common.{◌≡◌, ℕ, ◌+◌, ◌<◌, Bool, true, false, cond, List, [], ◌∷◌, ◌++◌, length, map, filter, drop, get_or, ltb, Result, Ok, Err, IsErrAnd, refl, sym, ap, ◌∙◌, subst, append-nil, append_assoc, encode_utf8, encode_utf8_all}
use Rattle.std.specs.List.{slice_split, onto_first}
use Rattle.std.specs.Str.{chars}
use Rattle.std.proofs.lemmas.List.{at_drop_more}
use Rattle.dns_core.specs.Name.{DomainName}
use Rattle.dns_core.specs.NameText.{name_of}
use Rattle.dns_core.specs.declared.name_text.NameError.{NameError}
use Rattle.dns_core.specs.declared.name_text.NameError.TheVariants.{EmptyLabel, BadByte, LongLabel, LongName, NoMemory}
use Rattle.resolver_settings.specs.SearchDomains.{is_separator, words_of, with_first, names_of, with_word, GivesNames}

abbrev pub Read : Type 0
Read = Result (List DomainName) NameError

-- goes on where there are names
abbrev pub next : Read → (List DomainName → Read) → Read
next (Ok ns) f = f ns
next (Err e) f = Err e

-- the names of words, some of them empty
abbrev read_words : List DomainName → List (List ℕ) → Read
read_words names [] = Ok names
read_words names (word ∷ words) = next (with_word names word) (λ ns. read_words ns words)

-- the names of what is left of a text, of which a word is begun
abbrev pub read_from : List DomainName → List ℕ → List ℕ → Read
read_from names begun [] = with_word names begun
read_from names begun (c ∷ cs) = cond (is_separator c) (next (with_word names begun) (λ ns. read_from ns [] cs)) (read_from names (begun ++ encode_utf8 c) cs)

abbrev after : List DomainName → Read → Read
after names read = next read (λ ns. Ok (names ++ ns))

abbrev is_word : List ℕ → Bool
is_word word = ltb 0 (length word)

more : (names : List DomainName) (n : DomainName) (read : Read) → after (names ++ n ∷ []) read ≡ after names (with_first n read)
more names n (Ok ns) = ap (λ (ms : List DomainName). Ok ms) (append_assoc names (n ∷ []) ns)
more names n (Err e) = refl

read_words_are : (names : List DomainName) (words : List (List ℕ)) → read_words names words ≡ after names (names_of (filter is_word words))
read_words_are names [] = ap (λ (ms : List DomainName). Ok ms) (sym (append-nil names))
read_words_are names (word ∷ words) = at (is_word word) refl (name_of true word) refl (λ ms. read_words_are ms words)
  where
    at : (b : Bool) → is_word word ≡ b → (read : Result DomainName NameError) → name_of true word ≡ read → ((ms : List DomainName) → read_words ms words ≡ after ms (names_of (filter is_word words))) → read_words names (word ∷ words) ≡ after names (names_of (filter is_word (word ∷ words)))
    at false e read r rest = rw e (rest names)
    at true e (Ok n) r rest =
        let kept : filter is_word (word ∷ words) ≡ word ∷ filter is_word words = rw e refl in
        let said : names_of (word ∷ filter is_word words) ≡ with_first n (names_of (filter is_word words)) = rw (names_of, r) refl in
        let put : read_words names (word ∷ words) ≡ read_words (names ++ n ∷ []) words = rw (e, r) refl in
        put ∙ rest (names ++ n ∷ []) ∙ more names n (names_of (filter is_word words)) ∙ ap (after names) (sym said ∙ ap names_of (sym kept))
    at true e (Err f) r rest =
        let kept : filter is_word (word ∷ words) ≡ word ∷ filter is_word words = rw e refl in
        let said : names_of (word ∷ filter is_word words) ≡ Err f = rw (names_of, r) refl in
        let put : read_words names (word ∷ words) ≡ Err f = rw (e, r) refl in
        put ∙ ap (after names) (sym said ∙ ap names_of (sym kept))

-- the parts, the first of them begun already
abbrev begun_by : List ℕ → List (List ℕ) → List (List ℕ)
begun_by begun [] = begun ∷ []
begun_by begun (part ∷ parts) = (begun ++ part) ∷ parts

abbrev parts_of : List ℕ → List (List ℕ)
parts_of cs = map encode_utf8_all (slice_split is_separator cs)

one_part : (read : Read) → next read (λ ns. Ok ns) ≡ read
one_part (Ok ns) = refl
one_part (Err e) = refl

begun_onto : (begun : List ℕ) (c : ℕ) (parts : List (List ℕ)) → begun_by begun (map encode_utf8_all (onto_first c parts)) ≡ begun_by (begun ++ encode_utf8 c) (map encode_utf8_all parts)
begun_onto begun c [] = ap (λ w. w ∷ []) (ap (λ w. begun ++ w) (append-nil (encode_utf8 c)))
begun_onto begun c (part ∷ parts) = ap (λ w. w ∷ map encode_utf8_all parts) (sym (append_assoc begun (encode_utf8 c) (encode_utf8_all part)))

onto_none : (c : ℕ) (parts : List (List ℕ)) → begun_by [] (map encode_utf8_all (onto_first c parts)) ≡ map encode_utf8_all (onto_first c parts)
onto_none c [] = refl
onto_none c (part ∷ parts) = refl

begun_by_none : (cs : List ℕ) → begun_by [] (parts_of cs) ≡ parts_of cs
begun_by_none [] = refl
begun_by_none (c ∷ cs) = at (is_separator c) refl
  where
    at : (b : Bool) → is_separator c ≡ b → begun_by [] (parts_of (c ∷ cs)) ≡ parts_of (c ∷ cs)
    at true e = rw e refl
    at false e = rw e (onto_none c (slice_split is_separator cs))

next_same : (read : Read) (f g : List DomainName → Read) → ((ns : List DomainName) → f ns ≡ g ns) → next read f ≡ next read g
next_same (Ok ns) f g same = same ns
next_same (Err e) f g same = refl

read_from_is : (names : List DomainName) (begun cs : List ℕ) → read_from names begun cs ≡ read_words names (begun_by begun (parts_of cs))
read_from_is names begun [] = ap (with_word names) (sym (append-nil begun)) ∙ sym (one_part (with_word names (begun ++ [])))
read_from_is names begun (c ∷ cs) = at (is_separator c) refl (λ ns word. read_from_is ns word cs)
  where
    at : (b : Bool) → is_separator c ≡ b → ((ns : List DomainName) (word : List ℕ) → read_from ns word cs ≡ read_words ns (begun_by word (parts_of cs))) → read_from names begun (c ∷ cs) ≡ read_words names (begun_by begun (parts_of (c ∷ cs)))
    at true e rest = rw e (next_same (with_word names begun) (λ ns. read_from ns [] cs) (λ ns. read_words ns (parts_of cs)) (λ ns. rest ns [] ∙ ap (read_words ns) (begun_by_none cs))
        ∙ ap (λ word. next (with_word names word) (λ ns. read_words ns (parts_of cs))) (sym (append-nil begun)))
    at false e rest = rw e (rest names (begun ++ encode_utf8 c) ∙ ap (read_words names) (sym (begun_onto begun c (slice_split is_separator cs))))

after_none : (read : Read) → after [] read ≡ read
after_none (Ok ns) = refl
after_none (Err e) = refl

-- the whole text
pub read_from_start : (text : List ℕ) → read_from [] [] (chars text) ≡ names_of (words_of text)
read_from_start text =
    read_from_is [] [] (chars text) ∙ ap (read_words []) (begun_by_none (chars text)) ∙ read_words_are [] (parts_of (chars text)) ∙ after_none (names_of (words_of text))

-- a character of the text, which is the next one
abbrev pub IsNext : List ℕ → ℕ → ℕ → Type 0
IsNext cs n c = (n < length cs) × (c ≡ get_or cs n c)

turn : (names : List DomainName) (begun cs : List ℕ) (n c : ℕ) → IsNext cs n c → read_from names begun (drop n cs) ≡ read_from names begun (c ∷ drop (n + 1) cs)
turn names begun cs n c h = at_drop_more (read_from names begun) cs n c h.0 ∙ ap (λ x. read_from names begun (x ∷ drop (n + 1) cs)) (sym h.1)

-- a separator ends a word
pub at_separator : (names : List DomainName) (begun cs : List ℕ) (n c : ℕ) (read : Read) → IsNext cs n c → is_separator c ≡ true → with_word names begun ≡ read → read_from names begun (drop n cs) ≡ next read (λ ns. read_from ns [] (drop (n + 1) cs))
at_separator names begun cs n c read h e r = turn names begun cs n c h ∙ (rw (e, r) refl)

-- any other character goes on with it
pub at_other : (names : List DomainName) (begun cs : List ℕ) (n c : ℕ) → IsNext cs n c → is_separator c ≡ false → read_from names begun (drop n cs) ≡ read_from names (begun ++ encode_utf8 c) (drop (n + 1) cs)
at_other names begun cs n c h e = turn names begun cs n c h ∙ (rw e refl)

-- an error that one gives, another gives that is the same for each error
pub error_stays : (e : NameError) (read all : Read) → (read ≡ Err e → all ≡ Err e) → GivesNames (Err e) read → GivesNames (Err e) all
error_stays EmptyLabel read all same gives = same gives
error_stays BadByte read all same gives = same gives
error_stays LongLabel read all same gives = same gives
error_stays LongName read all same gives = same gives
error_stays NoMemory read all same gives = tt

pub error_given : (given all : Read) (e : NameError) → IsErrAnd given (λ f. f ≡ e) → GivesNames (Err e) all → GivesNames given all
error_given (Ok ns) all e is gives = absurd is
error_given (Err f) all e is gives = subst (λ g. GivesNames (Err g) all) (sym is) gives
