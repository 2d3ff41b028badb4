-- The domains in which names are looked for, as text.
use Rattle.std.specs.Prelude.{◌≡◌, ℕ, Bool, true, ◌||◌, ◌==◌, nat_lt, List, [], ◌∷◌, ◌++◌, length, map, filter, Result, Ok, Err, if◌then◌else◌}
use Rattle.std.specs.Char.{is_whitespace}
use Rattle.std.specs.Str.{chars, encode_utf8_all}
use Rattle.std.specs.List.{slice_split}
use Rattle.dns_core.specs.Name.{DomainName}
use Rattle.dns_core.specs.NameText.{name_of}
use Rattle.dns_core.specs.declared.name_text.NameError.{NameError}
use Rattle.dns_core.specs.declared.name_text.NameError.TheVariants.{NoMemory}

-- white space or NUL
abbrev pub is_separator : ℕ → Bool
is_separator c = is_whitespace c || c == 0

-- the bytes of the pieces between separators, but for empty ones
abbrev pub words_of : List ℕ → List (List ℕ)
words_of text = filter (λ word. nat_lt 0 (length word)) (map encode_utf8_all (slice_split is_separator (chars text)))

abbrev pub with_first : DomainName → Result (List DomainName) NameError → Result (List DomainName) NameError
with_first name (Ok names) = Ok (name ∷ names)
with_first name (Err e) = Err e

-- what words say in strict form, or the error of the first that says no name
abbrev pub names_of : List (List ℕ) → Result (List DomainName) NameError
names_of [] = Ok []
names_of (word ∷ words) = elim (name_of true word) [ Ok name ↦ with_first name (names_of words) | Err e ↦ Err e ]

-- it is what reading gives, unless memory ran out
abbrev pub GivesNames : Result (List DomainName) NameError → Result (List DomainName) NameError → Type 0
GivesNames (Ok ns) read = read ≡ Ok ns
GivesNames (Err NoMemory) read = Unit {0}
GivesNames (Err e) read = read ≡ Err e

-- these names, and that of a word that may be empty
abbrev pub with_word : List DomainName → List ℕ → Result (List DomainName) NameError
with_word names word = if nat_lt 0 (length word) then elim (name_of true word) [ Ok n ↦ Ok (names ++ n ∷ []) | Err e ↦ Err e ] else Ok names
