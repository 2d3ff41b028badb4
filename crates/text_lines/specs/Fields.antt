-- Fields of a line: words that are read one after the other.
use Rattle.std.specs.Prelude.{◌≡◌, ℕ, Bool, List, [], ◌∷◌, Option, Some, None, Result, Ok, Err, if◌then◌else◌}
use Rattle.std.specs.Str.{bytes_eq}
use Rattle.text_lines.specs.declared.words.LineError.{LineError}
use Rattle.text_lines.specs.declared.words.LineError.TheVariants.{Refused, NoMemory}
use Rattle.text_lines.specs.Numbers.{◌>>=◌, number_within}

-- what reads a value from the words, and leaves the others
abbrev pub Fields : Type 0 → Type 0
Fields X = List (List ℕ) → Option (X × List (List ℕ))

-- one word is read, and the others are left
abbrev pub field : {X : Type 0} → (List ℕ → Option X) → Fields X
field p [] = None
field p (w ∷ ws) = p w >>= λ x. Some (x, ws)

-- a number of 32 bits
abbrev pub wide_field : Fields ℕ
wide_field = field (number_within 0 4294967295)

-- this very word
abbrev pub literal : List ℕ → List ℕ → Option (Unit {0})
literal text w = if bytes_eq w text then Some tt else None

-- the value beside the first entry of a table that is the word
abbrev pub in_table : {X : Type 0} → List (List ℕ × X) → List ℕ → Option X
in_table [] w = None
in_table (entry ∷ table) w = if bytes_eq w entry.0 then Some entry.1 else in_table table w

-- a word that passes a test
abbrev pub checked : (List ℕ → Bool) → Fields (Unit {0})
checked test ws = field (λ w. if test w then Some tt else None) ws

-- no word is left
abbrev pub end_of : List (List ℕ) → Option (Unit {0})
end_of [] = Some tt
end_of (w ∷ ws) = None

-- one field, and others after it
abbrev pub both : {X Y : Type 0} → Fields X → Fields Y → Fields (X × Y)
both p q ws = p ws >>= λ x. q x.1 >>= λ y. Some ((x.0, y.0), y.1)

-- this very word, and then fields
abbrev pub skip : {Y : Type 0} → List ℕ → Fields Y → Fields Y
skip text q ws = field (literal text) ws >>= λ x. q x.1

-- no field
abbrev pub nothing : Fields (Unit {0})
nothing ws = Some (tt, ws)

-- the fields are all, and say f
abbrev pub whole : {X Z : Type 0} → Fields X → (X → Z) → List (List ℕ) → Option Z
whole p f ws = p ws >>= λ x. end_of x.1 >>= λ e. Some (f x.0)

-- A result is what reading gives, unless memory ran out.
abbrev pub GivesFields : {X : Type 0} → Result X LineError → List (List ℕ) → Option (X × List (List ℕ)) → Type 0
GivesFields (Ok x) after read = read ≡ Some (x, after)
GivesFields (Err Refused) after read = read ≡ None
GivesFields (Err NoMemory) after read = Unit {0}

-- the same of the end of the words
abbrev pub Ends : Result (Unit {0}) LineError → List (List ℕ) → Type 0
Ends (Ok x) ws = ws ≡ []
Ends (Err Refused) ws = end_of ws ≡ None
Ends (Err NoMemory) ws = Unit {0}

-- the same of what a word or a line says
abbrev pub Gives : {X : Type 0} → Result X LineError → Option X → Type 0
Gives (Ok x) read = read ≡ Some x
Gives (Err Refused) read = read ≡ None
Gives (Err NoMemory) read = Unit {0}
