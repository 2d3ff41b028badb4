-- What the words of a line say.
use Rattle.std.specs.Prelude.{ℕ, List, [], ◌∷◌, Option, Some, None, option_map, codes, if◌then◌else◌}
use Rattle.std.specs.Option.{option_or}
use Rattle.std.specs.Str.{bytes_eq}

-- the words behind the first one of a line, where that is the keyword
abbrev pub words_behind : List ℕ → List (List ℕ) → List (List ℕ)
words_behind keyword [] = []
words_behind keyword (first ∷ words) = if bytes_eq first keyword then words else []

-- the word of a list of one
abbrev pub only_word : List (List ℕ) → Option (List ℕ)
only_word [] = None
only_word (word ∷ []) = Some word
only_word (first ∷ second ∷ words) = None

-- a list that has words
abbrev pub some_words : List (List ℕ) → Option (List (List ℕ))
some_words [] = None
some_words (word ∷ words) = Some (word ∷ words)

-- the word that is to be a server's address
abbrev pub server_word : List (List ℕ) → Option (List ℕ)
server_word line = only_word (words_behind (codes "nameserver") line)

-- the domain that a line sets
abbrev pub domain_word : List (List ℕ) → Option (List ℕ)
domain_word line = only_word (words_behind (codes "domain") line)

-- the search list that a line sets: a domain is one of its own
abbrev pub search_words : List (List ℕ) → Option (List (List ℕ))
search_words line = option_or (option_map (λ w. w ∷ []) (domain_word line)) (some_words (words_behind (codes "search") line))

-- the options in a line
abbrev pub option_words : List (List ℕ) → List (List ℕ)
option_words line = words_behind (codes "options") line
