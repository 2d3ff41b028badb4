-- The lines of a text, and their words.
use Rattle.std.specs.Prelude.{ℕ, Bool, nat_lt, ◌==◌, ◌&&◌, ◌||◌, List, [], length, map, filter, Option, Some, None, if◌then◌else◌}
use Rattle.std.specs.List.{list_all, slice_split, before_first}

-- a `#` or a `;` begins a comment
abbrev pub begins_comment : ℕ → Bool
begins_comment b = b == 35 || b == 59

-- a space, a tab or a carriage return
abbrev pub is_blank : ℕ → Bool
is_blank b = b == 32 || b == 9 || b == 13

-- such a byte, or a printing one of ASCII
abbrev pub is_plain : ℕ → Bool
is_plain b = is_blank b || (nat_lt 32 b && nat_lt b 127)

-- the pieces of what is left of a text, cut at the bytes that pass the test
abbrev pub pieces_left : (ℕ → Bool) → Option (List ℕ) → List (List ℕ)
pieces_left test None = []
pieces_left test (Some text) = slice_split test text

abbrev pub is_word : List ℕ → Bool
is_word w = nat_lt 0 (length w)

-- the words of what is left of a text, with blanks between them
abbrev pub words_left : Option (List ℕ) → List (List ℕ)
words_left left = filter is_word (pieces_left is_blank left)

-- the words of a line, which has none where a byte before the comment is not plain
abbrev pub words_of_line : List ℕ → List (List ℕ)
words_of_line line =
    let content = before_first begins_comment line in
    if list_all is_plain content then words_left (Some content) else []

-- the lines of what is left of a text, with line feeds between them, each as its words
abbrev pub lines_left : Option (List ℕ) → List (List (List ℕ))
lines_left left = map words_of_line (pieces_left (λ b. b == 10) left)

-- the lines of a text
abbrev pub lines_of : List ℕ → List (List (List ℕ))
lines_of text = lines_left (Some text)
