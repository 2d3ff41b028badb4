-- The last list of a text has no more words than the text has bytes.
use Rattle.std.proofs.Common.{◌≡◌, ℕ, suc, ◌+◌, ◌<◌, ◌≤◌, Bool, true, false, cond, List, [], ◌∷◌, length, map, take, Option, Some, None, ap, arith, option_map}
use Rattle.std.specs.Prelude.{IfSome, filter, codes, ◌==◌}
use Rattle.std.specs.List.{slice_split, onto_first, filter_map, cons_option, last_or, list_all, position_or_len}
use Rattle.std.specs.Option.{option_or, unwrap_or}
use Rattle.std.specs.Str.{bytes_eq}
use Rattle.std.proofs.lemmas.List.{length-take}
use Rattle.std.proofs.lemmas.List.Splits.{length-slice_split}
use Rattle.std.proofs.lemmas.List.Sums.{length-filter, count_by-le-length}
use Rattle.resolver_settings.specs.Directives.{words_behind, only_word, some_words, search_words}
use Rattle.resolver_settings.specs.SearchList.{last_list}
use Rattle.resolver_settings.specs.TextLines.{begins_comment, is_blank, is_plain, is_word, words_left, words_of_line, lines_of}

-- ---- the words of a line

few_pieces : (test : ℕ → Bool) (text : List ℕ) → length (filter is_word (slice_split test text)) ≤ length text + 1
few_pieces test text = omega (arith, length-filter is_word (slice_split test text), count_by-le-length is_word (slice_split test text), length-slice_split test text, count_by-le-length test text)

few_where : (plain : Bool) (n : ℕ) (words : List (List ℕ)) → length words ≤ n → length (cond plain words []) ≤ n
few_where true n words h = h
few_where false n words h = omega arith

few_in_line : (line : List ℕ) → length (words_of_line line) ≤ length line + 1
few_in_line line =
    let content : List ℕ = take (position_or_len begins_comment line) line in
    let short : length content ≤ length line = omega (arith, length-take (position_or_len begins_comment line) line) in
    let few : length (words_left (Some content)) ≤ length content + 1 = few_pieces is_blank content in
    few_where (list_all is_plain content) (length line + 1) (words_left (Some content)) (omega arith)

-- ---- the lines of a text

abbrev Short : ℕ → List (List ℕ) → Type 0
Short n [] = Unit {0}
Short n (p ∷ ps) = (length p ≤ n) × Short n ps

shorter : (n : ℕ) (ps : List (List ℕ)) → Short n ps → Short (suc n) ps
shorter n [] h = tt
shorter n (p ∷ ps) h = let first = h.0 in (omega arith, shorter n ps h.1)

short_step : (cut : Bool) (b n : ℕ) (ps : List (List ℕ)) → Short n ps → Short (suc n) (cond cut ([] ∷ ps) (onto_first b ps))
short_step true b n ps h = (omega arith, shorter n ps h)
short_step false b n [] h = (omega arith, tt)
short_step false b n (p ∷ ps) h = let first = h.0 in (omega arith, shorter n ps h.1)

short_pieces : (test : ℕ → Bool) (text : List ℕ) → Short (length text) (slice_split test text)
short_pieces test [] = (omega arith, tt)
short_pieces test (b ∷ bs) = short_step (test b) b (length bs) (slice_split test bs) (short_pieces test bs)

abbrev Few : ℕ → List (List (List ℕ)) → Type 0
Few n [] = Unit {0}
Few n (line ∷ lines) = (length line ≤ n + 1) × Few n lines

few_in_lines : (n : ℕ) (ps : List (List ℕ)) → Short n ps → Few n (map words_of_line ps)
few_in_lines n [] h = tt
few_in_lines n (p ∷ ps) h = let first = h.0 in let few = few_in_line p in (omega arith, few_in_lines n ps h.1)

-- ---- the lists that lines set

abbrev HasFew : ℕ → Option (List (List ℕ)) → Type 0
HasFew n list = IfSome list (λ words. length words ≤ n)

few_behind : (keyword : List ℕ) (n : ℕ) (line : List (List ℕ)) → length line ≤ n + 1 → length (words_behind keyword line) ≤ n
few_behind keyword n [] h = omega arith
few_behind keyword n (first ∷ words) h = few_where (bytes_eq first keyword) n words (omega arith)

few_some : (n : ℕ) (words : List (List ℕ)) → length words ≤ n → HasFew n (some_words words)
few_some n [] h = tt
few_some n (word ∷ words) h = h

few_set : (n : ℕ) (domain search : List (List ℕ)) → length domain ≤ n → length search ≤ n → HasFew n (option_or (option_map (λ w. w ∷ []) (only_word domain)) (some_words search))
few_set n [] search h k = few_some n search k
few_set n (d ∷ []) search h k = h
few_set n (d ∷ e ∷ ds) search h k = few_some n search k

few_by_line : (n : ℕ) (line : List (List ℕ)) → length line ≤ n + 1 → HasFew n (search_words line)
few_by_line n line h = few_set n (words_behind (codes "domain") line) (words_behind (codes "search") line) (few_behind (codes "domain") n line h) (few_behind (codes "search") n line h)

last_step : (n : ℕ) (found list : Option (List (List ℕ))) (rest : List (List (List ℕ))) → HasFew n found → HasFew n list → ((o : Option (List (List ℕ))) → HasFew n o → HasFew n (last_or o rest)) → HasFew n (last_or list (cons_option found rest))
last_step n None list rest h k more = more list k
last_step n (Some words) list rest h k more = more (Some words) h

few_in_last : (n : ℕ) (lines : List (List (List ℕ))) → Few n lines → (list : Option (List (List ℕ))) → HasFew n list → HasFew n (last_or list (filter_map search_words lines))
few_in_last n [] h list k = k
few_in_last n (line ∷ lines) h list k = last_step n (search_words line) list (filter_map search_words lines) (few_by_line n line h.0) k (few_in_last n lines h.1)

few_or_none : (n : ℕ) (list : Option (List (List ℕ))) → HasFew n list → length (unwrap_or list []) ≤ n
few_or_none n None h = omega arith
few_or_none n (Some words) h = h

few_words : (text : List ℕ) → length (last_list (lines_of text)) ≤ length text
few_words text =
    let lines = few_in_lines (length text) (slice_split (λ b. b == 10) text) (short_pieces (λ b. b == 10) text) in
    few_or_none (length text) (last_or None (filter_map search_words (lines_of text))) (few_in_last (length text) (lines_of text) lines None tt)

pub few_enough : (text : List ℕ) (list : List (List ℕ)) (n : ℕ) → length text < n → list ≡ last_list (lines_of text) → length list < n
few_enough text list n h e = omega (arith, ap length e, few_words text)
