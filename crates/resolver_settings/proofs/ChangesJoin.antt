-- What two lists of words change one after the other is what they change together.
use Rattle.std.proofs.Common.{◌≡◌, ℕ, true, false, ◌*◌, ◌||◌, ◌∷◌, ◌++◌, List, [], Bool, Option, Some, None, option_map, refl, sym, ap, ◌∙◌}
use Rattle.std.specs.Prelude.{codes}
use Rattle.std.specs.List.{filter_map, flat_map, last_or, list_any}
use Rattle.std.specs.Option.{unwrap_or}
use Rattle.std.specs.Str.{bytes_eq}
use Rattle.std.proofs.lemmas.List.Elements.{filter_map-append}
use Rattle.std.proofs.lemmas.List.Folds.{list_any-append}
use Rattle.resolver_settings.specs.Directives.{option_words}
use Rattle.resolver_settings.specs.TextOptions.{number_behind, last_number, changed_by}
use Rattle.resolver_settings.specs.declared.options.ResolverOpts.{ResolverOpts}

-- a later item hides what was before
hidden : {A B : Type 0} (g : Option A → B → B) → ((x : A) (d e : B) → g (Some x) d ≡ g (Some x) e) → (x : A) (xs : List A) (d e : B) → g (last_or (Some x) xs) d ≡ g (last_or (Some x) xs) e
hidden g some x [] d e = some x d e
hidden g some x (y ∷ ys) d e = hidden g some y ys d e

last_of_two : {A B : Type 0} (g : Option A → B → B) → ((d : B) → g None d ≡ d) → ((x : A) (d e : B) → g (Some x) d ≡ g (Some x) e) → (o : Option A) (xs ys : List A) (d : B) → g (last_or o (xs ++ ys)) d ≡ g (last_or None ys) (g (last_or o xs) d)
last_of_two g none some o [] [] d = sym (none (g o d))
last_of_two g none some o [] (y ∷ ys) d = hidden g some y ys d (g o d)
last_of_two g none some o (x ∷ xs) ys d = last_of_two g none some (Some x) xs ys d

last_number_of_two : (g : Option ℕ → ℕ → ℕ) → ((d : ℕ) → g None d ≡ d) → ((x d e : ℕ) → g (Some x) d ≡ g (Some x) e) → (front : List ℕ) (xs ys : List (List ℕ)) (d : ℕ) → g (last_number front (xs ++ ys)) d ≡ g (last_number front ys) (g (last_number front xs) d)
last_number_of_two g none some front xs ys d = rw (filter_map-append (number_behind front) xs ys) (last_of_two g none some None (filter_map (number_behind front) xs) (filter_map (number_behind front) ys) d)

or_or : (a b c : Bool) → (a || (b || c)) ≡ ((a || b) || c)
or_or true b c = refl
or_or false b c = refl

any_of_two : (test : List ℕ → Bool) (a : Bool) (xs ys : List (List ℕ)) → (a || list_any test (xs ++ ys)) ≡ ((a || list_any test xs) || list_any test ys)
any_of_two test a xs ys = ap (λ (b : Bool). a || b) (list_any-append test xs ys) ∙ or_or a (list_any test xs) (list_any test ys)

same_options : (options : ResolverOpts) (n n' t t' a a' : ℕ) (e e' : Bool) → n ≡ n' → t ≡ t' → a ≡ a' → e ≡ e'
    → (let left : ResolverOpts = record options { ndots = n; timeout = t; attempts = a; edns0 = e } in left) ≡ record options { ndots = n'; timeout = t'; attempts = a'; edns0 = e' }
same_options options n n' t t' a a' e e' p q r s = cc

pub changed_by_two : (xs ys : List (List ℕ)) (options : ResolverOpts) → changed_by (xs ++ ys) options ≡ changed_by ys (changed_by xs options)
changed_by_two xs ys options = same_options options _ _ _ _ _ _ _ _
    (last_number_of_two (λ o d. unwrap_or o d) (λ d. refl) (λ x d e. refl) (codes "ndots:") xs ys options.ndots)
    (last_number_of_two (λ o d. unwrap_or (option_map (λ s. s * 1000000) o) d) (λ d. refl) (λ x d e. refl) (codes "timeout:") xs ys options.timeout)
    (last_number_of_two (λ o d. unwrap_or o d) (λ d. refl) (λ x d e. refl) (codes "attempts:") xs ys options.attempts)
    (any_of_two (λ word. bytes_eq word (codes "edns0")) options.edns0 xs ys)

-- one word, and the words after it
pub after_word : (before words : List (List ℕ)) (word : List ℕ) (options next final : ResolverOpts) → before ≡ word ∷ words → next ≡ changed_by (word ∷ []) options → changed_by before options ≡ final → changed_by words next ≡ final
after_word before words word options next final p q r =
    ap (λ (o : ResolverOpts). changed_by words o) q ∙ sym (changed_by_two (word ∷ []) words options) ∙ ap (λ (ws : List (List ℕ)). changed_by ws options) (sym p) ∙ r

-- one line, and the lines after it
pub after_line : (before lines : List (List (List ℕ))) (line : List (List ℕ)) (options next final : ResolverOpts) → before ≡ line ∷ lines → next ≡ changed_by (option_words line) options → changed_by (flat_map option_words before) options ≡ final → changed_by (flat_map option_words lines) next ≡ final
after_line before lines line options next final p q r =
    ap (λ (o : ResolverOpts). changed_by (flat_map option_words lines) o) q ∙ sym (changed_by_two (option_words line) (flat_map option_words lines) options) ∙ ap (λ (ls : List (List (List ℕ))). changed_by (flat_map option_words ls) options) (sym p) ∙ r
