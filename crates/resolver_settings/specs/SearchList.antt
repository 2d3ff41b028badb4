-- The search list and the domain that the lines of a text set.
use Rattle.std.specs.Prelude.{ℕ, ◌+◌, ◌==◌, ◌&&◌, Bool, true, false, not, List, [], drop, position, Option, Some, None, option_map, Result, Ok, Err, codes, if◌then◌else◌}
use Rattle.std.specs.List.{filter_map, last_or, position_from}
use Rattle.std.specs.Option.{option_or, unwrap_or, is_none}
use Rattle.std.specs.Result.{result_ok}
use Rattle.std.specs.Str.{bytes_eq}
use Rattle.dns_core.specs.Name.{DomainName}
use Rattle.dns_core.specs.NameText.{name_of}
use Rattle.resolver_settings.specs.Directives.{domain_word, search_words}
use Rattle.resolver_settings.specs.declared.conf_error.ConfError.{ConfError}
use Rattle.resolver_settings.specs.declared.conf_error.ConfError.TheVariants.{BadSearchName}

-- the last search list, whether a domain or a search set it
abbrev pub last_list : List (List (List ℕ)) → List (List ℕ)
last_list lines = unwrap_or (last_or None (filter_map search_words lines)) []

-- the word `--` stands for no name
abbrev pub is_left_out : List ℕ → Bool
is_left_out word = bytes_eq word (codes "--")

-- the name that a word spells; its labels have any printing bytes but the dot and the backslash
abbrev pub spelled_name : List ℕ → Option DomainName
spelled_name word = result_ok (name_of false word)

abbrev pub is_unreadable : List ℕ → Bool
is_unreadable word = not (is_left_out word) && is_none (spelled_name word)

abbrev pub search_name : List ℕ → Option DomainName
search_name word = if is_left_out word then None else spelled_name word

-- the names of a search list, or the number of its first word that cannot be read, from 1
abbrev pub search_names : List (List ℕ) → Result (List DomainName) ConfError
search_names words = elim (position_from is_unreadable 1 words) [ Some number ↦ Err (BadSearchName number) | None ↦ Ok (filter_map search_name words) ]

-- the domain that the last such line sets
abbrev pub last_domain : List (List (List ℕ)) → Option (List ℕ)
last_domain lines = last_or None (filter_map domain_word lines)

-- the part of a host's name after its first dot
abbrev pub domain_of_host : List ℕ → Option (List ℕ)
domain_of_host host = option_map (λ place. drop (place + 1) host) (position (λ b. b == 46) host)

-- the domain that is set or, without one, that of the host, where it is a name
abbrev pub domain_name : Option (List ℕ) → Option DomainName
domain_name None = None
domain_name (Some word) = result_ok (name_of true word)

abbrev pub domain_of : List (List (List ℕ)) → List ℕ → Option DomainName
domain_of lines host = domain_name (option_or (last_domain lines) (domain_of_host host))
