-- The options that the lines of a text set.
use Rattle.std.specs.Prelude.{ℕ, ◌*◌, ◌&&◌, ◌||◌, nat_le, List, take, drop, length, Option, Some, None, option_map, codes, decimal, if◌then◌else◌}
use Rattle.std.specs.List.{filter_map, flat_map, last_or, list_any}
use Rattle.std.specs.Option.{unwrap_or}
use Rattle.std.specs.Str.{bytes_eq}
use Rattle.std.specs.Str.Parse.{digits_value}
use Rattle.resolver_settings.specs.Directives.{option_words}
use Rattle.resolver_settings.specs.Options.{standard_options}
use Rattle.resolver_settings.specs.declared.options.ResolverOpts.{ResolverOpts}

-- the number of 16 bits whose decimal digits the word is
abbrev pub number_of : List ℕ → Option ℕ
number_of word = if bytes_eq word (decimal (digits_value 10 word)) && nat_le (digits_value 10 word) 65535 then Some (digits_value 10 word) else None

-- the number behind a front
abbrev pub number_behind : List ℕ → List ℕ → Option ℕ
number_behind front word = if bytes_eq (take (length front) word) front then number_of (drop (length front) word) else None

-- the last number behind this front
abbrev pub last_number : List ℕ → List (List ℕ) → Option ℕ
last_number front words = last_or None (filter_map (number_behind front) words)

-- The options as the words change them: the last number of each kind counts. A timeout is told in seconds.
abbrev pub changed_by : List (List ℕ) → ResolverOpts → ResolverOpts
changed_by words options = record options {
  ndots = unwrap_or (last_number (codes "ndots:") words) options.ndots;
  timeout = unwrap_or (option_map (λ seconds. seconds * 1000000) (last_number (codes "timeout:") words)) options.timeout;
  attempts = unwrap_or (last_number (codes "attempts:") words) options.attempts;
  edns0 = options.edns0 || list_any (λ word. bytes_eq word (codes "edns0")) words;
}

-- the options that the lines of a text set
abbrev pub options_of : List (List (List ℕ)) → ResolverOpts
options_of lines = changed_by (flat_map option_words lines) standard_options
