-- What each line of a world says that is no record line.
use Rattle.std.specs.Prelude.{ℕ, ◌+◌, List, [], ◌∷◌, Bool, true, false, ◌||◌, Option, Some, None, if◌then◌else◌, codes}
use Rattle.std.specs.Str.{bytes_eq}
use Rattle.dns_core.specs.Name.{DomainName}
use Rattle.text_lines.specs.Addresses.{ip_of}
use Rattle.text_lines.specs.Fields.{Fields, field, in_table, both, whole}
use Rattle.text_lines.specs.Names.{full_name}
use Rattle.text_lines.specs.Numbers.{◌>>=◌, number_within}
use Rattle.text_lines.specs.Pieces.{pieces}
use Rattle.text_lines.specs.Lines.{delay_field}
use Rattle.recursor_text.specs.Counts.{numeral_value}
use Rattle.recursor_text.specs.declared.world_reading.lines.ZoneHead.{ZoneHead}
use Rattle.recursor_text.specs.declared.world_reading.lines.WorldForm.{WorldForm}
use Rattle.recursor_text.specs.declared.world_reading.lines.WorldForm.TheVariants as form

-- how many zones a world may have
abbrev pub most_zones : ℕ
most_zones = 10000

-- whether an answer follows the aliases inside a zone
abbrev pub alias_words : List (List ℕ × Bool)
alias_words = (codes "alone", false) ∷ (codes "chain", true) ∷ []

-- how many records a zone has
abbrev pub count_field : Fields ℕ
count_field = field numeral_value

abbrev pub zone_fields : Fields (DomainName × ℕ)
zone_fields = both (field full_name) count_field

abbrev pub head_from : DomainName × ℕ → ZoneHead
head_from x = record { apex = x.0; count = x.1 }

-- the numbers that all these words spell, the first from this number on, and each above the one before
abbrev pub rising : ℕ → List (List ℕ) → Option (List ℕ)
rising low [] = Some []
rising low (w ∷ ws) = number_within low most_zones w >>= λ n. rising (n + 1) ws >>= λ ns. Some (n ∷ ns)

-- the same of at least one word
abbrev pub zone_numbers : ℕ → List (List ℕ) → Option (List ℕ)
zone_numbers low [] = None
zone_numbers low (w ∷ ws) = rising low (w ∷ ws)

unfoldable pub delay_of : List (List ℕ) → Option WorldForm
delay_of = whole delay_field form.Delay

unfoldable pub aliases_of : List (List ℕ) → Option WorldForm
aliases_of = whole (field (in_table alias_words)) form.Aliases

unfoldable pub zone_of : List (List ℕ) → Option WorldForm
zone_of = whole zone_fields (λ x. form.Zone (head_from x))

unfoldable pub host_of : List (List ℕ) → Option WorldForm
host_of ws = field ip_of ws >>= λ x. zone_numbers 1 x.1 >>= λ ns. Some (form.Host (record { ip = x.0; zones = ns }))

-- the word that a line of a world begins with
abbrev pub is_world_word : List ℕ → Bool
is_world_word w = bytes_eq w (codes "host") || bytes_eq w (codes "zone") || bytes_eq w (codes "delay") || bytes_eq w (codes "aliases")

-- the first of these words is such a one
unfoldable pub starts_world : List (List ℕ) → Bool
starts_world [] = false
starts_world (w ∷ ws) = is_world_word w

abbrev pub is_world_line : List ℕ → Bool
is_world_line line = starts_world (pieces 32 line)

-- the line of the kind that the first word names
unfoldable pub world_forms_of : List (List ℕ) → Option WorldForm
world_forms_of [] = None
world_forms_of (w ∷ ws) =
    if bytes_eq w (codes "host") then host_of ws
    else if bytes_eq w (codes "zone") then zone_of ws
    else if bytes_eq w (codes "delay") then delay_of ws
    else if bytes_eq w (codes "aliases") then aliases_of ws
    else None

abbrev pub world_form_of : List ℕ → Option WorldForm
world_form_of line = world_forms_of (pieces 32 line)
