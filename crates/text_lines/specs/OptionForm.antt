-- What an option line says that is read, after its first word.
use Rattle.std.specs.Prelude.{ℕ, Bool, true, false, List, [], ◌∷◌, Option, Some, None, if◌then◌else◌, codes}
use Rattle.std.specs.Str.{bytes_eq}
use Rattle.resolver_settings.specs.Net.{Network}
use Rattle.text_lines.specs.declared.lines.option_form.Bounds.{Bounds}
use Rattle.text_lines.specs.declared.lines.option_form.OptionLine.{OptionLine}
use Rattle.text_lines.specs.declared.lines.option_form.OptionLine.TheVariants.{ResponseCacheSize, RecursionLimit, NsRecursionLimit, AllowAnswers, DenyAnswers, AllowServer, DenyServer, AvoidLocalUdpPorts, PositiveTtl, NegativeTtl, CaseRandomization, EdnsPayloadLen, FirstDelays}
use Rattle.text_lines.specs.Fields.{Fields, field, in_table, whole, wide_field}
use Rattle.text_lines.specs.Networks.{nets_of}
use Rattle.text_lines.specs.NumberLists.{ports_of, delays_of}
use Rattle.text_lines.specs.Numbers.{◌>>=◌, number_within}

abbrev pub nets_field : Fields (List Network)
nets_field = field nets_of

abbrev pub size_field : Fields ℕ
size_field = field (number_within 0 4194304)

abbrev pub limit_field : Fields ℕ
limit_field = field (number_within 0 255)

abbrev pub ports_field : Fields (List ℕ)
ports_field = field ports_of

-- whether something is on
abbrev pub switches : List (List ℕ × Bool)
switches = (codes "0", false) ∷ (codes "1", true) ∷ []

abbrev pub switch_field : Fields Bool
switch_field = field (in_table switches)

-- a number of bytes
abbrev pub payload_field : Fields ℕ
payload_field = field (number_within 0 65535)

abbrev pub delays_field : Fields (List ℕ)
delays_field = field delays_of

-- the least number of seconds, and the greatest, which is no smaller
abbrev pub bounds_fields : Fields Bounds
bounds_fields ws = wide_field ws >>= λ x. field (number_within x.0 4294967295) x.1 >>= λ y. Some (record { least = x.0; most = y.0 }, y.1)

unfoldable pub response_cache_size_of : List (List ℕ) → Option OptionLine
response_cache_size_of = whole size_field ResponseCacheSize

unfoldable pub recursion_limit_of : List (List ℕ) → Option OptionLine
recursion_limit_of = whole limit_field RecursionLimit

unfoldable pub ns_recursion_limit_of : List (List ℕ) → Option OptionLine
ns_recursion_limit_of = whole limit_field NsRecursionLimit

unfoldable pub allow_answers_of : List (List ℕ) → Option OptionLine
allow_answers_of = whole nets_field AllowAnswers

unfoldable pub deny_answers_of : List (List ℕ) → Option OptionLine
deny_answers_of = whole nets_field DenyAnswers

unfoldable pub allow_server_of : List (List ℕ) → Option OptionLine
allow_server_of = whole nets_field AllowServer

unfoldable pub deny_server_of : List (List ℕ) → Option OptionLine
deny_server_of = whole nets_field DenyServer

unfoldable pub avoid_local_udp_ports_of : List (List ℕ) → Option OptionLine
avoid_local_udp_ports_of = whole ports_field AvoidLocalUdpPorts

unfoldable pub positive_ttl_of : List (List ℕ) → Option OptionLine
positive_ttl_of = whole bounds_fields PositiveTtl

unfoldable pub negative_ttl_of : List (List ℕ) → Option OptionLine
negative_ttl_of = whole bounds_fields NegativeTtl

unfoldable pub case_randomization_of : List (List ℕ) → Option OptionLine
case_randomization_of = whole switch_field CaseRandomization

unfoldable pub edns_payload_len_of : List (List ℕ) → Option OptionLine
edns_payload_len_of = whole payload_field EdnsPayloadLen

unfoldable pub first_delays_of : List (List ℕ) → Option OptionLine
first_delays_of = whole delays_field FirstDelays

-- one of the options behind the networks
unfoldable pub later_option_of : List ℕ → List (List ℕ) → Option OptionLine
later_option_of w ws =
    if bytes_eq w (codes "avoid_local_udp_ports") then avoid_local_udp_ports_of ws
    else if bytes_eq w (codes "positive_ttl") then positive_ttl_of ws
    else if bytes_eq w (codes "negative_ttl") then negative_ttl_of ws
    else if bytes_eq w (codes "case_randomization") then case_randomization_of ws
    else if bytes_eq w (codes "edns_payload_len") then edns_payload_len_of ws
    else if bytes_eq w (codes "first_delays") then first_delays_of ws
    else None

-- the option that the next word names
unfoldable pub option_line_of : List (List ℕ) → Option OptionLine
option_line_of [] = None
option_line_of (w ∷ ws) =
    if bytes_eq w (codes "response_cache_size") then response_cache_size_of ws
    else if bytes_eq w (codes "recursion_limit") then recursion_limit_of ws
    else if bytes_eq w (codes "ns_recursion_limit") then ns_recursion_limit_of ws
    else if bytes_eq w (codes "allow_answers") then allow_answers_of ws
    else if bytes_eq w (codes "deny_answers") then deny_answers_of ws
    else if bytes_eq w (codes "allow_server") then allow_server_of ws
    else if bytes_eq w (codes "deny_server") then deny_server_of ws
    else later_option_of w ws
