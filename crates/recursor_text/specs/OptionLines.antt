-- Option lines of the whole format, which are not all read yet.
use Rattle.std.specs.Prelude.{ℕ, nat_lt, Bool, ◌||◌, List, [], ◌∷◌, Option, Some, None, if◌then◌else◌, codes}
use Rattle.std.specs.Str.{bytes_eq}
use Rattle.text_lines.specs.Fields.{Fields, checked, field, both, whole, nothing}
use Rattle.text_lines.specs.Networks.{nets_of}
use Rattle.text_lines.specs.NumberLists.{ports_of, delays_of}
use Rattle.text_lines.specs.Numbers.{◌>>=◌, number_within}

abbrev pub Line : Type 0
Line = List (List ℕ) → Option (Unit {0})

-- a number up to most
unfoldable pub number_line : ℕ → Line
number_line most = whole (field (number_within 0 most)) (λ x. tt)

unfoldable pub networks_line : Line
networks_line = whole (field nets_of) (λ x. tt)

unfoldable pub ports_line : Line
ports_line = whole (field ports_of) (λ x. tt)

unfoldable pub delays_line : Line
delays_line = whole (field delays_of) (λ x. tt)

abbrev pub seconds : Fields ℕ
seconds = field (number_within 0 4294967295)

-- a least and a most TTL
unfoldable pub bounds_line : Line
bounds_line ws = seconds ws >>= λ x. whole (field (number_within x.0 4294967295)) (λ y. tt) x.1

unfoldable pub damping_line : Line
damping_line = whole (both seconds (both seconds (field (number_within 0 255)))) (λ x. tt)

unfoldable pub encryption_line : Line
encryption_line [] = None
encryption_line (w ∷ ws) =
    if bytes_eq w (codes "off") then whole nothing (λ x. tt) ws
    else if bytes_eq w (codes "on") then damping_line ws
    else None

abbrev pub is_minimization : List ℕ → Bool
is_minimization w = bytes_eq w (codes "strict") || bytes_eq w (codes "relaxed")

unfoldable pub minimization_line : Line
minimization_line = whole (checked is_minimization) (λ x. tt)

-- the options whose value is a list of networks
unfoldable pub is_network_option : List ℕ → Bool
is_network_option w = bytes_eq w (codes "allow_answers") || bytes_eq w (codes "deny_answers") || bytes_eq w (codes "allow_server") || bytes_eq w (codes "deny_server")

unfoldable pub is_bounds_option : List ℕ → Bool
is_bounds_option w = bytes_eq w (codes "positive_ttl") || bytes_eq w (codes "negative_ttl")

-- the greatest value of an option that is a number
unfoldable pub most_of : List ℕ → Option ℕ
most_of w =
    if bytes_eq w (codes "ns_cache_size") then Some 65536
    else if bytes_eq w (codes "response_cache_size") then Some 4194304
    else if bytes_eq w (codes "recursion_limit") then Some 255
    else if bytes_eq w (codes "ns_recursion_limit") then Some 255
    else if bytes_eq w (codes "case_randomization") then Some 1
    else if bytes_eq w (codes "edns_payload_len") then Some 65535
    else None

-- an option that is no number
unfoldable pub listed_line : List ℕ → Line
listed_line w ws =
    if is_network_option w then networks_line ws
    else if bytes_eq w (codes "avoid_local_udp_ports") then ports_line ws
    else if is_bounds_option w then bounds_line ws
    else if bytes_eq w (codes "encryption") then encryption_line ws
    else if bytes_eq w (codes "qname_minimization") then minimization_line ws
    else if bytes_eq w (codes "first_delays") then delays_line ws
    else None

-- the value of an option
unfoldable pub value_line : List ℕ → Line
value_line w ws = elim (most_of w) [ Some most ↦ number_line most ws | None ↦ listed_line w ws ]

-- the place of an option in the order of all options, from 1, and 0 for a word that names none
unfoldable pub rank_of : List ℕ → ℕ
rank_of w =
    if bytes_eq w (codes "ns_cache_size") then 1
    else if bytes_eq w (codes "response_cache_size") then 2
    else if bytes_eq w (codes "recursion_limit") then 3
    else if bytes_eq w (codes "ns_recursion_limit") then 4
    else if bytes_eq w (codes "allow_answers") then 5
    else if bytes_eq w (codes "deny_answers") then 6
    else if bytes_eq w (codes "allow_server") then 7
    else if bytes_eq w (codes "deny_server") then 8
    else if bytes_eq w (codes "avoid_local_udp_ports") then 9
    else if bytes_eq w (codes "positive_ttl") then 10
    else if bytes_eq w (codes "negative_ttl") then 11
    else if bytes_eq w (codes "case_randomization") then 12
    else if bytes_eq w (codes "encryption") then 13
    else if bytes_eq w (codes "edns_payload_len") then 14
    else if bytes_eq w (codes "qname_minimization") then 15
    else if bytes_eq w (codes "first_delays") then 16
    else 0

-- an option and its value, where its rank is above this one
unfoldable pub option_line : ℕ → Line
option_line low [] = None
option_line low (w ∷ ws) = if nat_lt low (rank_of w) then value_line w ws else None
