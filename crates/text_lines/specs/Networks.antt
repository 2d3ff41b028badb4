-- Networks, each in its one spelling: an address, a slash, and how many of its bits count. The bits
-- behind them may be set.
use Rattle.std.specs.Prelude.{ℕ, List, [], ◌∷◌, Option, Some, None, if◌then◌else◌, codes}
use Rattle.std.specs.Str.{bytes_eq}
use Rattle.std.specs.declared.net.ip_addr.IpAddr.{IpAddr}
use Rattle.resolver_settings.specs.Net.{Network, width_of}
use Rattle.text_lines.specs.Addresses.{ip_of}
use Rattle.text_lines.specs.Numbers.{◌>>=◌, number_of}
use Rattle.text_lines.specs.Pieces.{pieces}

-- the network of an address and a length up to that of its family
abbrev pub prefix_of : IpAddr → List ℕ → Option Network
prefix_of ip p = number_of (width_of ip) p >>= λ n. Some (record { addr = ip; prefix = n })

-- an address, and a length
abbrev pub net_from : List (List ℕ) → Option Network
net_from [] = None
net_from (a ∷ []) = None
net_from (a ∷ p ∷ []) = ip_of a >>= λ ip. prefix_of ip p
net_from (a ∷ p ∷ q ∷ rest) = None

-- the network that a word spells
abbrev pub net_of : List ℕ → Option Network
net_of w = net_from (pieces 47 w)

-- the networks that all these words spell
abbrev pub each_net : List (List ℕ) → Option (List Network)
each_net [] = Some []
each_net (w ∷ ws) = net_of w >>= λ n. each_net ws >>= λ ns. Some (n ∷ ns)

-- the networks that a word spells, with commas between them; a dash spells none
abbrev pub nets_of : List ℕ → Option (List Network)
nets_of w = if bytes_eq w (codes "-") then Some [] else each_net (pieces 44 w)
