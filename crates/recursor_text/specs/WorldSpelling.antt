-- The one text of each world, and which worlds have one.
use Rattle.std.specs.Prelude.{◌≡◌, ℕ, ◌+◌, ◌<◌, ◌≤◌, Bool, true, false, List, [], ◌∷◌, ◌++◌, length, map, codes, decimal}
use Rattle.std.specs.List.{flat_map, AllByRecursion}
use Rattle.dns_core.specs.Name.{DomainName}
use Rattle.dns_core.specs.NameText.{text_of as name_text}
use Rattle.dns_core.specs.declared.record.Record.{Record}
use Rattle.text_lines.specs.Codes.{class_in}
use Rattle.text_lines.specs.Texts.{ip_text}
use Rattle.text_lines.specs.Spelling.{spelled, IsFullName, IsAddress}
use Rattle.text_lines.specs.LineSpelling.{record_text, IsRecord, most_delay}
use Rattle.zone_rules.specs.declared.world.Zone.{Zone}
use Rattle.zone_rules.specs.declared.world.Host.{Host}
use Rattle.zone_rules.specs.declared.world.World.{World}
use Rattle.recursor_text.specs.Counts.{numeral}
use Rattle.recursor_text.specs.Lines.{most_zones}
use Rattle.recursor_text.specs.Listed.{has_apex, has_address}
use Rattle.recursor_text.specs.WorldSteps.{most_hosts}

-- ---- the words of each line

abbrev pub delay_words : ℕ → List (List ℕ)
delay_words n = codes "delay" ∷ decimal n ∷ []

abbrev pub alias_text : Bool → List ℕ
alias_text false = codes "alone"
alias_text true = codes "chain"

abbrev pub aliases_words : Bool → List (List ℕ)
aliases_words chain = codes "aliases" ∷ alias_text chain ∷ []

-- the first line of a zone: its apex, and how many records follow
abbrev pub zone_words : DomainName → ℕ → List (List ℕ)
zone_words apex count = codes "zone" ∷ name_text apex ∷ numeral count ∷ []

abbrev pub host_words : Host → List (List ℕ)
host_words h = codes "host" ∷ ip_text h.ip ∷ map decimal h.zones

-- ---- the lines

-- a zone has its records behind it
abbrev pub zone_lines : Zone → List (List ℕ)
zone_lines z = spelled (zone_words z.apex (length z.records)) ∷ map record_text z.records

abbrev pub host_line : Host → List ℕ
host_line h = spelled (host_words h)

abbrev pub to_aliases : World → List (List ℕ)
to_aliases w = spelled (delay_words w.delay) ∷ spelled (aliases_words w.chain) ∷ []

abbrev pub to_zones : World → List (List ℕ)
to_zones w = to_aliases w ++ flat_map zone_lines w.zones

-- the lines of a world
abbrev pub world_lines : World → List (List ℕ)
world_lines w = to_zones w ++ map host_line w.hosts

-- ---- what a world may say

-- a record of class IN
pub record IsZoneRecord (r : Record) : Type 0 where
  pub fits : IsRecord r
  pub class : r.dns_class ≡ class_in

pub record IsZone (z : Zone) : Type 0 where
  pub apex : IsFullName z.apex
  pub records : AllByRecursion IsZoneRecord z.records

-- numbers that rise, the first from low on, up to most
abbrev pub RiseWithin : ℕ → ℕ → List ℕ → Type 0
RiseWithin low most [] = Unit {0}
RiseWithin low most (n ∷ ns) = (low ≤ n) × (n ≤ most) × RiseWithin (n + 1) most ns

-- a host of a world with so many zones serves some of them, and names them in their order
pub record IsHost (zones : ℕ) (h : Host) : Type 0 where
  pub address : IsAddress h.ip
  pub some : 0 < length h.zones
  pub rise : RiseWithin 1 zones h.zones

-- none is like one before it, nor like these
abbrev pub Differ : {X : Type 0} → (List X → X → Bool) → List X → List X → Type 0
Differ like before [] = Unit {0}
Differ like before (x ∷ xs) = (like before x ≡ false) × Differ like (before ++ x ∷ []) xs

-- no two zones have one apex
abbrev pub ApexesDiffer : List Zone → Type 0
ApexesDiffer zones = Differ (λ before z. has_apex before z.apex) [] zones

-- no two hosts have one address
abbrev pub AddressesDiffer : List Host → Type 0
AddressesDiffer hosts = Differ (λ before h. has_address before h.ip) [] hosts

pub record IsWorld (w : World) : Type 0 where
  pub soon : w.delay ≤ most_delay
  pub some_zones : 0 < length w.zones
  pub few_zones : length w.zones ≤ most_zones
  pub zones : AllByRecursion IsZone w.zones
  pub apexes : ApexesDiffer w.zones
  pub few_hosts : length w.hosts ≤ most_hosts
  pub hosts : AllByRecursion (IsHost (length w.zones)) w.hosts
  pub addresses : AddressesDiffer w.hosts
