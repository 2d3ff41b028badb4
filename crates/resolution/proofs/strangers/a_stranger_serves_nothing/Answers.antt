use Rattle.std.proofs.Common.{Bool, false, List, [], ◌∷◌, inl, inr, refl}
use Rattle.std.specs.Prelude.{nat_eq}
use Rattle.std.specs.List.{filter_map, flat_map}
use Rattle.std.specs.Cmp.Lexicographic.{pointwise}
use Rattle.std.specs.declared.net.ip_addr.IpAddr.{IpAddr}
use Rattle.std.specs.declared.net.ip_addr.IpAddr.TheVariants.{V4, V6}
use Rattle.dns_core.specs.declared.log.LogEntry.{LogEntry}
use Rattle.dns_core.specs.declared.log.LogEntry.TheVariants.{Opened, Asked, Waited, Told, GaveUp}
use Rattle.dns_core.specs.declared.log.ToldOutcome.{ToldOutcome}
use Rattle.dns_core.specs.declared.log.ToldOutcome.TheVariants as outcome
use Rattle.resolution.specs.Records.{address, records}
use Rattle.resolution.specs.BaseScript as script
use Rattle.resolution.proofs.ElementsFiltered.{Has-from_Contains, flat_map-Has}
use Rattle.resolution.proofs.EntriesNumbered.{Has-from_Logged, none_passes}
use Rattle.resolution.proofs.NoAddressIsInvented.{no_invention}
use Rattle.resolution.proofs.strangers.a_stranger_serves_nothing.Goals as goal

abbrev is_stranger : IpAddr → Bool
is_stranger (V4 a) = pointwise nat_eq a.octets (66 ∷ 6 ∷ 6 ∷ 6 ∷ [])
is_stranger (V6 a) = false

abbrev outcome_addresses : ToldOutcome → List IpAddr
outcome_addresses (outcome.Message m) = filter_map address (records m)
outcome_addresses outcome.Connected = []
outcome_addresses (outcome.Error e) = []

-- the addresses that an entry tells
abbrev told_addresses : LogEntry → List IpAddr
told_addresses (Told ask moment o) = outcome_addresses o
told_addresses (Opened ip protocol moment refused) = []
told_addresses (Asked ip protocol query moment refused) = []
told_addresses (Waited of) = []
told_addresses (GaveUp of moment) = []

pub returns : goal.returns
returns c = λ n z s. elim (no_invention script.policy script.log s) [
  | inl a ↦ none_passes is_stranger script.policy.roots script.stranger (Has-from_Contains script.policy.roots script.stranger a) refl refl
  | inr t ↦ none_passes is_stranger (flat_map told_addresses script.entries) script.stranger
      (flat_map-Has told_addresses script.entries _ script.stranger (Has-from_Logged script.entries t.i _ t.told) (Has-from_Contains _ script.stranger t.held)) refl refl
]
