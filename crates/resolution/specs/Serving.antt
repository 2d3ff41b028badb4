-- Which addresses serve a zone, by what was told (RFC 1034 section 5.3.3, step 4b).
use Rattle.std.specs.Prelude.{◌≡◌, if◌then◌else◌, ℕ, ◌<◌, ◌⊎◌, Bool, false, not, ◌&&◌, IsTrue, List, filter, Contains, Option, Some, None}
use Rattle.std.specs.List.{list_any, filter_map}
use Rattle.std.specs.declared.net.ip_addr.IpAddr.{IpAddr}
use Rattle.dns_core.specs.Name.{DomainName, same_names}
use Rattle.dns_core.specs.Classifying.{is_ns}
use Rattle.dns_core.specs.Log.{Log}
use Rattle.dns_core.specs.declared.message.Query.{Query}
use Rattle.dns_core.specs.declared.message.Message.{Message}
use Rattle.dns_core.specs.declared.record.Record.{Record}
use Rattle.dns_core.specs.declared.log.ToldOutcome.{ToldOutcome}
use Rattle.resolver_settings.specs.Access.{denies}
use Rattle.resolution.specs.Names.{root, is_root, base, is_above, walk, question}
use Rattle.resolution.specs.Records.{address, ns_target, records}
use Rattle.resolution.specs.Class.{class_of}
use Rattle.recursor_types.specs.declared.policy.Policy.{Policy}
use Rattle.resolution.specs.Verdict.{verdict, is_all_denied}
use Rattle.resolution.specs.Telling.{Tells}
use Rattle.resolution.specs.declared.class.Class.TheVariants.{Positive}
use Rattle.resolution.specs.declared.verdict.Verdict.TheVariants.{Pos}

-- the message has an NS record named `cut`
abbrev pub is_delegation : Message → DomainName → Bool
is_delegation kept cut = list_any (λ r. is_ns r && same_names r.name cut) (records kept)

-- the target of an NS record named at or below a zone
abbrev pub target_below : DomainName → Record → Option DomainName
target_below zone r = if is_above zone r.name then ns_target r else None

-- the servers of `cut` by name: the targets, in order, of the NS records named at or below the base of `cut`
abbrev pub targets : Message → DomainName → List DomainName
targets kept cut = filter_map (target_below (base cut)) (records kept)

-- the address that a record holds under one of these names
abbrev pub address_under : List DomainName → Record → Option IpAddr
address_under names r = if list_any (same_names r.name) names then address r else None

abbrev pub addresses_under : List DomainName → List Record → List IpAddr
addresses_under names rs = filter_map (address_under names) rs

-- the addresses that a delegation of `cut` has beside it, for its servers
abbrev pub glue : Message → DomainName → List IpAddr
glue kept cut = addresses_under (targets kept cut) (records kept)

-- those that may be asked
abbrev pub allowed : (IpAddr → Bool) → List IpAddr → List IpAddr
allowed denied ips = filter (λ ip. not (denied ip)) ips

-- It is the question for an IPv4 or an IPv6 address of t.
abbrev pub IsAddressQuestion : DomainName → Query → Type 0
IsAddressQuestion t query = (query ≡ question t 1) ⊎ (query ≡ question t 28)

mutual
  -- By what was told below n, the address serves the zone.
  pub data Serves (policy : Policy) (log : Log) : ℕ → IpAddr → DomainName → Type 0 where
    -- a root serves the root
    of_root : {n : ℕ} {ip : IpAddr} → Contains policy.roots ip → Serves policy log n ip root
    -- a delegation of the zone has the address beside it
    of_glue : {n : ℕ} {ip : IpAddr} {c : DomainName} {k : Message}
        → Delegates policy log n c k → denies policy.server_filter ip ≡ false
        → Contains (glue k c) ip → Serves policy log n ip c
    -- what counts of the answer to an address question for one of its servers has the address under the name of one
    of_target : {n j moment : ℕ} {ip : IpAddr} {c t z : DomainName} {k answer : Message} {q : Query} {o : ToldOutcome}
        → Delegates policy log n c k → denies policy.server_filter ip ≡ false
        → Contains (targets k c) t → IsAddressQuestion t q → j < n → Heard policy log j q o moment z
        → verdict policy o q z ≡ Some (Pos answer) → Contains (addresses_under (targets k c) (records answer)) ip → Serves policy log n ip c
    -- the answer to an address question for one of its servers has the address, under any name
    of_answer : {n j moment : ℕ} {ip : IpAddr} {c t z : DomainName} {k m : Message} {q : Query} {o : ToldOutcome}
        → Delegates policy log n c k → denies policy.server_filter ip ≡ false
        → Contains (targets k c) t → IsAddressQuestion t q → j < n → Heard policy log j q o moment z
        → class_of o q ≡ Some (Positive m) → is_all_denied (denies policy.answer_filter) m ≡ false
        → Contains (filter_map address m.answers) ip → denies policy.answer_filter ip ≡ false → Serves policy log n ip c

  -- Below n a delegation of c, which is not the root, was told, and k is what counts of it.
  pub data Delegates (policy : Policy) (log : Log) : ℕ → DomainName → Message → Type 0 where
    delegates : {n i moment : ℕ} {c z : DomainName} {k : Message} {o : ToldOutcome}
        → i < n → Heard policy log i (question c 2) o moment z
        → verdict policy o (question c 2) z ≡ Some (Pos k) → IsTrue (is_delegation k c) → is_root c ≡ false → Delegates policy log n c k

  -- Entry i tells the outcome for the question, by an address that served the zone when it was asked, and the zone is at or above the name.
  pub data Heard (policy : Policy) (log : Log) : ℕ → Query → ToldOutcome → ℕ → DomainName → Type 0 where
    heard : {i ask moment : ℕ} {q : Query} {o : ToldOutcome} {teller : IpAddr} {z : DomainName}
        → Tells log i q o ask teller moment → Serves policy log ask teller z → IsTrue (is_above z (walk q)) → Heard policy log i q o moment z
