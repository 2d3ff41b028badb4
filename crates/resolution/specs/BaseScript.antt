-- The base script: the root refers com. to 11.0.0.2, which refers example.com. to 11.0.0.3, which answers.
use Rattle.std.specs.Prelude.{ℕ, ◌+◌, List, [], ◌∷◌, true, false, None, codes, refl}
use Rattle.std.specs.declared.net.ip_addr.IpAddr.{IpAddr}
use Rattle.std.specs.declared.net.ip_addr.IpAddr.TheVariants.{V4}
use Rattle.std.specs.declared.net.ipv4_addr.Ipv4Addr.{Ipv4Addr}
use Rattle.dns_core.specs.Name.{DomainName}
use Rattle.dns_core.specs.Log.{Log, log_of}
use Rattle.dns_core.specs.declared.message.Query.{Query}
use Rattle.dns_core.specs.declared.message.Message.{Message}
use Rattle.dns_core.specs.declared.record.Record.{Record}
use Rattle.dns_core.specs.declared.record.RData.TheVariants.{A, NS, CNAME}
use Rattle.dns_core.specs.declared.connection.Protocol.TheVariants.{Udp}
use Rattle.dns_core.specs.declared.log.LogEntry.{LogEntry}
use Rattle.dns_core.specs.declared.log.LogEntry.TheVariants.{Opened, Asked, Told}
use Rattle.dns_core.specs.declared.log.ToldOutcome.TheVariants as outcome
use Rattle.resolution.specs.Names.{question}
use Rattle.recursor_types.specs.declared.policy.Policy.{Policy}
use Rattle.resolver_settings.specs.Options.{standard_options}
use Rattle.resolver_settings.specs.Ttl.{one_day}

-- ---- names, addresses, records

abbrev pub quad : ℕ → ℕ → ℕ → ℕ → Ipv4Addr
quad a b c d = record { octets = a ∷ b ∷ c ∷ d ∷ [] }

abbrev pub full : List (List ℕ) → DomainName
full labels = record { labels = labels; fqdn = true }

abbrev pub commercial : DomainName
commercial = full (codes "com" ∷ [])

abbrev pub nic : DomainName
nic = full (codes "a" ∷ codes "nic" ∷ codes "com" ∷ [])

abbrev pub example : DomainName
example = full (codes "example" ∷ codes "com" ∷ [])

abbrev pub ns_example : DomainName
ns_example = full (codes "ns" ∷ codes "example" ∷ codes "com" ∷ [])

abbrev pub a_record : DomainName → ℕ → Ipv4Addr → Record
a_record n ttl ip = record { name = n; ttl = ttl; dns_class = record { code = 1 }; record_type = record { code = 1 }; rdata = A ip; typed = refl }

abbrev pub ns_record : DomainName → ℕ → DomainName → Record
ns_record n ttl t = record { name = n; ttl = ttl; dns_class = record { code = 1 }; record_type = record { code = 2 }; rdata = NS t; typed = refl }

abbrev pub cname_record : DomainName → ℕ → DomainName → Record
cname_record n ttl t = record { name = n; ttl = ttl; dns_class = record { code = 1 }; record_type = record { code = 5 }; rdata = CNAME t; typed = refl }

-- ---- messages

-- a delegation with one server and its address
abbrev pub referral : DomainName → DomainName → Ipv4Addr → Message
referral n t ip = record {
  query = question n 2;
  response_code = record { code = 0 };
  authoritative = false;
  truncation = false;
  answers = [];
  authorities = ns_record n 172800 t ∷ [];
  additionals = a_record t 172800 ip ∷ [];
}

-- an authoritative answer to an address question
abbrev pub answer_to : DomainName → List Record → Message
answer_to n answers = record {
  query = question n 1;
  response_code = record { code = 0 };
  authoritative = true;
  truncation = false;
  answers = answers;
  authorities = [];
  additionals = [];
}

abbrev pub reply : Message
reply = answer_to example (a_record example 300 (quad 93 184 215 14) ∷ [])

-- ---- the log

-- an open that succeeds, and an ask that is answered; the first entry is numbered n
abbrev pub exchange : ℕ → Ipv4Addr → Query → Message → List LogEntry → List LogEntry
exchange n ip query m rest = Opened (V4 ip) Udp 0 None ∷ Told n 0 outcome.Connected ∷ Asked (V4 ip) Udp query 0 None ∷ Told (n + 2) 0 (outcome.Message m) ∷ rest

-- the twelve entries
abbrev pub entries : List LogEntry
entries =
    exchange 1 (quad 11 0 0 1) (question commercial 2) (referral commercial nic (quad 11 0 0 2)) (
    exchange 5 (quad 11 0 0 2) (question example 2) (referral example ns_example (quad 11 0 0 3)) (
    exchange 9 (quad 11 0 0 3) (question example 1) reply []))

abbrev pub log : Log
log = log_of entries

-- one root, no filter, and the standard bounds
abbrev pub policy : Policy
policy = record {
  roots = V4 (quad 11 0 0 1) ∷ [];
  server_filter = record { name = []; allow = []; deny = [] };
  answer_filter = record { name = []; allow = []; deny = [] };
  ttl_bounds = record { general = one_day; own = [] };
  timeout = 5000000;
  patience = 3;
  recursion_limit = 24;
  ns_recursion_limit = 24;
  strict = false;
  response_cache_size = 0;
  first_delays = 1 ∷ [];
  resolver = standard_options;
}

-- ---- the same with a delegation whose server lies outside the teller's zone

-- a name outside com.
abbrev pub elsewhere : DomainName
elsewhere = full (codes "ns" ∷ codes "elsewhere" ∷ codes "net" ∷ [])

abbrev pub stranger : IpAddr
stranger = V4 (quad 66 6 6 6)

-- 11.0.0.2, a server of com., gives 66.6.6.6 as the address of a name outside com.
abbrev pub stray_glue_entries : List LogEntry
stray_glue_entries =
    exchange 1 (quad 11 0 0 1) (question commercial 2) (referral commercial nic (quad 11 0 0 2)) (
    exchange 5 (quad 11 0 0 2) (question example 2) (referral example elsewhere (quad 66 6 6 6)) [])

abbrev pub stray_glue_log : Log
stray_glue_log = log_of stray_glue_entries

-- ---- an alias: x. leads to y., of which another response tells

abbrev pub x : DomainName
x = full (codes "x" ∷ [])

abbrev pub y : DomainName
y = full (codes "Y" ∷ [])

abbrev pub alias_reply : Message
alias_reply = answer_to x (cname_record x 60 y ∷ [])

abbrev pub target_reply : Message
target_reply = answer_to y (a_record y 300 (quad 1 2 3 4) ∷ [])

abbrev pub alias_log : Log
alias_log = log_of (
    exchange 1 (quad 11 0 0 1) (question x 1) alias_reply (
    exchange 5 (quad 11 0 0 1) (question y 1) target_reply []))

abbrev pub whole_reply : Message
whole_reply = answer_to x (cname_record x 60 y ∷ a_record y 300 (quad 1 2 3 4) ∷ [])
