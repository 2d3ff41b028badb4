-- What is left of an answer: nothing of another class than the question's, and no denied address.
use Rattle.std.specs.Prelude.{Bool, [], find, if◌then◌else◌, Option, Some, None, Ok, Err}
use Rattle.std.specs.declared.net.ip_addr.IpAddr.{IpAddr}
use Rattle.dns_core.specs.declared.message.Query.{Query}
use Rattle.dns_core.specs.declared.message.Message.{Message}
use Rattle.dns_core.specs.declared.record.Record.{Record}
use Rattle.dns_core.specs.declared.net_error.NetError.{NetError}
use Rattle.dns_core.specs.declared.net_error.NetError.TheVariants as net
use Rattle.dns_core.specs.declared.net_error.DnsError.TheVariants as dns
use Rattle.resolver_settings.specs.Access.{Access, denies}
use Rattle.resolution.specs.Verdict.{allows_all}
use Rattle.resolution.specs.Records.{records}
use Rattle.resolution.specs.Class.{is_foreign}
use Rattle.resolution.specs.Verdict.{without_denied, is_all_denied}
use Rattle.resolution.specs.Lookups.{Answered}

-- the set denies the address; where there is no set, nothing does
abbrev pub denied_by : Option Access → IpAddr → Bool
denied_by None = allows_all
denied_by (Some set) = denies set

-- of a record of another class
abbrev pub foreign_class : Record → NetError
foreign_class r = net.ForeignClassRecord r.name r.dns_class r.record_type

-- there is no such name, and no SOA says for how long
abbrev pub nothing_left : Query → NetError
nothing_left q = net.Dns (dns.NoRecordsFound (record { query = q; soa = None; ns = None; response_code = record { code = 3 }; authorities = [] }))

-- The first record of another class, section by section, refuses the answer. Else it is left without the records that hold a denied address; where that empties it, there is no such name.
abbrev pub filtered : Query → (IpAddr → Bool) → Message → Answered
filtered query denied m = elim (find (is_foreign query) (records m)) [
  | Some r ↦ Err (foreign_class r)
  | None ↦ if is_all_denied denied m then Err (nothing_left query) else Ok (without_denied denied m)
]
