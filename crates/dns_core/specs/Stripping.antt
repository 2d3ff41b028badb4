-- What stays of a response without the DO flag.
use Rattle.std.specs.Prelude.{Bool, not, ◌||◌, ◌==◌, filter, if◌then◌else◌}
use Rattle.dns_core.specs.Codes.{is_dnssec_type}
use Rattle.dns_core.specs.declared.codes.RecordType.{RecordType}
use Rattle.dns_core.specs.declared.record.Record.{Record}
use Rattle.dns_core.specs.declared.message.Message.{Message}

-- what stays without the DO flag
abbrev pub is_kept : RecordType → Record → Bool
is_kept asked r = not (is_dnssec_type r.record_type) || (r.record_type.code == asked.code)

abbrev pub strip_of : Message → Bool → Message
strip_of m dnssec_ok = if dnssec_ok then m else (record m { answers = filter (is_kept m.query.query_type) m.answers; authorities = filter (is_kept m.query.query_type) m.authorities; additionals = filter (is_kept m.query.query_type) m.additionals })
