-- The names that a message holds.
use Rattle.std.specs.Prelude.{Bool, ◌&&◌}
use Rattle.std.specs.List.{list_all}
use Rattle.dns_core.specs.Record.{is_qualified_data}
use Rattle.dns_core.specs.declared.record.Record.{Record}
use Rattle.dns_core.specs.declared.message.Message.{Message}

-- the owner and every name in the data are fully qualified
abbrev pub is_qualified_record : Record → Bool
is_qualified_record r = r.name.fqdn && is_qualified_data r.rdata

-- so it is with each record of the message
abbrev pub is_qualified_message : Message → Bool
is_qualified_message m =
    list_all is_qualified_record m.answers && list_all is_qualified_record m.authorities && list_all is_qualified_record m.additionals
