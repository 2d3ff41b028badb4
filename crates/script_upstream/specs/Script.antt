-- Scripts in which every name is fully qualified.
use Rattle.std.specs.Prelude.{Bool, true, not, ◌&&◌, Option, Some, None, Result, Ok, Err}
use Rattle.std.specs.List.{list_all}
use Rattle.dns_core.specs.Message.{is_qualified_message}
use Rattle.dns_core.specs.NetError.{is_qualified_error, is_no_records}
use Rattle.dns_core.specs.declared.net_error.NetError.{NetError}
use Rattle.dns_core.specs.declared.message.Message.{Message as Response}
use Rattle.script_upstream.specs.declared.script.script.ScriptLine.{ScriptLine}
use Rattle.script_upstream.specs.declared.script.script.ScriptLine.TheVariants.{Connect, Refuse, Reply}
use Rattle.script_upstream.specs.declared.script.script.Script.{Script}

-- the name of the line, and every name in the records that it tells, is fully qualified; no connection is told a negative response
abbrev pub is_qualified_outcome : Result Response NetError → Bool
is_qualified_outcome (Ok m) = is_qualified_message m
is_qualified_outcome (Err e) = is_qualified_error e

abbrev pub is_plain : Option NetError → Bool
is_plain None = true
is_plain (Some e) = is_qualified_error e && not (is_no_records e)

abbrev pub is_qualified_line : ScriptLine → Bool
is_qualified_line (Connect ip protocol delay error) = is_plain error
is_qualified_line (Refuse ip protocol) = true
is_qualified_line (Reply ip protocol name query_type delay outcome) = name.fqdn && is_qualified_outcome outcome

abbrev pub is_qualified_script : Script → Bool
is_qualified_script s = list_all is_qualified_line s.lines
