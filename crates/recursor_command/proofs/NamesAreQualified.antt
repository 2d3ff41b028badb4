-- The script or the world of a scenario has fully qualified names alone.
use Rattle.std.proofs.Common.{◌≡◌, Bool, true, List, [], ◌∷◌, Some, None, Ok, Err, refl, ap, ◌∙◌, subst}
use Rattle.std.specs.Prelude.{IsTrue, ◌&&◌, not}
use Rattle.std.specs.List.{list_all, AllByRecursion}
use Rattle.dns_core.specs.Record.{is_qualified_data}
use Rattle.dns_core.specs.Message.{is_qualified_record}
use Rattle.dns_core.specs.NetError.{is_qualified_error, is_no_records}
use Rattle.dns_core.specs.declared.record.Record.{Record}
use Rattle.dns_core.specs.declared.record.RData.{RData}
use Rattle.dns_core.specs.declared.record.RData.TheVariants.{A, AAAA, NS, CNAME, SOA, RRSIG, Opaque}
use Rattle.script_upstream.specs.declared.script.script.ScriptLine.{ScriptLine}
use Rattle.script_upstream.specs.declared.script.script.ScriptLine.TheVariants.{Connect, Refuse, Reply}
use Rattle.script_upstream.specs.Script.{is_qualified_line, is_qualified_script}
use Rattle.script_upstream.specs.declared.script.script.Script.{Script}
use Rattle.zone_rules.specs.declared.world.Zone.{Zone}
use Rattle.zone_rules.specs.declared.world.World.{World}
use Rattle.world_upstream.specs.Qualified.{is_qualified_world}
use Rattle.text_lines.specs.LineSpelling.{IsData, IsRecord, IsScriptLine}
use Rattle.recursor_text.specs.WorldSpelling.{IsZoneRecord, IsZone, IsWorld}
use Rattle.recursor_text.specs.Spelling.{IsUpstream}
use Rattle.recursor_text.specs.declared.scenario.Upstream.{Upstream}
use Rattle.recursor_text.specs.declared.scenario.Upstream.TheVariants.{Script as FromScript, World as FromWorld}
use Rattle.recursor_command.proofs.ScriptErrors.{failure_qualified, failure_no_records}

both : (a b : Bool) → a ≡ true → b ≡ true → (a && b) ≡ true
both a b p q = ap (λ x. x && b) p ∙ q

data_qualified : (d : RData) → IsData d → is_qualified_data d ≡ true
data_qualified (A ip) h = refl
data_qualified (AAAA ip) h = refl
data_qualified (NS target) h = h.1
data_qualified (CNAME target) h = h.1
data_qualified (SOA soa) h = both soa.mname.fqdn soa.rname.fqdn h.mname.1 h.rname.1
data_qualified (RRSIG covered rest) h = refl
data_qualified (Opaque bytes) h = refl

record_qualified : (r : Record) → IsRecord r → is_qualified_record r ≡ true
record_qualified r h = both r.name.fqdn (is_qualified_data r.rdata) h.name.1 (data_qualified r.rdata h.told)

records_qualified : (rs : List Record) → AllByRecursion IsRecord rs → list_all is_qualified_record rs ≡ true
records_qualified [] h = refl
records_qualified (r ∷ rs) h = both (is_qualified_record r) (list_all is_qualified_record rs) (record_qualified r h.0) (records_qualified rs h.1)

line_qualified : (line : ScriptLine) → IsScriptLine line → is_qualified_line line ≡ true
line_qualified (Reply ip protocol name type delay (Ok m)) h =
    both name.fqdn _ h.named.1
    (both _ (list_all is_qualified_record m.additionals)
    (both (list_all is_qualified_record m.answers) (list_all is_qualified_record m.authorities) (records_qualified m.answers h.answers) (records_qualified m.authorities h.authorities))
    (records_qualified m.additionals h.additionals))
line_qualified (Reply ip protocol name type delay (Err e)) h = both name.fqdn (is_qualified_error e) h.named.1 (failure_qualified e h.failure)
line_qualified (Connect ip protocol delay None) h = refl
line_qualified (Connect ip protocol delay (Some e)) h = both (is_qualified_error e) (not (is_no_records e)) (failure_qualified e h.failure) (failure_no_records e h.failure)
line_qualified (Refuse ip protocol) h = refl

lines_qualified : (lines : List ScriptLine) → AllByRecursion IsScriptLine lines → list_all is_qualified_line lines ≡ true
lines_qualified [] h = refl
lines_qualified (line ∷ lines) h = both (is_qualified_line line) (list_all is_qualified_line lines) (line_qualified line h.0) (lines_qualified lines h.1)

script_qualified : (script : Script) → AllByRecursion IsScriptLine script.lines → IsTrue (is_qualified_script script)
script_qualified script h = lines_qualified script.lines h

zone_qualified : (rs : List Record) → AllByRecursion IsZoneRecord rs → list_all is_qualified_record rs ≡ true
zone_qualified [] h = refl
zone_qualified (r ∷ rs) h = both (is_qualified_record r) (list_all is_qualified_record rs) (record_qualified r h.0.fits) (zone_qualified rs h.1)

zones_qualified : (zones : List Zone) → AllByRecursion IsZone zones → list_all (λ z. list_all is_qualified_record z.records) zones ≡ true
zones_qualified [] h = refl
zones_qualified (z ∷ zs) h = both (list_all is_qualified_record z.records) (list_all (λ z. list_all is_qualified_record z.records) zs) (zone_qualified z.records h.0.records) (zones_qualified zs h.1)

world_qualified : (w : World) → IsWorld w → IsTrue (is_qualified_world w)
world_qualified w h = zones_qualified w.zones h.zones

-- the script or the world that an upstream is
pub upstream_script : (u : Upstream) (script : Script) → IsUpstream u → u ≡ FromScript script → IsTrue (is_qualified_script script)
upstream_script u script h is = script_qualified script (subst IsUpstream is h)

pub upstream_world : (u : Upstream) (w : World) → IsUpstream u → u ≡ FromWorld w → IsTrue (is_qualified_world w)
upstream_world u w h is = world_qualified w (subst IsUpstream is h)
