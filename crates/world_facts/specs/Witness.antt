-- A world of one zone, the root, served at 11.0.0.1, and what a recursor is given for it.
use Rattle.std.specs.Prelude.{[], ◌∷◌, true, false, codes, refl}
use Rattle.std.specs.declared.net.ip_addr.IpAddr.TheVariants.{V4}
use Rattle.dns_core.specs.Log.{Log, log_of}
use Rattle.dns_core.specs.declared.record.Record.{Record}
use Rattle.dns_core.specs.declared.record.RData.TheVariants.{SOA}
use Rattle.resolution.specs.Names.{root}
use Rattle.recursor_types.specs.declared.policy.Policy.{Policy}
use Rattle.resolver_settings.specs.Options.{standard_options}
use Rattle.resolver_settings.specs.Ttl.{one_day}
use Rattle.resolution.specs.BaseScript.{quad, full, a_record, ns_record}
use Rattle.zone_rules.specs.declared.world.Zone.{Zone}
use Rattle.zone_rules.specs.declared.world.World.{World}

abbrev pub authority : Record
authority = record {
  name = root;
  ttl = 3600;
  dns_class = record { code = 1 };
  record_type = record { code = 6 };
  rdata = SOA (record { mname = full (codes "ns" ∷ []); rname = full (codes "ns" ∷ []); serial = 1; refresh = 1800; retry = 900; expire = 604800; minimum = 300 });
  typed = refl;
}

abbrev pub zone : Zone
zone = record { apex = root; records = authority ∷ ns_record root 3600 (full (codes "ns" ∷ [])) ∷ a_record (full (codes "ns" ∷ [])) 3600 (quad 11 0 0 1) ∷ [] }

abbrev pub world : World
world = record { zones = zone ∷ []; hosts = record { ip = V4 (quad 11 0 0 1); zones = 1 ∷ [] } ∷ []; chain = false; delay = 1 }

abbrev pub policy : Policy
policy = record {
  roots = V4 (quad 11 0 0 1) ∷ [];
  server_filter = record { name = []; allow = []; deny = [] };
  answer_filter = record { name = []; allow = []; deny = [] };
  ttl_bounds = record { general = one_day; own = [] };
  timeout = 5000000;
  patience = 3;
  recursion_limit = 24;
  ns_recursion_limit = 24;
  strict = true;
  response_cache_size = 0;
  first_delays = 1 ∷ [];
  resolver = standard_options;
}

abbrev pub log : Log
log = log_of []
