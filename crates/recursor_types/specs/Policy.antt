-- By what a recursor resolves, besides what servers tell it.
use Rattle.std.specs.Prelude.{ℕ, true, false, List}
use Rattle.std.specs.declared.net.ip_addr.IpAddr.{IpAddr}
use Rattle.resolver_settings.specs.declared.options.ResolverOpts.{ResolverOpts}
use Rattle.resolver_settings.specs.declared.options.ServerOrderingStrategy.TheVariants.{QueryStatistics}
use Rattle.recursor_types.specs.Options.{server_filter_of, answer_filter_of}
use Rattle.recursor_types.specs.declared.options.RecursorOptions.{RecursorOptions}
use Rattle.recursor_types.specs.declared.policy.Policy.{Policy}

-- one server at a time, the fastest first, within five seconds, with EDNS, and without the wish that it recurses
abbrev pub resolver_of : RecursorOptions → ResolverOpts
resolver_of options = record {
  ndots = 0;
  timeout = 5000000;
  attempts = 2;
  edns0 = true;
  edns_payload_len = options.edns_payload_len;
  num_concurrent_reqs = 1;
  server_ordering_strategy = QueryStatistics;
  recursion_desired = false;
  preserve_intermediates = true;
  try_tcp_on_error = false;
  case_randomization = options.case_randomization;
  max_active_requests = 32;
  os_port_selection = false;
  avoid_local_udp_ports = options.avoid_local_udp_ports;
  enable_per_name_server_metrics = false;
}

-- what the roots and the options say, before the first run: five seconds for a lookup, and no call was given up yet
abbrev pub policy_of : List IpAddr → RecursorOptions → Policy
policy_of roots options = record {
  roots = roots;
  server_filter = server_filter_of options;
  answer_filter = answer_filter_of options;
  ttl_bounds = options.cache_policy;
  timeout = 5000000;
  patience = 4294967295;
  recursion_limit = options.recursion_limit;
  ns_recursion_limit = options.ns_recursion_limit;
  strict = true;
  response_cache_size = options.response_cache_size;
  first_delays = options.first_delays;
  resolver = resolver_of options;
}

-- the same policy with this patience
abbrev pub with_patience : ℕ → Policy → Policy
with_patience patience policy = record policy { patience = patience }
