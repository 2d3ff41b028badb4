-- The options of a resolver.
use Rattle.std.specs.Prelude.{[], true, false}
use Rattle.resolver_settings.specs.declared.options.ResolverOpts.{ResolverOpts}
use Rattle.resolver_settings.specs.declared.options.ServerOrderingStrategy.TheVariants.{QueryStatistics}

-- those of a resolver for which none is set; the timeout is in microseconds
abbrev pub standard_options : ResolverOpts
standard_options = record {
  ndots = 1;
  timeout = 5000000;
  attempts = 2;
  edns0 = false;
  edns_payload_len = 1232;
  num_concurrent_reqs = 2;
  server_ordering_strategy = QueryStatistics;
  recursion_desired = true;
  preserve_intermediates = true;
  try_tcp_on_error = false;
  case_randomization = false;
  max_active_requests = 32;
  os_port_selection = false;
  avoid_local_udp_ports = [];
  enable_per_name_server_metrics = false;
}
