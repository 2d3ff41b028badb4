-- How servers are asked.
use Rattle.std.specs.Prelude.{false, Some, None}
use Rattle.dns_core.specs.declared.connection.ConnectOptions.{ConnectOptions}
use Rattle.dns_core.specs.declared.request.DnsRequestOptions.{DnsRequestOptions}
use Rattle.resolver_settings.specs.declared.options.ResolverOpts.{ResolverOpts}
use Rattle.server_core.specs.Context.{Context}
use Rattle.recursor_types.specs.declared.policy.Policy.{Policy}

-- what the pools are set to: how servers are asked, within the time of a lookup, no probe, and the filter of the addresses of answers
abbrev pub context_of : Policy → Context
context_of policy = record { options = record policy.resolver { timeout = policy.timeout }; probe_budget = 0; answer_address_filter = Some policy.answer_filter }

-- what a resolver opens each connection with
abbrev pub connect_of : ResolverOpts → ConnectOptions
connect_of resolver = record {
  timeout = resolver.timeout;
  max_active_requests = resolver.max_active_requests;
  case_randomization = resolver.case_randomization;
  os_port_selection = resolver.os_port_selection;
  avoid_local_udp_ports = resolver.avoid_local_udp_ports;
}

-- the options of each request: recursion is not desired, and DNSSEC records are not asked for
abbrev pub request_options_of : ResolverOpts → DnsRequestOptions
request_options_of resolver = record {
  recursion_desired = false;
  edns_set_dnssec_ok = false;
  edns_payload_len = resolver.edns_payload_len;
  case_randomization = resolver.case_randomization;
  checking_disabled = false;
  client_subnet = None;
  retry_interval = 0;
}
