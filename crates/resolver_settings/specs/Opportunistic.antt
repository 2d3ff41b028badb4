-- Encryption that is tried.
use Rattle.std.specs.Prelude.{Option, Some, None}
use Rattle.resolver_settings.specs.declared.opportunistic.OpportunisticEncryption.{OpportunisticEncryption}
use Rattle.resolver_settings.specs.declared.opportunistic.OpportunisticEncryption.TheVariants.{Disabled, Enabled}
use Rattle.resolver_settings.specs.declared.opportunistic.OpportunisticEncryptionConfig.{OpportunisticEncryptionConfig}

-- what it is set to, where it is enabled
abbrev pub config_of : OpportunisticEncryption → Option OpportunisticEncryptionConfig
config_of Disabled = None
config_of (Enabled config) = Some config

-- three days, one day (RFC 9539 section 4.3), in microseconds, and ten servers
abbrev pub standard : OpportunisticEncryptionConfig
standard = record { persistence_period = 259200000000; damping_period = 86400000000; max_concurrent_probes = 10 }
