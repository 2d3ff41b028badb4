-- The words that the theorem is said with, in one place.
pub use Rattle.std.specs.declared.net.ip_addr.IpAddr.{IpAddr}
pub use Rattle.dns_core.specs.Name.{DomainName}
pub use Rattle.dns_core.specs.Log.{Log, Extends}
pub use Rattle.dns_core.specs.Stripping.{strip_of}
pub use Rattle.dns_core.specs.declared.message.Query.{Query}
pub use Rattle.dns_core.specs.declared.message.Message.{Message}
pub use Rattle.dns_core.specs.declared.request.Question.{Question}
pub use Rattle.dns_core.specs.declared.request.Turn.{Turn}
pub use Rattle.dns_core.specs.declared.connection.Protocol.{Protocol}
pub use Rattle.dns_core.specs.declared.net_error.NetError.{NetError}
pub use Rattle.dns_core.specs.declared.log.LogEntry.{LogEntry}
pub use Rattle.dns_core.specs.declared.log.LogEntry.TheVariants.{Opened, Asked}
pub use Rattle.recursor_types.specs.declared.policy.Policy.{Policy}
pub use Rattle.recursor_types.specs.declared.error.RecursorError.{RecursorError}
pub use Rattle.resolution.specs.Telling.{Logged, moment_of, MomentsRise}
pub use Rattle.resolution.specs.Same.{Same}
pub use Rattle.resolution.specs.Asking.{IsServer, IsServerFor}
pub use Rattle.resolution.specs.Answering.{Base, IsOwn}
pub use Rattle.resolution.specs.Ending.{LookupTiming, waits}
pub use Rattle.resolution.specs.Walking.{Walked}
pub use Rattle.resolution.specs.declared.verdict.Verdict.TheVariants.{Pos}
pub use Rattle.resolution.specs.Links.{Link, AliasesLeadTo, entries_of_links, merged}
pub use Rattle.resolution.specs.Causes.{CauseOf}
pub use Rattle.resolution.specs.Turns.{IsPlayed}
