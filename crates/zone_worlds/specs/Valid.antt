-- Questions that a recursor must answer as the world does.
use Rattle.std.specs.Prelude.{ℕ, ◌==◌, ◌&&◌, not, IsTrue, Bool, List, []}
use Rattle.dns_core.specs.Name.{DomainName}
use Rattle.dns_core.specs.Codes.{is_data_type}
use Rattle.dns_core.specs.declared.message.Query.{Query}
use Rattle.dns_core.specs.declared.record.Record.{Record}
use Rattle.zone_worlds.specs.Answer.{Leads}
use Rattle.zone_rules.specs.Short.{IsShort}
use Rattle.zone_rules.specs.declared.world.World.{World}

-- of class IN, of a fully qualified name, for data other than SOA
abbrev pub is_askable : Query → Bool
is_askable query = query.query_class.code == 1 && (query.name).fqdn && is_data_type query.query_type && not (query.query_type.code == 6)

-- The question may be asked, and the names on the way of its aliases end and are short.
pub record IsValid (w : World) (recursion_limit ns_recursion_limit : ℕ) (query : Query) : Type 0 where
  pub askable : IsTrue (is_askable query)
  pub aliases : List Record
  pub names : List DomainName
  pub last : DomainName
  pub ends : Leads w query [] query.name aliases names last
  pub short : IsShort names recursion_limit ns_recursion_limit
