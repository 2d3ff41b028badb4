-- What a resolver works with.
use Rattle.std.specs.Prelude.{List, Bool, ◌&&◌, Option}
use Rattle.std.specs.Option.{option_eq}
use Rattle.std.specs.Cmp.{IsEquivalence, IsPartialEquivalence, on_equiv, and_equiv, partial_equiv_from_equiv}
use Rattle.std.specs.Cmp.Lexicographic.{pointwise, lists_equiv, options_equiv}
use Rattle.dns_core.specs.Name.{DomainName, same_names}
use Rattle.dns_core.specs.NameLaws.{same_names_equiv}
use Rattle.resolver_settings.specs.NameServer.{NameServer, same_servers, same_servers_equiv}

-- the domain of the host, the domains in which a name is looked for (RFC 1123 section 6.1.4.3), and the servers that are asked
pub record ResolverParts : Type 0 where
  pub domain : Option DomainName
  pub search : List DomainName
  pub name_servers : List NameServer

-- the same parts, the names without ASCII case
abbrev pub same_parts : ResolverParts → ResolverParts → Bool
same_parts a b = option_eq same_names a.domain b.domain && (pointwise same_names a.search b.search && pointwise same_servers a.name_servers b.name_servers)

pub same_parts_equiv : IsEquivalence same_parts
same_parts_equiv = and_equiv (on_equiv (λ p. p.domain) (options_equiv same_names_equiv)) (and_equiv (on_equiv (λ p. p.search) (lists_equiv same_names_equiv)) (on_equiv (λ p. p.name_servers) (lists_equiv same_servers_equiv)))

pub same_parts_per : IsPartialEquivalence same_parts
same_parts_per = partial_equiv_from_equiv same_parts_equiv
