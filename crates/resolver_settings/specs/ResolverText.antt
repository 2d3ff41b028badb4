-- What a resolver's text says.
use Rattle.std.specs.Prelude.{◌≡◌, ℕ, List, [], ◌∷◌, Result, Ok, Err}
use Rattle.std.specs.declared.net.ip_addr.IpAddr.{IpAddr}
use Rattle.resolver_settings.specs.ConfError.{Gives}
use Rattle.resolver_settings.specs.Config.{ResolverParts}
use Rattle.resolver_settings.specs.SearchList.{last_list, search_names, domain_of}
use Rattle.resolver_settings.specs.TextLines.{lines_of}
use Rattle.resolver_settings.specs.TextOptions.{options_of}
use Rattle.resolver_settings.specs.TextServers.{Addresses, server_words, servers_at}
use Rattle.resolver_settings.specs.declared.options.ResolverOpts.{ResolverOpts}
use Rattle.resolver_settings.specs.declared.conf_error.ConfError.{ConfError}
use Rattle.resolver_settings.specs.declared.conf_error.ConfError.TheVariants.{NoNameServers, NoMemory}

-- what lines say that give these addresses of servers
abbrev pub conf_of : List IpAddr → List (List (List ℕ)) → List ℕ → Result (ResolverParts × ResolverOpts) ConfError
conf_of [] lines host = Err NoNameServers
conf_of (first ∷ more) lines host = elim (search_names (last_list lines)) [ Err e ↦ Err e | Ok names ↦ Ok (record { domain = domain_of lines host; search = names; name_servers = servers_at (first ∷ more) }, options_of lines) ]

-- The result is what the text says, unless memory ran out.
abbrev pub Reads : List ℕ → List ℕ → Result (ResolverParts × ResolverOpts) ConfError → Type 0
Reads text host (Err NoMemory) = Unit {0}
Reads text host read = (addresses : List IpAddr) × Addresses (server_words (lines_of text)) addresses × (read ≡ conf_of addresses (lines_of text) host)

-- And it is nothing else that the text might say.
abbrev pub IsOnly : List ℕ → List ℕ → Result (ResolverParts × ResolverOpts) ConfError → Type 0
IsOnly text host read = (addresses : List IpAddr) → Addresses (server_words (lines_of text)) addresses → Gives read (conf_of addresses (lines_of text) host)
