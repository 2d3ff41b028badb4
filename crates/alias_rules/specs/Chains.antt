-- The responses of a chain, joined as they come.
use Rattle.std.specs.Prelude.{◌≡◌, Bool, List, All}
use Rattle.dns_core.specs.Stripping.{strip_of}
use Rattle.dns_core.specs.declared.codes.RecordType.{RecordType}
use Rattle.dns_core.specs.declared.message.Message.{Message}
use Rattle.resolution.specs.Links.{Link, merged}

-- each of the questions asks for the type
abbrev pub AllAskFor : RecordType → List Link → Type 0
AllAskFor asked links = All (λ (l : Link). l.query.query_type ≡ asked) links

-- the responses up to that of the last link, as one
abbrev pub joined_so_far : Bool → List Link → Link → Message
joined_so_far dnssec links last = merged dnssec links (strip_of last.kept dnssec)
