-- The names that words spell.
use Rattle.std.specs.Prelude.{ℕ, false, List, Option, Some, None, if◌then◌else◌}
use Rattle.std.specs.Result.{result_ok}
use Rattle.dns_core.specs.Name.{DomainName}
use Rattle.dns_core.specs.NameText.{name_of}
use Rattle.text_lines.specs.Numbers.{◌>>=◌}

-- a relaxed name
abbrev pub relaxed_name : List ℕ → Option DomainName
relaxed_name w = result_ok (name_of false w)

-- one that is fully qualified
abbrev pub full_name : List ℕ → Option DomainName
full_name w = relaxed_name w >>= λ n. if n.fqdn then Some n else None
