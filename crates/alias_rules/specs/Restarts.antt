-- Whether a question goes on at another name.
use Rattle.std.specs.Prelude.{Option, Some, None}
use Rattle.dns_core.specs.Name.{DomainName}
use Rattle.resolution.specs.declared.following.Follow.{Follow}
use Rattle.resolution.specs.declared.following.Follow.TheVariants.{Done, Restart}

-- it goes on at the name, where there is one
abbrev pub restart_at : Option DomainName → Follow
restart_at None = Done
restart_at (Some name) = Restart name
