-- The same but for TTLs.
use Rattle.std.specs.Prelude.{◌≡◌, ◌≤◌, List}
use Rattle.std.specs.List.{AllZip}
use Rattle.dns_core.specs.declared.record.Record.{Record}
use Rattle.dns_core.specs.declared.message.Message.{Message}

-- The first record is the second with a TTL that is not greater.
pub record SameRecord (a b : Record) : Type 0 where
  pub life : a.ttl ≤ b.ttl
  pub rest : a ≡ record b { ttl = a.ttl }

-- So it is in each place.
abbrev pub SameRecords : List Record → List Record → Type 0
SameRecords xs ys = AllZip SameRecord xs ys

-- So it is in each section, and all else is equal.
pub record Same (a b : Message) : Type 0 where
  pub answers : SameRecords a.answers b.answers
  pub authorities : SameRecords a.authorities b.authorities
  pub additionals : SameRecords a.additionals b.additionals
  pub rest : a ≡ record b { answers = a.answers; authorities = a.authorities; additionals = a.additionals }
