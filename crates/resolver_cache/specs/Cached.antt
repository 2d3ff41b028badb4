-- What a cache of responses holds.
use Rattle.std.specs.Prelude.{ℕ, ◌≤◌, List, length, count_by}
use Rattle.dns_core.specs.declared.message.Query.{Query}
use Rattle.resolver_settings.specs.Ttl.{TtlTable}
use Rattle.kept_responses.specs.declared.entry.Entry.{Entry}
use Rattle.kept_responses.specs.Entry.{is_for}

-- how many entries it keeps at most, the bounds of TTLs, and the entries in the order in which they were written, the newest last
pub record Cached : Type 0 where
  pub size : ℕ
  pub config : TtlTable
  pub entries : List Entry

-- no more entries than the size, and no two for one question
pub record IsWithin (size : ℕ) (entries : List Entry) : Type 0 where
  pub few : length entries ≤ size
  pub single : (query : Query) → count_by (is_for query) entries ≤ 1
