-- What a cache ends as, once a reference into it has ended.
use Rattle.std.specs.Prelude.{◌≡◌, List}
use Rattle.std.specs.Borrow.{Fml, RattleType, MutBor}
use Rattle.std.specs.Io.BufRead.{Rests}
use Rattle.std.specs.HashMap.Lent.{HashMembers}
use Rattle.recent_cache.specs.Recent.{Recent, recent}
use Rattle.recent_cache.specs.contracts.cache.RecentCache.{the_row}

-- it has these pairs, and its size
abbrev pub RestsWith : (K V : RattleType) → HashMembers K.Denot → MutBor (Recent K.Denot V.Denot) → List (K.Denot × V.Denot) → Fml
RestsWith K V key cache pairs = Rests (the_row K V (record {}) (record { eq = key.eq }) (record { hash_input = key.hash_input })) cache (λ end. end ≡ recent pairs cache.now.size)
