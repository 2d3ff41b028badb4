-- Where a walk goes (RFC 1034 section 5.3.3).
use Rattle.std.specs.Prelude.{◌≡◌, ℕ, ◌<◌, Bool, false, not, ◌&&◌, ◌==◌, List, filter, length, Some}
use Rattle.std.specs.List.{AllByRecursion}
use Rattle.dns_core.specs.Name.{DomainName, same_names}
use Rattle.dns_core.specs.Log.{Log}
use Rattle.dns_core.specs.declared.message.Query.{Query}
use Rattle.dns_core.specs.declared.net_error.NetError.{NetError}
use Rattle.dns_core.specs.declared.log.ToldOutcome.{ToldOutcome}
use Rattle.resolution.specs.Names.{is_above, walk, last_name, candidates, question}
use Rattle.recursor_types.specs.declared.policy.Policy.{Policy}
use Rattle.resolution.specs.Verdict.{verdict}
use Rattle.resolution.specs.Serving.{Heard, is_delegation}
use Rattle.resolution.specs.Ending.{LookupTiming, Ended, is_timeout}
use Rattle.resolution.specs.declared.verdict.Verdict.{Verdict}
use Rattle.resolution.specs.declared.verdict.Verdict.TheVariants.{Pos, Neg, Made}

-- nothing is known of moments and counts
abbrev pub at_any_time : LookupTiming
at_any_time = record { Timed = λ q ips g ends moments start now. Unit {0}; exhausted = false }

-- the verdict shows a cut at `cut`
abbrev pub is_cut : Verdict → DomainName → Bool
is_cut (Pos k) cut = is_delegation k cut
is_cut (Neg n) cut = false
is_cut (Made cause) cut = false

-- The log shows no cut at c: something else was told, or a lookup failed otherwise than by a timeout, by servers of a zone below which it shows none before c.
pub data NoCutSeen (policy : Policy) (log : Log) : DomainName → Type 0 where
  told_otherwise : {c : DomainName} {i moment : ℕ} {o : ToldOutcome} {z : DomainName} {v : Verdict}
      → Heard policy log i (question c 2) o moment z → verdict policy o (question c 2) z ≡ Some v → is_cut v c ≡ false
      → ((k : ℕ) → length z.labels < k → k < length c.labels → NoCutSeen policy log (last_name k c)) → NoCutSeen policy log c
  not_told : {c z : DomainName} {g : List ℕ} {e : NetError}
      → Ended policy at_any_time log 0 (question c 2) z g e → is_timeout e ≡ false
      → ((k : ℕ) → length z.labels < k → k < length c.labels → NoCutSeen policy log (last_name k c)) → NoCutSeen policy log c

-- the names below `zone` at which a walk for `query` looks for a cut
abbrev pub candidates_below : Query → DomainName → List DomainName
candidates_below query zone = filter (λ c. not (is_above c zone) && not (query.query_type.code == 2 && same_names c query.name)) (candidates (walk query))

-- `zone` is the deepest cut that the log shows for `query`
abbrev pub Walked : Policy → Log → Query → DomainName → Type 0
Walked policy log query zone = AllByRecursion (NoCutSeen policy log) (candidates_below query zone)

-- For the NS records of a name the walk goes down to its own servers: where `zone` is above the name, the log shows no cut there.
abbrev pub ReachesName : Policy → Log → Query → DomainName → Type 0
ReachesName policy log query zone = query.query_type.code ≡ 2 → length zone.labels < length query.name.labels → NoCutSeen policy log query.name
