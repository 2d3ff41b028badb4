-- What a reply rests on.
use Rattle.std.specs.Prelude.{◌≡◌, ℕ, ◌≤◌, ◌⊎◌, Bool, false, ◌||◌, ◌==◌, IsTrue, List, [], ◌∷◌, ◌++◌, filter, length, sum_by, Some}
use Rattle.dns_core.specs.Name.{DomainName}
use Rattle.dns_core.specs.Log.{Log}
use Rattle.dns_core.specs.Stripping.{strip_of}
use Rattle.dns_core.specs.declared.codes.RecordType.{RecordType}
use Rattle.dns_core.specs.declared.message.Query.{Query}
use Rattle.dns_core.specs.declared.message.Message.{Message}
use Rattle.dns_core.specs.declared.record.Record.{Record}
use Rattle.dns_core.specs.declared.record.RData.TheVariants.{RRSIG}
use Rattle.dns_core.specs.declared.log.ToldOutcome.{ToldOutcome}
use Rattle.resolution.specs.Same.{Same}
use Rattle.recursor_types.specs.declared.policy.Policy.{Policy}
use Rattle.resolution.specs.Verdict.{verdict}
use Rattle.resolution.specs.Life.{Fresh}
use Rattle.resolution.specs.Serving.{Heard}
use Rattle.resolution.specs.Following.{follow}
use Rattle.resolution.specs.Walking.{ReachesName}
use Rattle.resolution.specs.declared.verdict.Verdict.{Verdict}
use Rattle.resolution.specs.declared.verdict.Verdict.TheVariants.{Pos}
use Rattle.resolution.specs.declared.following.Follow.TheVariants.{Done, Restart}

-- Entry `entry` tells for `query`, by a server of the zone `zone` at or above its name, an outcome that counts as v and is fresh at `asked_at`.
pub record Base (policy : Policy) (log : Log) (asked_at : ℕ) (query : Query) (entry : ℕ) (zone : DomainName) (v : Verdict) : Type 0 where
  pub told : ToldOutcome
  pub moment : ℕ
  pub heard : Heard policy log entry query told moment zone
  pub counts : verdict policy told query zone ≡ Some v
  pub fresh : Fresh policy asked_at moment query v

-- authoritative, or told at or after `asked_at`
abbrev pub IsCurrent : ℕ → ℕ → Message → Type 0
IsCurrent asked_at moment kept = IsTrue kept.authoritative ⊎ (asked_at ≤ moment)

-- Authoritative; or told at or after `asked_at`, and for NS records by servers below which no cut is shown up to the name itself
-- (RFC 1034 section 4.2.1: those above a cut have its NS records too, and not as their own).
abbrev pub IsOwn : Policy → Log → ℕ → Query → DomainName → ℕ → Message → Type 0
IsOwn policy log asked_at query zone moment kept = IsTrue kept.authoritative ⊎ ((asked_at ≤ moment) × ReachesName policy log query zone)

-- a signature of records of the type, or of CNAME
abbrev pub is_signature_of : RecordType → Record → Bool
is_signature_of t r = elim (r.rdata) [ RRSIG covered rest ↦ (covered.code == t.code || covered.code == 5) | _ ↦ false ]

-- of the asked type, a CNAME, or a signature of one of the two
abbrev pub is_appended : RecordType → Record → Bool
is_appended t r = r.record_type.code == t.code || r.record_type.code == 5 || is_signature_of t r

-- a response with such answers of the reply for its alias
abbrev pub joined : Message → Query → Message → Message
joined kept query further = record kept { answers = kept.answers ++ filter (is_appended query.query_type) further.answers }

abbrev pub with_name : DomainName → Query → Query
with_name n query = record query { name = n }

-- The reply to q rests on these entries, in their order.
pub data Answers (policy : Policy) (log : Log) (asked_at : ℕ) (dnssec : Bool) : Query → List ℕ → Message → Type 0 where
  -- what counts of one entry is the reply, less the records that were not asked for
  direct : {q : Query} {i : ℕ} {z : DomainName} {k r : Message}
      → (b : Base policy log asked_at q i z (Pos k)) → IsOwn policy log asked_at q z b.moment k → follow k q ≡ Done
      → Same r (strip_of k dnssec) → Answers policy log asked_at dnssec q (i ∷ []) r
  -- its aliases lead to another name, and the reply for this is appended
  by_alias : {q : Query} {i : ℕ} {z n : DomainName} {k r further : Message} {g : List ℕ}
      → (b : Base policy log asked_at q i z (Pos k)) → IsCurrent asked_at b.moment k → follow k q ≡ Restart n
      → Answers policy log asked_at dnssec (with_name n q) g further
      → Same r (joined (strip_of k dnssec) q further) → Answers policy log asked_at dnssec q (i ∷ g) r

-- So it does, and the entries are at most 65.
pub record Answer (policy : Policy) (log : Log) (asked_at : ℕ) (query : Query) (dnssec : Bool) (grounds : List ℕ) (r : Message) : Type 0 where
  pub answers : Answers policy log asked_at dnssec query grounds r
  pub few : length grounds ≤ 65

-- ---- alias chains

-- The numbers lead by aliases from the first question to p; the questions on the way, p included.
pub data Chain (policy : Policy) (log : Log) (asked_at : ℕ) : Query → List ℕ → Query → List Query → Type 0 where
  last : {p : Query} → Chain policy log asked_at p [] p (p ∷ [])
  then_alias : {q p : Query} {i : ℕ} {g : List ℕ} {z n : DomainName} {k : Message} {qs : List Query}
      → (b : Base policy log asked_at q i z (Pos k)) → IsCurrent asked_at b.moment k → follow k q ≡ Restart n
      → Chain policy log asked_at (with_name n q) g p qs → Chain policy log asked_at q (i ∷ g) p (q ∷ qs)

abbrev pub label_count : DomainName → ℕ
label_count n = length n.labels

-- the labels of the names on the way
abbrev pub chain_labels : List Query → ℕ
chain_labels qs = sum_by (λ q. label_count q.name) qs
