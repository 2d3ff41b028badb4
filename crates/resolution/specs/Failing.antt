-- Why a walk fails: no address for a zone's servers, or a limit.
use Rattle.std.specs.Prelude.{◌≡◌, ℕ, suc, ◌+◌, ◌*◌, ◌<◌, ◌≤◌, Bool, true, false, not, ◌&&◌, ◌==◌, nat_eq, IsTrue, List, [], ◌∷◌, ◌++◌, take, length, Some, is_some, Contains}
use Rattle.std.specs.List.{list_any, filter_map}
use Rattle.dns_core.specs.Name.{DomainName, same_names}
use Rattle.dns_core.specs.Log.{Log}
use Rattle.dns_core.specs.declared.message.Query.{Query}
use Rattle.dns_core.specs.declared.message.Message.{Message}
use Rattle.dns_core.specs.declared.net_error.NetError.{NetError}
use Rattle.dns_core.specs.declared.net_error.NetError.TheVariants as net
use Rattle.dns_core.specs.declared.log.ToldOutcome.{ToldOutcome}
use Rattle.resolver_settings.specs.Access.{denies}
use Rattle.resolution.specs.Names.{is_above, candidates, question}
use Rattle.resolution.specs.Records.{address}
use Rattle.resolution.specs.Class.{class_of}
use Rattle.recursor_types.specs.declared.policy.Policy.{Policy}
use Rattle.resolution.specs.Serving.{Heard, targets, glue, allowed, is_delegation}
use Rattle.resolution.specs.Answering.{Base, label_count}
use Rattle.resolution.specs.Lookups.{Answered}
use Rattle.resolution.specs.Ending.{LookupTiming, FinishedLookup, Ended}
use Rattle.resolution.specs.Walking.{Walked}
use Rattle.resolution.specs.declared.class.Class.{Class}
use Rattle.resolution.specs.declared.class.Class.TheVariants.{Error, Code, Truncated, Negative, Foreign, Positive}
use Rattle.resolution.specs.declared.verdict.Verdict.{Verdict}
use Rattle.resolution.specs.declared.verdict.Verdict.TheVariants.{Pos, Neg, Made}

-- ---- delegations without addresses

-- A delegation of `cut` was told, and no allowed address of a target stands in it.
pub record Glueless (policy : Policy) (log : Log) (asked_at : ℕ) (cut : DomainName) (kept : Message) : Type 0 where
  pub i : ℕ
  pub z : DomainName
  pub base : Base policy log asked_at (question cut 2) i z (Pos kept)
  pub delegates : IsTrue (is_delegation kept cut)
  pub none : allowed (denies policy.server_filter) (glue kept cut) ≡ []

-- the targets that are chased
abbrev pub chased : Message → DomainName → List DomainName
chased kept cut = take 5 (targets kept cut)

-- both filters allow an address of the answers
abbrev pub has_allowed_address : Policy → Message → Bool
has_allowed_address policy m = list_any (λ ip. not (denies policy.server_filter ip) && not (denies policy.answer_filter ip)) (filter_map address m.answers)

-- a negative, or no address that may be asked
abbrev pub is_addressless : Policy → Class → Bool
is_addressless policy (Negative n) = true
is_addressless policy (Positive m) = not (has_allowed_address policy m)
is_addressless policy (Error e) = false
is_addressless policy (Code code) = false
is_addressless policy Truncated = false
is_addressless policy (Foreign r) = false

-- A question for an address of t was answered without one, or failed.
pub data NoAddress (policy : Policy) (timing : LookupTiming) (log : Log) (asked_at : ℕ) (query : Query) (zone : DomainName) : Type 0 where
  none_in_answer : {i moment : ℕ} {o : ToldOutcome} {class : Class}
      → Heard policy log i query o moment zone → asked_at ≤ moment → class_of o query ≡ Some class → IsTrue (is_addressless policy class) → NoAddress policy timing log asked_at query zone
  no_answer : {g : List ℕ} {e : NetError} → Ended policy timing log asked_at query zone g e → NoAddress policy timing log asked_at query zone

pub record TriedFor (policy : Policy) (timing : LookupTiming) (log : Log) (asked_at : ℕ) (cut : DomainName) (query : Query) : Type 0 where
  pub z : DomainName
  pub walked : is_above cut query.name ≡ false → Walked policy log query z
  pub none : NoAddress policy timing log asked_at query z

-- Both addresses of t were asked for and not given.
pub record Tried (policy : Policy) (timing : LookupTiming) (log : Log) (asked_at : ℕ) (cut t : DomainName) : Type 0 where
  pub four : TriedFor policy timing log asked_at cut (question t 1)
  pub six : TriedFor policy timing log asked_at cut (question t 28)

-- ---- limits

-- no number stands in both
abbrev pub are_apart : List ℕ → List ℕ → Bool
are_apart xs ys = not (list_any (λ x. list_any (nat_eq x) ys) xs)

-- This many lookups finished, by these entries, no two by the same.
pub data Lookups (policy : Policy) (timing : LookupTiming) (log : Log) (asked_at : ℕ) : List ℕ → ℕ → Type 0 where
  no_lookup : Lookups policy timing log asked_at [] 0
  one_more : {q : Query} {z : DomainName} {g used : List ℕ} {result : Answered} {n : ℕ}
      → FinishedLookup policy timing log asked_at q z g result → IsTrue (are_apart g used)
      → Lookups policy timing log asked_at used n → Lookups policy timing log asked_at (g ++ used) (suc n)

-- at least a fifth of m lookups finished, since five equal targets share one
pub record Spent (policy : Policy) (timing : LookupTiming) (log : Log) (asked_at m : ℕ) : Type 0 where
  pub used : List ℕ
  pub count : ℕ
  pub lookups : Lookups policy timing log asked_at used count
  pub enough : m ≤ 5 * count

abbrev pub is_among : List DomainName → DomainName → Bool
is_among names n = list_any (same_names n) names

mutual
  -- A walk to n and its chases enter at most m zones.
  pub data Tour (policy : Policy) (log : Log) (t0 : ℕ) : DomainName → List DomainName → ℕ → Type 0 where
    tour : {n : DomainName} {stack : List DomainName} {m detours : ℕ}
        → Detours policy log t0 (candidates n) stack detours → m ≤ label_count n + detours → Tour policy log t0 n stack m

  -- of the chases at these candidates
  pub data Detours (policy : Policy) (log : Log) (t0 : ℕ) : List DomainName → List DomainName → ℕ → Type 0 where
    no_candidate : {stack : List DomainName} → Detours policy log t0 [] stack 0
    no_chase : {c : DomainName} {cs stack : List DomainName} {m : ℕ}
        → Detours policy log t0 cs stack m → Detours policy log t0 (c ∷ cs) stack m
    chase : {c : DomainName} {k : Message} {cs stack : List DomainName} {a b : ℕ}
        → is_among stack c ≡ false → Glueless policy log t0 c k → Tours policy log t0 (chased k c) (c ∷ stack) a
        → Detours policy log t0 cs stack b → Detours policy log t0 (c ∷ cs) stack (a + b)

  -- of walks to these names
  pub data Tours (policy : Policy) (log : Log) (t0 : ℕ) : List DomainName → List DomainName → ℕ → Type 0 where
    no_name : {stack : List DomainName} → Tours policy log t0 [] stack 0
    and_to : {t : DomainName} {ts stack : List DomainName} {a b : ℕ}
        → Tour policy log t0 t stack a → Tours policy log t0 ts stack b → Tours policy log t0 (t ∷ ts) stack (a + b)

-- Lookups or zone entries are used up, for a question that walks to these names.
pub data Worn (policy : Policy) (timing : LookupTiming) (log : Log) (asked_at : ℕ) (names : List DomainName) : Type 0 where
  by_lookups : Spent policy timing log asked_at 191 → Worn policy timing log asked_at names
  by_entries : {m : ℕ} → Tours policy log asked_at names [] m → 1000 < m → Worn policy timing log asked_at names
  by_count : IsTrue timing.exhausted → Worn policy timing log asked_at names

-- ---- walks that fail

-- under strict minimisation the verdict ends a walk
abbrev pub ends_walk : Verdict → Bool
ends_walk (Pos k) = false
ends_walk (Neg n) = n.response_code.code == 3 && not (is_some n.ns)
ends_walk (Made cause) = true

mutual
  -- c is delegated without addresses, and none is found for its targets; d is the depth before the walk.
  pub data Barren (policy : Policy) (known : LookupTiming) (log : Log) (t0 : ℕ) (names : List DomainName) : DomainName → List DomainName → ℕ → Type 0 where
    barren : {c : DomainName} {k : Message} {stack : List DomainName} {d : ℕ}
        → Glueless policy log t0 c k → length stack < 1000
        → Dry policy known log t0 names c (chased k c) (c ∷ stack) (d + label_count c)
        → Barren policy known log t0 names c stack d

  -- no address is found for these targets of c
  pub data Dry (policy : Policy) (known : LookupTiming) (log : Log) (t0 : ℕ) (names : List DomainName) : DomainName → List DomainName → List DomainName → ℕ → Type 0 where
    no_target : {c : DomainName} {stack : List DomainName} {d : ℕ} → Dry policy known log t0 names c [] stack d
    asked : {c t : DomainName} {ts stack : List DomainName} {d : ℕ}
        → Tried policy known log t0 c t → Dry policy known log t0 names c ts stack d
        → Dry policy known log t0 names c (t ∷ ts) stack d
    not_reached : {c t : DomainName} {ts stack : List DomainName} {d : ℕ}
        → is_above c t ≡ false → WalkFail policy known log t0 names t stack d → Dry policy known log t0 names c ts stack d
        → Dry policy known log t0 names c (t ∷ ts) stack d

  -- A walk to n fails.
  pub data WalkFail (policy : Policy) (known : LookupTiming) (log : Log) (t0 : ℕ) (names : List DomainName) : DomainName → List DomainName → ℕ → Type 0 where
    entered : {n c : DomainName} {stack : List DomainName} {d : ℕ}
        → Contains (candidates n) c → IsTrue (is_among stack c) → WalkFail policy known log t0 names n stack d
    denied : {n c z : DomainName} {i : ℕ} {v : Verdict} {stack : List DomainName} {d : ℕ}
        → Contains (candidates n) c → IsTrue policy.strict → Base policy log t0 (question c 2) i z v → IsTrue (ends_walk v)
        → WalkFail policy known log t0 names n stack d
    timed_out : {n c z : DomainName} {g : List ℕ} {stack : List DomainName} {d : ℕ}
        → Contains (candidates n) c → Ended policy known log t0 (question c 2) z g net.Timeout
        → WalkFail policy known log t0 names n stack d
    no_address : {n c : DomainName} {stack : List DomainName} {d : ℕ}
        → Contains (candidates n) c → Barren policy known log t0 names c stack d
        → WalkFail policy known log t0 names n stack d
    too_deep : {n : DomainName} {stack : List DomainName} {d : ℕ}
        → policy.ns_recursion_limit ≤ d + label_count n → WalkFail policy known log t0 names n stack d
    worn : {n : DomainName} {stack : List DomainName} {d : ℕ}
        → Worn policy known log t0 names → WalkFail policy known log t0 names n stack d
