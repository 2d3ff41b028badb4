-- What a reply rests on in a log it rests on in a longer log too, also where less patience is given.
use Rattle.std.proofs.Common.{ℕ, ◌≤◌, Bool, List, ⊎_elim, inl, inr}
use Rattle.dns_core.specs.Name.{DomainName}
use Rattle.dns_core.specs.Log.{Log, Extends}
use Rattle.dns_core.specs.declared.message.Query.{Query}
use Rattle.dns_core.specs.declared.message.Message.{Message}
use Rattle.recursor_types.specs.declared.policy.Policy.{Policy}
use Rattle.recursor_types.specs.Policy.{with_patience}
use Rattle.resolution.specs.Walking.{ReachesName}
use Rattle.resolution.specs.Answering.{Answers, Answer, IsOwn}
use Rattle.resolution.specs.Answering.Answers.{direct, by_alias}
use Rattle.resolution.proofs.LongerLogs.{Base-extend}
use Rattle.resolution.proofs.FailuresKept.{NoCut-extend}

module _ (policy : Policy) (less : ℕ) (fewer : less ≤ policy.patience) (old new : Log) (extends : Extends old new) where
  pub ReachesName-extend : (q : Query) (z : DomainName) → ReachesName policy old q z → ReachesName (with_patience less policy) new q z
  ReachesName-extend q z reaches ns far = NoCut-extend policy less fewer old new extends (reaches ns far)

  pub IsOwn-extend : (t0 : ℕ) (q : Query) (z : DomainName) (moment : ℕ) (k : Message) → IsOwn policy old t0 q z moment k
      → IsOwn (with_patience less policy) new t0 q z moment k
  IsOwn-extend t0 q z moment k = ⊎_elim (λ h. inl h) (λ h. inr (h.0, ReachesName-extend q z h.1))

  pub Answers-extend : {t0 : ℕ} {dnssec : Bool} {q : Query} {g : List ℕ} {r : Message} → Answers policy old t0 dnssec q g r
      → Answers (with_patience less policy) new t0 dnssec q g r
  Answers-extend {t0 = t0} {q = q} (direct {z = z} {k = k} b own f s) = direct (Base-extend policy less old new extends b) (IsOwn-extend t0 q z b.moment k own) f s
  Answers-extend (by_alias b c f a s) = by_alias (Base-extend policy less old new extends b) c f (Answers-extend a) s

  pub Answer-extend : {t0 : ℕ} {q : Query} {dnssec : Bool} {g : List ℕ} {r : Message} → Answer policy old t0 q dnssec g r
      → Answer (with_patience less policy) new t0 q dnssec g r
  Answer-extend a = record { answers = Answers-extend a.answers; few = a.few }
