-- What a log says another says that has its entries, also where less patience is given.
use Rattle.std.proofs.Common.{ℕ, suc, ◌<◌, ◌≤◌, ◌∙◌, arith}
use Rattle.std.specs.declared.net.ip_addr.IpAddr.{IpAddr}
use Rattle.dns_core.specs.Name.{DomainName}
use Rattle.dns_core.specs.Log.{Log, Extends}
use Rattle.dns_core.specs.declared.message.Query.{Query}
use Rattle.dns_core.specs.declared.message.Message.{Message}
use Rattle.dns_core.specs.declared.log.LogEntry.{LogEntry}
use Rattle.dns_core.specs.declared.log.ToldOutcome.{ToldOutcome}
use Rattle.recursor_types.specs.declared.policy.Policy.{Policy}
use Rattle.recursor_types.specs.Policy.{with_patience}
use Rattle.resolution.specs.Telling.{Logged, Tells, KeepsBelow}
use Rattle.resolution.specs.Serving.{Serves, Delegates, Heard}
use Rattle.resolution.specs.Serving.Serves.{of_root, of_glue, of_target, of_answer}
use Rattle.resolution.specs.Serving.Delegates.{delegates}
use Rattle.resolution.specs.Serving.Heard.{heard}
use Rattle.resolution.specs.Answering.{Base}
use Rattle.resolution.specs.declared.verdict.Verdict.{Verdict}

pub Logged-extend : (old new : Log) → Extends old new → (n : ℕ) (e : LogEntry) → Logged old n e → Logged new n e
Logged-extend old new extends n e h = record { below = let a = h.below in let b = extends.later in omega arith; is = extends.kept n h.below ∙ h.is }

-- below any number
pub KeepsBelow-from_Extends : (old new : Log) → Extends old new → (limit : ℕ) → KeepsBelow limit old new
KeepsBelow-from_Extends old new extends limit n e below h = Logged-extend old new extends n e h

module _ (policy : Policy) (patience : ℕ) (old new : Log) (limit : ℕ) (keeps : KeepsBelow limit old new) where
  pub Tells-keep : {i : ℕ} {q : Query} {o : ToldOutcome} {ask : ℕ} {teller : IpAddr} {moment : ℕ} → i < limit → Tells old i q o ask teller moment → Tells new i q o ask teller moment
  Tells-keep {ask = ask} low t = record {
    protocol = t.protocol;
    asked = t.asked;
    asked_at = t.asked_at;
    told = keeps _ _ low t.told;
    question = let b = t.before in keeps ask _ (omega arith) t.question;
    before = t.before;
    same = t.same;
  }

  mutual
    pub Serves-keep : {n : ℕ} {ip : IpAddr} {c : DomainName} → n ≤ limit → Serves policy old n ip c → Serves (with_patience patience policy) new n ip c
    Serves-keep low (of_root r) = of_root r
    Serves-keep low (of_glue d a h) = of_glue (Delegates-keep low d) a h
    Serves-keep low (of_target d a t q j h v k) = of_target (Delegates-keep low d) a t q j (Heard-keep (omega arith) h) v k
    Serves-keep low (of_answer d a t q j h p v k f) = of_answer (Delegates-keep low d) a t q j (Heard-keep (omega arith) h) p v k f

    pub Delegates-keep : {n : ℕ} {c : DomainName} {k : Message} → n ≤ limit → Delegates policy old n c k → Delegates (with_patience patience policy) new n c k
    Delegates-keep low (delegates i h v d r) = delegates i (Heard-keep (omega arith) h) v d r

    pub Heard-keep : {i : ℕ} {q : Query} {o : ToldOutcome} {moment : ℕ} {z : DomainName} → i < limit → Heard policy old i q o moment z → Heard (with_patience patience policy) new i q o moment z
    Heard-keep low (heard t s a) = let b = t.before in heard (Tells-keep low t) (Serves-keep (omega arith) s) a

module _ (policy : Policy) (patience : ℕ) (old new : Log) (extends : Extends old new) where
  pub Serves-extend : {n : ℕ} {ip : IpAddr} {c : DomainName} → Serves policy old n ip c → Serves (with_patience patience policy) new n ip c
  Serves-extend {n = n} s = Serves-keep policy patience old new n (KeepsBelow-from_Extends old new extends n) (omega arith) s

  pub Delegates-extend : {n : ℕ} {c : DomainName} {k : Message} → Delegates policy old n c k → Delegates (with_patience patience policy) new n c k
  Delegates-extend {n = n} d = Delegates-keep policy patience old new n (KeepsBelow-from_Extends old new extends n) (omega arith) d

  pub Heard-extend : {i : ℕ} {q : Query} {o : ToldOutcome} {moment : ℕ} {z : DomainName} → Heard policy old i q o moment z → Heard (with_patience patience policy) new i q o moment z
  Heard-extend {i = i} h = Heard-keep policy patience old new (suc i) (KeepsBelow-from_Extends old new extends (suc i)) (omega arith) h

  abbrev pub Base-extend : {t0 : ℕ} {q : Query} {i : ℕ} {z : DomainName} {v : Verdict} → Base policy old t0 q i z v → Base (with_patience patience policy) new t0 q i z v
  Base-extend b = record { told = b.told; moment = b.moment; heard = Heard-extend b.heard; counts = b.counts; fresh = b.fresh }

-- A later number reads more.
module _ (policy : Policy) (log : Log) where
  pub Delegates-later : {n m : ℕ} {c : DomainName} {k : Message} → n ≤ m → Delegates policy log n c k → Delegates policy log m c k
  Delegates-later le (delegates i h v d r) = delegates (omega arith) h v d r

  pub Serves-later : {n m : ℕ} {ip : IpAddr} {c : DomainName} → n ≤ m → Serves policy log n ip c → Serves policy log m ip c
  Serves-later le (of_root r) = of_root r
  Serves-later le (of_glue d a h) = of_glue (Delegates-later le d) a h
  Serves-later le (of_target d a t q j h v k) = of_target (Delegates-later le d) a t q (omega arith) h v k
  Serves-later le (of_answer d a t q j h p v k f) = of_answer (Delegates-later le d) a t q (omega arith) h p v k f
