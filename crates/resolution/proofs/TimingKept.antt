-- What a log shows of the moments of a lookup a longer log shows too.
use Rattle.std.proofs.Common.{◌≡◌, ℕ, ◌≤◌, ◌<◌, inl, inr, Bool, List, Option, Some, None, refl, arith, subst, sym, ◌∙◌}
use Rattle.std.specs.Prelude.{IsSomeAnd}
use Rattle.std.specs.List.{last_or}
use Rattle.std.specs.declared.net.ip_addr.IpAddr.{IpAddr}
use Rattle.dns_core.specs.Log.{Log, Extends}
use Rattle.dns_core.specs.declared.message.Query.{Query}
use Rattle.dns_core.specs.declared.log.LogEntry.{LogEntry}
use Rattle.recursor_types.specs.declared.policy.Policy.{Policy}
use Rattle.resolution.specs.Telling.{Logged}
use Rattle.resolution.specs.Lookups.{End}
use Rattle.resolution.specs.Ending.{EndsSend, EndSends}
use Rattle.resolution.specs.Ending.EndsSend.{open_refused, ask_refused, open_failed, ask_failed, answered, given_up}
use Rattle.resolution.specs.Ending.EndSends.{no_send, and_send}
use Rattle.resolution.specs.Timing.{DriveTimed, WasOpen}
use Rattle.resolution.proofs.LongerLogs.{Logged-extend}

-- an early entry of the longer log is one of the shorter
Logged-shrink : (old new : Log) → Extends old new → (n : ℕ) (e : LogEntry) → n < old.next → Logged new n e → Logged old n e
Logged-shrink old new extends n e low h = record { below = low; is = sym (extends.kept n low) ∙ h.is }

lower : (j last next : ℕ) → j ≤ last → last < next → j < next
lower j last next h k = omega arith

module _ (policy : Policy) (log new : Log) (extends : Extends log new) where
  -- an entry that ends a send stands in the log
  stands : {q : Query} {n moment : ℕ} {e : End IpAddr} → EndsSend policy log q n e moment → n < log.next
  stands (open_refused a) = a.below
  stands (ask_refused a s) = a.below
  stands (open_failed a b) = a.below
  stands (ask_failed a b s) = a.below
  stands (answered a b s) = a.below
  stands (given_up a b s w) = a.below

  WasOpen-extend : {q : Query} {ips : List IpAddr} {t0 last : ℕ} → last < log.next → WasOpen log q ips t0 last → WasOpen new q ips t0 last
  WasOpen-extend {last = last} a w = record {
    k = w.k;
    ip = w.ip;
    e = w.e;
    moment = w.moment;
    of = w.of;
    begun = Logged-extend log new extends _ _ w.begun;
    is = w.is;
    at = w.at;
    before = w.before;
    open_at = λ j m f h e c. w.open_at j m f h (Logged-shrink log new extends j f (lower j last _ h a) e) c;
  }

  -- what holds of the last entry of a lookup
  last_stands : {q : Query} {ips : List IpAddr} {g moments : List ℕ} {ends : List (End IpAddr)} {P : ℕ → Type 0} {Q : ℕ → Type 0} (before : Option ℕ)
      → ((n : ℕ) → n < log.next → P n → Q n) → ((n : ℕ) → before ≡ Some n → n < log.next)
      → EndSends policy log q ips g ends moments → IsSomeAnd (last_or before g) P → IsSomeAnd (last_or before g) Q
  last_stands None f b no_send h = h
  last_stands (Some n) f b no_send h = f n (b n refl) h
  last_stands before f b (and_send {n = n} e c r) h = last_stands (Some n) f (λ m s. let here : n < log.next = stands e in let same : n ≡ m = cc in subst (λ (x : ℕ). x < log.next) same here) r h

  pub DriveTimed-extend : (turns : List ℕ) (wanted : Bool) (t0 : ℕ) (q : Query) (ips : List IpAddr) (g moments : List ℕ) (ends : List (End IpAddr)) (start now : ℕ)
      → EndSends policy log q ips g ends moments → DriveTimed turns wanted log t0 q ips g ends moments start now → DriveTimed turns wanted new t0 q ips g ends moments start now
  DriveTimed-extend turns wanted t0 q ips g moments ends start now s d = record {
    answered = d.answered;
    n = d.n;
    e = d.e;
    begun = Logged-extend log new extends _ _ d.begun;
    is = d.is;
    at = d.at;
    early = d.early;
    since = elim d.since [
      | inl a ↦ inl a
      | inr (inl a) ↦ inr (inl a)
      | inr (inr (inl a)) ↦ inr (inr (inl (last_stands None (λ n above w. WasOpen-extend above w) (λ n e. cc) s a)))
      | inr (inr (inr a)) ↦ inr (inr (inr a))
    ];
  }
