-- How a lookup ended does not depend on the case of its question.
use Rattle.std.proofs.Common.{◌≡◌, ℕ, Bool, true, false, List, Option, Some, None, inl, inr, ◌&&◌, refl, subst, sym, ◌∙◌}
use Rattle.std.specs.Prelude.{Ok, Err, IsSomeAnd, slice_get}
use Rattle.std.specs.List.{last_or}
use Rattle.std.specs.declared.net.ip_addr.IpAddr.{IpAddr}
use Rattle.dns_core.specs.Name.{DomainName}
use Rattle.dns_core.specs.Log.{Log}
use Rattle.dns_core.specs.declared.message.Query.{Query}
use Rattle.dns_core.specs.declared.log.LogEntry.{LogEntry}
use Rattle.dns_core.specs.declared.log.LogEntry.TheVariants.{Opened, Asked}
use Rattle.resolution.specs.Names.{same_query}
use Rattle.recursor_types.specs.declared.policy.Policy.{Policy}
use Rattle.resolution.specs.Lookups.{Answered, class_of_answer, End, PoolRun, IsBounded}
use Rattle.resolution.specs.Ending.{LookupTiming, by_address, same_ip, is_begun, EndsSend, EndSends, FinishedLookup}
use Rattle.resolution.specs.Ending.EndsSend.{open_refused, ask_refused, open_failed, ask_failed, answered, given_up}
use Rattle.resolution.specs.Ending.EndSends.{no_send, and_send}
use Rattle.resolution.specs.Timing.{is_send, WasOpen, DriveTimed}
use Rattle.resolution.specs.declared.class.Class.{Class}
use Rattle.resolution.proofs.Caseless.{class_of_message-same, walk-same, same_through}

pub class-same : (q p : Query) → same_query q p ≡ true → class_of_answer q ≡ class_of_answer p
class-same q p h i a = by a i
  where
    by : (a : Answered) → class_of_answer q a ≡ class_of_answer p a
    by (Ok m) = class_of_message-same q p h m
    by (Err e) = refl

second : (a b c : Bool) → (b ≡ true → c ≡ true) → (a && b) ≡ true → (a && c) ≡ true
second true b c f h = f h
second false b c f h = h

module _ (q p : Query) (same : same_query q p ≡ true) where
  pub is_begun-same : (ip : IpAddr) (e : LogEntry) → is_begun q ip e ≡ true → is_begun p ip e ≡ true
  is_begun-same ip (Opened at protocol m None) h = h
  is_begun-same ip (Asked at protocol a m None) h = second (same_ip at ip) (same_query a q) (same_query a p) (same_through q p same a) h
  is_begun-same ip _ h = cc

  EndsSend-same : {policy : Policy} {log : Log} {n moment : ℕ} {e : End IpAddr} → EndsSend policy log q n e moment → EndsSend policy log p n e moment
  EndsSend-same (open_refused a) = open_refused a
  EndsSend-same (ask_refused {asked = x} a s) = ask_refused a (same_through q p same x s)
  EndsSend-same (open_failed a b) = open_failed a b
  EndsSend-same (ask_failed {asked = x} a b s) = ask_failed a b (same_through q p same x s)
  EndsSend-same (answered {asked = x} a b s) = answered a b (same_through q p same x s)
  EndsSend-same (given_up {ip = ip} {e = x} a b s w) = given_up a b (is_begun-same ip x s) w

  EndSends-same : {policy : Policy} {log : Log} {ips : List IpAddr} {g moments : List ℕ} {ends : List (End IpAddr)} → EndSends policy log q ips g ends moments → EndSends policy log p ips g ends moments
  EndSends-same no_send = no_send
  EndSends-same (and_send s c r) = and_send (EndsSend-same s) c (EndSends-same r)

  module _ (known other : LookupTiming)
      (timed : (ips : List IpAddr) (g moments : List ℕ) (ends : List (End IpAddr)) (start now : ℕ) → known.Timed q ips g ends moments start now → other.Timed p ips g ends moments start now) where
    pub Finished-same : {policy : Policy} {log : Log} {t0 : ℕ} {z : DomainName} {g : List ℕ} {result : Answered} → FinishedLookup policy known log t0 q z g result → FinishedLookup policy other log t0 p z g result
    Finished-same {policy = policy} {z = z} {result = result} f = record {
      ips = f.ips;
      ends = f.ends;
      moments = f.moments;
      start = f.start;
      now = f.now;
      above = sym (walk-same q p same z) ∙ f.above;
      listed = f.listed;
      rises = f.rises;
      logged = EndSends-same f.logged;
      run = subst (λ (c : Answered → Class). PoolRun (by_address policy.timeout) c f.ips f.ends result f.start f.now) (class-same q p same) f.run;
      bounded = subst (λ (c : Answered → Class). IsBounded (by_address policy.timeout) c f.ips f.ends) (class-same q p same) f.bounded;
      since = f.since;
      till = f.till;
      asked = f.asked;
      timed = timed _ _ _ _ _ _ f.timed;
      fresh = f.fresh;
    }

map_some : {X : Type 0} (o : Option X) (P Q : X → Type 0) → ((x : X) → P x → Q x) → IsSomeAnd o P → IsSomeAnd o Q
map_some None P Q f h = h
map_some (Some x) P Q f h = f x h

module _ (q p : Query) (same : same_query q p ≡ true) where
  is_send-same : (ip : IpAddr) (e : LogEntry) → is_send q ip e ≡ true → is_send p ip e ≡ true
  is_send-same ip (Opened at protocol m r) h = h
  is_send-same ip (Asked at protocol a m r) h = second (same_ip at ip) (same_query a q) (same_query a p) (same_through q p same a) h
  is_send-same ip _ h = cc

  WasOpen-same : (log : Log) (ips : List IpAddr) (t0 last : ℕ) → WasOpen log q ips t0 last → WasOpen log p ips t0 last
  WasOpen-same log ips t0 last w = record { k = w.k; ip = w.ip; e = w.e; moment = w.moment; of = w.of; begun = w.begun; is = is_begun-same q p same w.ip w.e w.is; at = w.at; before = w.before; open_at = w.open_at }

  pub DriveTimed-same : (turns : List ℕ) (wanted : Bool) (log : Log) (t0 : ℕ) (ips : List IpAddr) (g moments : List ℕ) (ends : List (End IpAddr)) (start now : ℕ)
      → DriveTimed turns wanted log t0 q ips g ends moments start now → DriveTimed turns wanted log t0 p ips g ends moments start now
  DriveTimed-same turns wanted log t0 ips g moments ends start now d = record {
    answered = d.answered;
    n = d.n;
    e = d.e;
    begun = d.begun;
    is = map_some (slice_get ends 0) _ _ (λ first h. is_send-same first.server d.e h) d.is;
    at = d.at;
    early = d.early;
    since = elim d.since [
      | inl a ↦ inl a
      | inr (inl a) ↦ inr (inl a)
      | inr (inr (inl a)) ↦ inr (inr (inl (map_some (last_or None g) (WasOpen log q ips t0) (WasOpen log p ips t0) (WasOpen-same log ips t0) a)))
      | inr (inr (inr a)) ↦ inr (inr (inr a))
    ];
  }
