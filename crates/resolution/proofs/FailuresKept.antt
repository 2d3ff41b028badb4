-- What a log shows of failures a longer log shows too, also where less patience is given.
use Rattle.std.proofs.Common.{◌≡◌, ℕ, zero, suc, ◌+◌, ◌≤◌, ◌<◌, true, List, [], ◌∷◌, ◌∙◌, ap, arith, subst, sym, refl, Option}
use Rattle.std.specs.Prelude.{if◌then◌else◌}
use Rattle.std.specs.List.{AllByRecursion}
use Rattle.std.specs.declared.net.ip_addr.IpAddr.{IpAddr}
use Rattle.dns_core.specs.Name.{DomainName}
use Rattle.dns_core.specs.Log.{Log, Extends}
use Rattle.dns_core.specs.declared.message.Query.{Query}
use Rattle.dns_core.specs.declared.message.Message.{Message}
use Rattle.dns_core.specs.declared.log.LogEntry.{LogEntry}
use Rattle.recursor_types.specs.declared.policy.Policy.{Policy}
use Rattle.recursor_types.specs.Policy.{with_patience}
use Rattle.resolution.specs.Serving.{Serves}
use Rattle.resolution.specs.Lookups.{End, Answered}
use Rattle.resolution.specs.Ending.{LookupTiming, waits, is_wait_for, EndsSend, EndSends, Listed, FinishedLookup}
use Rattle.resolution.specs.Ending.EndsSend.{open_refused, ask_refused, open_failed, ask_failed, answered, given_up}
use Rattle.resolution.specs.Ending.EndSends.{no_send, and_send}
use Rattle.resolution.specs.Ending.Listed.{of_roots, of_told}
use Rattle.resolution.specs.Walking.{at_any_time, NoCutSeen, Walked, candidates_below}
use Rattle.resolution.specs.Answering.{Chain}
use Rattle.resolution.specs.Walking.NoCutSeen.{told_otherwise, not_told}
use Rattle.resolution.specs.Answering.Chain.{last, then_alias}
use Rattle.resolution.specs.Failing.{Glueless, NoAddress, TriedFor, Tried, Lookups, Spent, Tour, Detours, Tours, Worn, Barren, Dry, WalkFail}
use Rattle.resolution.specs.Failing.NoAddress.{none_in_answer, no_answer}
use Rattle.resolution.specs.Failing.Lookups.{no_lookup, one_more}
use Rattle.resolution.specs.Failing.Tour.{tour}
use Rattle.resolution.specs.Failing.Detours.{no_candidate, no_chase, chase}
use Rattle.resolution.specs.Failing.Tours.{no_name, and_to}
use Rattle.resolution.specs.Failing.Worn.{by_lookups, by_entries, by_count}
use Rattle.resolution.specs.Failing.Barren.{barren}
use Rattle.resolution.specs.Failing.Dry.{no_target, asked, not_reached}
use Rattle.resolution.specs.Failing.WalkFail.{entered, denied, timed_out, no_address, too_deep, worn}
use Rattle.resolution.proofs.LongerLogs.{Logged-extend, Serves-extend, Delegates-extend, Heard-extend, Base-extend}

le_trans : (a x y : ℕ) → a ≤ x → x ≤ y → a ≤ y
le_trans a x y h k = omega arith

pub waits-extend : (old new : Log) → Extends old new → (of n : ℕ) → n ≤ old.next → waits new of n ≡ waits old of n
waits-extend old new extends of zero h = refl
waits-extend old new extends of (suc n) h =
    ap (λ (e : Option LogEntry). waits new of n + (if is_wait_for of e then 1 else 0)) (extends.kept n (omega arith))
    ∙ ap (λ (k : ℕ). k + (if is_wait_for of (old.entry n) then 1 else 0)) (waits-extend old new extends of n (omega arith))

below_next : (n next : ℕ) → n < next → n ≤ next
below_next n next h = omega arith

module _ (policy : Policy) (less : ℕ) (fewer : less ≤ policy.patience) (log new : Log) (extends : Extends log new) where
  pub EndsSend-extend : {q : Query} {n moment : ℕ} {e : End IpAddr} → EndsSend policy log q n e moment → EndsSend (with_patience less policy) new q n e moment
  EndsSend-extend (open_refused a) = open_refused (Logged-extend log new extends _ _ a)
  EndsSend-extend (ask_refused a s) = ask_refused (Logged-extend log new extends _ _ a) s
  EndsSend-extend (open_failed a b) = open_failed (Logged-extend log new extends _ _ a) (Logged-extend log new extends _ _ b)
  EndsSend-extend (ask_failed a b s) = ask_failed (Logged-extend log new extends _ _ a) (Logged-extend log new extends _ _ b) s
  EndsSend-extend (answered a b s) = answered (Logged-extend log new extends _ _ a) (Logged-extend log new extends _ _ b) s
  EndsSend-extend {n = n} (given_up {k = k} a b s w) = given_up (Logged-extend log new extends _ _ a) (Logged-extend log new extends _ _ b) s (le_trans less _ _ fewer (subst (λ (x : ℕ). policy.patience ≤ x) (sym (waits-extend log new extends k n (below_next n _ a.below))) w))

  pub EndSends-extend : {q : Query} {ips : List IpAddr} {g moments : List ℕ} {ends : List (End IpAddr)} → EndSends policy log q ips g ends moments → EndSends (with_patience less policy) new q ips g ends moments
  EndSends-extend no_send = no_send
  EndSends-extend (and_send e c r) = and_send (EndsSend-extend e) c (EndSends-extend r)

  each_serves : (n : ℕ) (z : DomainName) (ips : List IpAddr) → AllByRecursion (λ ip. Serves policy log n ip z) ips → AllByRecursion (λ ip. Serves (with_patience less policy) new n ip z) ips
  each_serves n z [] s = s
  each_serves n z (ip ∷ ips) (s, rest) = (Serves-extend policy less log new extends s, each_serves n z ips rest)

  pub Listed-extend : {z : DomainName} {ips : List IpAddr} → Listed policy log z ips → Listed (with_patience less policy) new z ips
  Listed-extend of_roots = of_roots
  Listed-extend {z = z} {ips = ips} (of_told l) = of_told (record { below = l.below; serve = each_serves l.below z ips l.serve; some = l.some; k = l.k; told = Delegates-extend policy less log new extends l.told; whole = l.whole })

  pub Glueless-extend : {t0 : ℕ} {c : DomainName} {k : Message} → Glueless policy log t0 c k → Glueless (with_patience less policy) new t0 c k
  Glueless-extend g = record { i = g.i; z = g.z; base = Base-extend policy less log new extends g.base; delegates = g.delegates; none = g.none }

  pub Chain-extend : {t0 : ℕ} {q p : Query} {g : List ℕ} {qs : List Query} → Chain policy log t0 q g p qs → Chain (with_patience less policy) new t0 q g p qs
  Chain-extend last = last
  Chain-extend (then_alias b c f r) = then_alias (Base-extend policy less log new extends b) c f (Chain-extend r)

  mutual
    pub Tour-extend : {t0 m : ℕ} {n : DomainName} {stack : List DomainName} → Tour policy log t0 n stack m → Tour (with_patience less policy) new t0 n stack m
    Tour-extend (tour d h) = tour (Detours-extend d) h

    pub Detours-extend : {t0 m : ℕ} {cs stack : List DomainName} → Detours policy log t0 cs stack m → Detours (with_patience less policy) new t0 cs stack m
    Detours-extend no_candidate = no_candidate
    Detours-extend (no_chase d) = no_chase (Detours-extend d)
    Detours-extend (chase s g t d) = chase s (Glueless-extend g) (Tours-extend t) (Detours-extend d)

    pub Tours-extend : {t0 m : ℕ} {ts stack : List DomainName} → Tours policy log t0 ts stack m → Tours (with_patience less policy) new t0 ts stack m
    Tours-extend no_name = no_name
    Tours-extend (and_to t ts) = and_to (Tour-extend t) (Tours-extend ts)

  -- what is known of moments and counts stays known
  module _ (known wider : LookupTiming)
      (timed : (q : Query) (ips : List IpAddr) (g moments : List ℕ) (ends : List (End IpAddr)) (start now : ℕ) → EndSends policy log q ips g ends moments → known.Timed q ips g ends moments start now → wider.Timed q ips g ends moments start now)
      (exhausted : known.exhausted ≡ true → wider.exhausted ≡ true) where
    abbrev pub Finished-extend : {t0 : ℕ} {q : Query} {z : DomainName} {g : List ℕ} {result : Answered} → FinishedLookup policy known log t0 q z g result → FinishedLookup (with_patience less policy) wider new t0 q z g result
    Finished-extend f = record {
      ips = f.ips;
      ends = f.ends;
      moments = f.moments;
      start = f.start;
      now = f.now;
      above = f.above;
      listed = Listed-extend f.listed;
      rises = f.rises;
      logged = EndSends-extend f.logged;
      run = f.run;
      bounded = f.bounded;
      since = f.since;
      till = f.till;
      asked = f.asked;
      timed = timed _ _ _ _ _ _ _ f.logged f.timed;
      fresh = f.fresh;
    }

  pub NoCut-extend : {c : DomainName} → NoCutSeen policy log c → NoCutSeen (with_patience less policy) new c
  NoCut-extend (told_otherwise h v n below) = told_otherwise (Heard-extend policy less log new extends h) v n (λ k low high. NoCut-extend (below k low high))
  NoCut-extend (not_told f n below) = not_told (Finished-extend at_any_time at_any_time (λ q ips g moments ends start now s t. t) (λ x. x) f) n (λ k low high. NoCut-extend (below k low high))

  each_no_cut : (cs : List DomainName) → AllByRecursion (NoCutSeen policy log) cs → AllByRecursion (NoCutSeen (with_patience less policy) new) cs
  each_no_cut [] w = w
  each_no_cut (c ∷ cs) (n, w) = (NoCut-extend n, each_no_cut cs w)

  pub Walked-extend : (q : Query) (z : DomainName) → Walked policy log q z → Walked (with_patience less policy) new q z
  Walked-extend q z w = each_no_cut (candidates_below q z) w

  -- what is known of moments and counts stays known
  module _ (known wider : LookupTiming)
      (timed : (q : Query) (ips : List IpAddr) (g moments : List ℕ) (ends : List (End IpAddr)) (start now : ℕ) → EndSends policy log q ips g ends moments → known.Timed q ips g ends moments start now → wider.Timed q ips g ends moments start now)
      (exhausted : known.exhausted ≡ true → wider.exhausted ≡ true) where
    pub NoAddress-extend : {t0 : ℕ} {q : Query} {z : DomainName} → NoAddress policy known log t0 q z → NoAddress (with_patience less policy) wider new t0 q z
    NoAddress-extend (none_in_answer h t c a) = none_in_answer (Heard-extend policy less log new extends h) t c a
    NoAddress-extend (no_answer f) = no_answer (Finished-extend known wider timed exhausted f)

    TriedFor-extend : {t0 : ℕ} {c : DomainName} {q : Query} → TriedFor policy known log t0 c q → TriedFor (with_patience less policy) wider new t0 c q
    TriedFor-extend {q = q} t = record { z = t.z; walked = λ h. Walked-extend q t.z (t.walked h); none = NoAddress-extend t.none }

    pub Tried-extend : {t0 : ℕ} {c t : DomainName} → Tried policy known log t0 c t → Tried (with_patience less policy) wider new t0 c t
    Tried-extend t = record { four = TriedFor-extend t.four; six = TriedFor-extend t.six }

    Lookups-extend : {t0 n : ℕ} {used : List ℕ} → Lookups policy known log t0 used n → Lookups (with_patience less policy) wider new t0 used n
    Lookups-extend no_lookup = no_lookup
    Lookups-extend (one_more f a l) = one_more (Finished-extend known wider timed exhausted f) a (Lookups-extend l)

    pub Spent-extend : {t0 m : ℕ} → Spent policy known log t0 m → Spent (with_patience less policy) wider new t0 m
    Spent-extend s = record { used = s.used; count = s.count; lookups = Lookups-extend s.lookups; enough = s.enough }

    pub Worn-extend : {t0 : ℕ} {names : List DomainName} → Worn policy known log t0 names → Worn (with_patience less policy) wider new t0 names
    Worn-extend (by_lookups s) = by_lookups (Spent-extend s)
    Worn-extend (by_entries t h) = by_entries (Tours-extend t) h
    Worn-extend (by_count x) = by_count (exhausted x)

    mutual
      pub Barren-extend : {t0 d : ℕ} {names stack : List DomainName} {c : DomainName} → Barren policy known log t0 names c stack d → Barren (with_patience less policy) wider new t0 names c stack d
      Barren-extend (barren g l y) = barren (Glueless-extend g) l (Dry-extend y)

      pub Dry-extend : {t0 d : ℕ} {names ts stack : List DomainName} {c : DomainName} → Dry policy known log t0 names c ts stack d → Dry (with_patience less policy) wider new t0 names c ts stack d
      Dry-extend no_target = no_target
      Dry-extend (asked t r) = asked (Tried-extend t) (Dry-extend r)
      Dry-extend (not_reached h w r) = not_reached h (WalkFail-extend w) (Dry-extend r)

      pub WalkFail-extend : {t0 d : ℕ} {names stack : List DomainName} {n : DomainName} → WalkFail policy known log t0 names n stack d → WalkFail (with_patience less policy) wider new t0 names n stack d
      WalkFail-extend (entered c s) = entered c s
      WalkFail-extend (denied c s b v) = denied c s (Base-extend policy less log new extends b) v
      WalkFail-extend (timed_out c f) = timed_out c (Finished-extend known wider timed exhausted f)
      WalkFail-extend (no_address c b) = no_address c (Barren-extend b)
      WalkFail-extend (too_deep h) = too_deep h
      WalkFail-extend (worn w) = worn (Worn-extend w)
