-- Where a lookup at the roots ends without a connection, each root has an entry by which a send to it ended.
use Rattle.std.proofs.Common.{◌≡◌, ℕ, zero, suc, subst, sym, inl, inr, Bool, true, false, List, [], ◌∷◌, ◌&&◌, ◌||◌, refl}
use Rattle.std.specs.Prelude.{Contains, not, Err, take, drop}
use Rattle.std.specs.List.{list_any, list_all, before_first, after_first}
use Rattle.std.specs.declared.net.ip_addr.IpAddr.{IpAddr}
use Rattle.dns_core.specs.Name.{DomainName}
use Rattle.dns_core.specs.Log.{Log}
use Rattle.dns_core.specs.declared.message.Query.{Query}
use Rattle.dns_core.specs.declared.message.Message.{Message}
use Rattle.dns_core.specs.declared.net_error.NetError.TheVariants as net
use Rattle.resolution.specs.Names.{root, is_root}
use Rattle.recursor_types.specs.declared.policy.Policy.{Policy}
use Rattle.resolution.specs.Serving.{Delegates}
use Rattle.resolution.specs.Serving.Delegates.{delegates}
use Rattle.resolution.specs.Lookups.{class_of_answer, End, Rules, PoolRun, is_at, but_fallback, falls_back, has_fallen_back, answer_of, is_retryable, class_of_end}
use Rattle.resolution.specs.Lookups.PoolRun.{decided, spent, late}
use Rattle.resolution.specs.Ending.{LookupTiming, by_address, same_ip, EndsSend, EndSends, Listed, Ended}
use Rattle.resolution.specs.Ending.EndSends.{no_send, and_send}
use Rattle.resolution.specs.Ending.Listed.{of_roots, of_told}
use Rattle.resolution.specs.declared.class.Class.{Class}
use Rattle.resolution.specs.declared.class.Class.TheVariants.{Error, Code, Truncated, Negative, Foreign, Positive}
use Rattle.resolution.proofs.ElementsFiltered.{Has, Has-append_cases, Has-from_Contains}

both : (a b : Bool) → (a && b) ≡ true → (a ≡ true) × (b ≡ true)
both true b h = (refl, h)
both false b h = cc

passing : {X : Type 0} (p : X → Bool) (xs : List X) → list_any p xs ≡ true → (x : X) × Has xs x × (p x ≡ true)
passing p [] h = cc
passing {X} p (x ∷ xs) h = at_head (p x) refl h (passing p xs)
  where
    at_head : (b : Bool) → p x ≡ b → (b || list_any p xs) ≡ true → (list_any p xs ≡ true → (y : X) × Has xs y × (p y ≡ true)) → (y : X) × Has (x ∷ xs) y × (p y ≡ true)
    at_head true e k next = (x, inl refl, e)
    at_head false e k next = let r : (y : X) × Has xs y × (p y ≡ true) = next k in (r.0, inr r.1, r.2)

each : {X : Type 0} (p : X → Bool) (xs : List X) (x : X) → list_all p xs ≡ true → Has xs x → p x ≡ true
each p [] y h k = elim k [ ]
each p (x ∷ xs) y h (inl e) = subst (λ z. p z ≡ true) e ((both (p x) _ h).0)
each p (x ∷ xs) y h (inr k) = each p xs y ((both (p x) _ h).1) k

Has-take : {X : Type 0} (n : ℕ) (xs : List X) (x : X) → Has (take n xs) x → Has xs x
Has-take zero [] x h = h
Has-take zero (y ∷ xs) x h = elim h [ ]
Has-take (suc n) [] x h = h
Has-take (suc n) (y ∷ xs) x (inl e) = inl e
Has-take (suc n) (y ∷ xs) x (inr h) = inr (Has-take n xs x h)

Has-drop : {X : Type 0} (n : ℕ) (xs : List X) (x : X) → Has (drop n xs) x → Has xs x
Has-drop zero [] x h = h
Has-drop zero (y ∷ xs) x h = h
Has-drop (suc n) [] x h = h
Has-drop (suc n) (y ∷ xs) x h = inr (Has-drop n xs x h)

no_decision : (trusted : Bool) (c : Class) → Err net.NoConnections ≡ answer_of c → not (is_retryable trusted c) ≡ true → ⊥
no_decision trusted (Error net.NoConnections) h k = cc
no_decision trusted (Error _) h k = cc
no_decision trusted (Code x) h k = cc
no_decision trusted Truncated h k = cc
no_decision trusted (Negative x) h k = cc
no_decision trusted (Foreign x) h k = cc
no_decision trusted (Positive x) h k = cc

module _ (policy : Policy) (known : LookupTiming) (log : Log) (q : Query) where
  not_root : {n : ℕ} {c : DomainName} {k : Message} → Delegates policy log n c k → is_root c ≡ false
  not_root (delegates i h v d r) = r

  listed_root : {z : DomainName} {ips : List IpAddr} → Listed policy log z ips → is_root z ≡ true → ips ≡ policy.roots
  listed_root of_roots h = refl
  listed_root (of_told l) h = let x = not_root l.told in cc

  -- an entry ends a send to the address
  abbrev pub IsTried : List ℕ → IpAddr → Type 0
  IsTried g ip = (n : ℕ) × (m : ℕ) × (e : End IpAddr) × Has g n × (same_ip ip e.server ≡ true) × EndsSend policy log q n e m

  entry_of : {ips : List IpAddr} {g moments : List ℕ} {ends : List (End IpAddr)} (ip : IpAddr) (e : End IpAddr) → EndSends policy log q ips g ends moments → Has ends e → same_ip ip e.server ≡ true → IsTried g ip
  entry_of ip e no_send h s = elim h [ ]
  entry_of ip e (and_send {n = n} {moment = m} {e = f} a c r) (inl h) s = (n, m, f, inl refl, subst (λ x. same_ip ip x.server ≡ true) (sym h) s, a)
  entry_of ip e (and_send a c r) (inr h) s = let t = entry_of ip e r h s in (t.0, t.1, t.2, inr t.3, t.4, t.5)

  module _ (timeout : ℕ) where
    the_rules : Rules IpAddr
    the_rules = by_address timeout

    was_asked : (ends : List (End IpAddr)) (ip : IpAddr) → list_any (is_at (by_address timeout) (class_of_answer q) ip) (but_fallback (by_address timeout) (class_of_answer q) ends) ≡ true → (e : End IpAddr) × Has ends e × (same_ip ip e.server ≡ true)
    was_asked ends ip h =
        let r = passing (is_at (by_address timeout) (class_of_answer q) ip) (but_fallback (by_address timeout) (class_of_answer q) ends) h in
        (r.0, elim (Has-append_cases (before_first (falls_back (by_address timeout) (class_of_answer q)) ends) (after_first (falls_back (by_address timeout) (class_of_answer q)) ends) (r.0) (r.1)) [ inl k ↦ Has-take _ ends (r.0) k | inr k ↦ Has-drop _ ends (r.0) k ], r.2)

  off : (a b : Bool) → ((a && false) || b) ≡ true → b ≡ true
  off true b h = h
  off false b h = h

  run_tried : (ips : List IpAddr) (ends : List (End IpAddr)) (start now : ℕ) → PoolRun (by_address policy.timeout) (class_of_answer q) ips ends (Err net.NoConnections) start now → (ip : IpAddr) → Has ips ip → (e : End IpAddr) × Has ends e × (same_ip ip e.server ≡ true)
  run_tried ips ends start now (decided d) ip h = absurd (no_decision true (class_of_end (by_address policy.timeout) (class_of_answer q) d.last) d.answers ((both _ _ d.final).0))
  run_tried ips ends start now (late d) ip h = let x = d.answers in cc
  run_tried ips ends start now (spent d) ip h = was_asked policy.timeout ends ip (off (has_fallen_back (by_address policy.timeout) (class_of_answer q) ends) _ (each _ ips ip d.tried h))

  pub roots_tried : {t0 : ℕ} {g : List ℕ} → Ended policy known log t0 q root g net.NoConnections → (ip : IpAddr) → Contains policy.roots ip → IsTried g ip
  roots_tried f ip c =
      let same : f.ips ≡ policy.roots = listed_root f.listed refl in
      let h : Has f.ips ip = subst (λ x. Has x ip) (sym same) (Has-from_Contains policy.roots ip c) in
      let r = run_tried f.ips f.ends f.start f.now f.run ip h in
      entry_of ip (r.0) f.logged (r.1) (r.2)
