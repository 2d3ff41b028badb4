-- What a lookup has behind it after one more end.
use Rattle.walk_lookup.proofs.Names.{◌≡◌, ℕ, ◌≤◌, ◌<◌, Bool, true, false, List, [], ◌∷◌, ◌++◌, Contains, Option, Some, None, IfSome, refl, sym, subst, ◌∙◌, arith, nat_le, list_all, last_or, and_parts, leb-true, le-leb, same_Some, IpAddr, DomainName, Log, Query, Answered, End, EndsSend, EndSends, Rise, no_send, and_send, both, Outcome, Pending, Connected, Told, Failed, Slept, SentBy, entry_of, IsSent, WaitsBy, OutcomeIs, NetError, LogView, Advances, BeganBy, Began, AreHeard, Tried, IsOf, MayTake, sent_to, either}
use Rattle.recursor_types.specs.declared.policy.Policy.{Policy}
use Rattle.walk_lookup.proofs.LookupAdvances.{tried-later, began_by-kept}
use Rattle.walk_lookup.proofs.SentInLog.{began-sent}
use Rattle.walk_lookup.proofs.SendEndsInLog.{IsEndedBy, sent-for}

-- ---- one more

sends-more : {given : Policy} {log : Log} {q : Query} {ips : List IpAddr} {g moments : List ℕ} {ends : List (End IpAddr)} {n moment : ℕ} {e : End IpAddr}
    → EndSends given log q ips g ends moments → EndsSend given log q n e moment → Contains ips e.server
    → EndSends given log q ips (g ++ n ∷ []) (ends ++ e ∷ []) (moments ++ moment ∷ [])
sends-more no_send s c = and_send s c no_send
sends-more (and_send t d rest) s c = and_send t d (sends-more rest s c)

heard-more : (view : LogView) (zone : DomainName) (q : Query) {ips : List IpAddr} {g moments : List ℕ} {ends : List (End IpAddr)} (n m : ℕ) (e : End IpAddr)
    → EndSends view.policy view.log q ips g ends moments → AreHeard view zone q g ends moments → AreHeard view zone q (n ∷ []) (e ∷ []) (m ∷ [])
    → AreHeard view zone q (g ++ n ∷ []) (ends ++ e ∷ []) (moments ++ m ∷ [])
heard-more view zone q n m e no_send h last = last
heard-more view zone q n m e (and_send t d rest) h last = (h.0, heard-more view zone q n m e rest h.1 last)

rise-more : (g : List ℕ) (greatest n : ℕ) → Rise g → list_all (λ k. nat_le k greatest) g ≡ true → greatest < n → Rise (g ++ n ∷ [])
rise-more [] greatest n r all under = tt
rise-more (k ∷ []) greatest n r all under =
    let first : k ≤ greatest = leb-true k greatest (and_parts (nat_le k greatest) true all).0 in (omega (arith, first, under), tt)
rise-more (k ∷ m ∷ g) greatest n r all under =
    (r.0, rise-more (m ∷ g) greatest n r.1 (and_parts (nat_le k greatest) (list_all (λ x. nat_le x greatest) (m ∷ g)) all).1 under)

all-more : (p : ℕ → Bool) (xs : List ℕ) (n : ℕ) → list_all p xs ≡ true → p n ≡ true → list_all p (xs ++ n ∷ []) ≡ true
all-more p [] n all is = both (p n) true is refl
all-more p (x ∷ xs) n all is = let h = and_parts (p x) (list_all p xs) all in both (p x) (list_all p (xs ++ n ∷ [])) h.0 (all-more p xs n h.1 is)

last-more : (xs : List ℕ) (o : Option ℕ) (n : ℕ) → last_or o (xs ++ n ∷ []) ≡ Some n
last-more [] o n = refl
last-more (x ∷ xs) o n = last-more xs (Some x) n

began-more : (log : Log) (q : Query) (greatest entry : ℕ) (first other : Option IpAddr) (start n : ℕ) (e : End IpAddr) {given : Policy} {ips : List IpAddr} {g moments : List ℕ} {ends : List (End IpAddr)}
    → EndSends given log q ips g ends moments → (g ≡ [] → BeganBy log q e.server n start) → Began log q greatest first g ends start
    → Began log q entry other (g ++ n ∷ []) (ends ++ e ∷ []) start
began-more log q greatest entry first other start n e no_send here b = here refl
began-more log q greatest entry first other start n e (and_send t d rest) here b = b

-- The send to one of the addresses ended later than all before it.
pub tried-more : (view next : LogView) (later : Advances view next) (zone : DomainName) (q : Query) (ips : List IpAddr) (start : ℕ) (first other : Option IpAddr)
    (g : List ℕ) (ends : List (End IpAddr)) (at : ℕ) (ip : IpAddr) (result : Answered) (e : IsEndedBy next next.moment next.greatest zone q ip result)
    → Tried view zone q ips start first g ends at → view.greatest < next.greatest → start ≤ next.moment → Contains ips ip → (g ≡ [] → BeganBy next.log q ip next.greatest start)
    → Tried next zone q ips start other (g ++ next.greatest ∷ []) (ends ++ (record { server = ip; outcome = e.outcome }) ∷ []) next.moment
tried-more view next later zone q ips start first other g ends at ip result e tried under past from here =
    let t = tried-later view next later zone q ips start first g ends at tried in
    let entry = next.greatest in
    let now = next.moment in
    let end : End IpAddr = record { server = ip; outcome = e.outcome } in
    record {
      moments = t.moments ++ now ∷ [];
      logged = sends-more t.logged e.ends from;
      heard = heard-more next zone q entry now end t.logged t.heard (e.heard, tt);
      rises = rise-more g view.greatest entry t.rises tried.early under;
      early = all-more (λ n. nat_le n entry) g entry t.early (le-leb entry entry (omega arith));
      began = began-more next.log q next.greatest entry first other start entry end t.logged here t.began;
      since = all-more (nat_le start) t.moments now t.since (le-leb start now past);
      till = all-more (λ m. nat_le m now) t.moments now t.till (le-leb now now (omega arith));
      last = λ m is. same_Some _ _ (sym is ∙ last-more t.moments None now);
    }

-- ---- where the first send goes

-- how what was sent began, where it was the first
sent-began : (log : Log) (q : Query) (start greatest last since : ℕ) (first : Option IpAddr) (asks : Bool) (ip : IpAddr) (sent : SentBy) (refusal : Option NetError)
    → IsSent log sent refusal → sent.of ≤ last → greatest ≤ last → IsOf start q first false since asks ip sent → IfSome first (λ to. BeganBy log q to greatest start)
    → BeganBy log q sent.ip last start
sent-began log q start greatest last since None asks ip sent refusal logged before later of known =
    subst (BeganBy log q sent.ip last) of.begins (began-sent log q sent refusal last logged (sent-for asks ip q since sent of.over) before)
sent-began log q start greatest last since (Some to) asks ip sent refusal logged before later of known =
    began_by-kept log log (record { later = omega arith; kept = λ n h. refl }) q sent.ip greatest last start later (subst (λ (to : IpAddr). BeganBy log q to greatest start) (sym of.begins) known)

-- where it went, where an outcome says so
pub outcome-began : (log : Log) (q : Query) (start greatest last since now : ℕ) (first : Option IpAddr) (polled : Option ℕ) (asks : Bool) (ip : IpAddr) (w : Option SentBy) (o : Outcome)
    → IfSome first (λ to. BeganBy log q to greatest start) → greatest ≤ last → entry_of o ≤ last → MayTake start q first false since polled asks ip w o → OutcomeIs log now o → WaitsBy log w o
    → IfSome (sent_to w o) (λ to. BeganBy log q to last start)
outcome-began log q start greatest last since now first polled asks ip None (Pending entry of) known le under may fits by = tt
outcome-began log q start greatest last since now first polled asks ip (Some w) (Pending entry of) known le under may fits by =
    let waited = by may.0 in
    sent-began log q start greatest last since first asks ip w None waited.sent (let b = waited.before in omega (arith, b, under)) le may.2 known
outcome-began log q start greatest last since now first polled asks ip w (Connected entry sent) known le under may fits by =
    sent-began log q start greatest last since first asks ip sent None fits.sent (let b = fits.before in omega (arith, b, under)) le may.1 known
outcome-began log q start greatest last since now first polled asks ip w (Told entry sent message) known le under may fits by =
    sent-began log q start greatest last since first asks ip sent None fits.0.sent (let b = fits.0.before in omega (arith, b, under)) le may.1 known
outcome-began log q start greatest last since now first polled asks ip w (Failed entry sent true error) known le under may fits by =
    sent-began log q start greatest last since first asks ip sent (Some error) fits.sent (let b = fits.at in omega (arith, b, under)) le may.1 known
outcome-began log q start greatest last since now first polled asks ip w (Failed entry sent false error) known le under may fits by =
    sent-began log q start greatest last since first asks ip sent None fits.sent (let b = fits.before in omega (arith, b, under)) le may.1 known
outcome-began log q start greatest last since now first polled asks ip w Slept known le under may fits by = absurd may

-- the first address that is known then
first-known : (log : Log) (q : Query) (start greatest last : ℕ) (first other : Option IpAddr) → greatest ≤ last
    → IfSome first (λ to. BeganBy log q to greatest start) → IfSome other (λ to. BeganBy log q to last start) → IfSome (either first other) (λ to. BeganBy log q to last start)
first-known log q start greatest last None other le known more = more
first-known log q start greatest last (Some to) other le known more = began_by-kept log log (record { later = omega arith; kept = λ n h. refl }) q to greatest last start le known

-- what a lookup has behind it that goes on, with the first address as it is known now
pub tried-on : (view next : LogView) (later : Advances view next) (zone : DomainName) (q : Query) (ips : List IpAddr) (start : ℕ) (first other : Option IpAddr) (g : List ℕ) (ends : List (End IpAddr)) (at : ℕ)
    → Tried view zone q ips start first g ends at
    → (g ≡ [] → IfSome first (λ to. BeganBy next.log q to next.greatest start) → IfSome other (λ to. BeganBy next.log q to next.greatest start))
    → Tried next zone q ips start (either first other) g ends at
tried-on view next later zone q ips start first other g ends at tried here =
    let t = tried-later view next later zone q ips start first g ends at tried in
    record { moments = t.moments; logged = t.logged; heard = t.heard; rises = t.rises; early = t.early; began = by g ends here t.began; since = t.since; till = t.till; last = t.last }
  where
    by : (g : List ℕ) (ends : List (End IpAddr)) → (g ≡ [] → IfSome first (λ to. BeganBy next.log q to next.greatest start) → IfSome other (λ to. BeganBy next.log q to next.greatest start))
        → Began next.log q next.greatest first g ends start → Began next.log q next.greatest (either first other) g ends start
    by [] ends more b = first-known next.log q start next.greatest next.greatest first other (omega arith) b (more refl b)
    by (n ∷ g) _ more b = b
