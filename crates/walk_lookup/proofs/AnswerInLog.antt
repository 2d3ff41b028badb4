-- What a lookup that was answered came to, as the log shows it.
use Rattle.walk_lookup.proofs.Names.{◌≡◌, ℕ, ◌≤◌, ◌<◌, eqb-true, Bool, true, false, not, ◌||◌, List, [], ◌∷◌, ◌++◌, map, length, Option, Some, None, IfSome, IsSomeAnd, Result, Ok, Err, ◌⊎◌, inl, inr, refl, sym, ap, subst, ◌∙◌, arith, IsTrue, nat_le, option_and_then, ◌==◌, if◌then◌else◌, list_all, last_or, and_parts, leb-true, same_Some, All-weaker, recursion_from_All, IsPermutation-sym, IpAddr, DomainName, Log, Query, Message, NetError, DnsError, denies, class_of, is_all_denied, without_denied, Heard, Answered, class_of_answer, End, is_retryable, answer_of, what_is_left, IsDecided, PoolRun, IsBounded, by_address, EndSends, no_send, and_send, Class, rules_of, class_of_sent, answer_in, left_of, HeardEnd, ends_of, entries_of, IsRun, out_of_memory, LookupState, question_of, State, Decided, closed_by, lookup_at, Shared, OpenLookup, at_address, IsTrustedBeyondUdp, run_by_address, nothing_left_for, left_of_class, is_lookup_error, last_of, class_of_failure, classified, IsTold, HasFailedBy, FoundHolds, ComesTo, HasCome, LogView, Began, is_response, told_of, AreHeard, Concluded, IsAt, PendingHolds, answer_at, AskedAs, LookupResult, PendingLookup}
use Rattle.dns_core.specs.declared.record.Record.{Record}
use Rattle.resolution.specs.Lookups.PoolRun.{decided, spent, late}
use Rattle.resolution.specs.declared.class.Class.TheVariants.{Error, Code, Truncated, Negative, Foreign, Positive}
use Rattle.pool_rules.specs.AnswerFilter.{foreign_class, nothing_left}
use Rattle.pool_rules.proofs.QueueAfterEnd.{same_self, same_is}
use Rattle.walk_response.proofs.RunsOfLookups.{PoolRun-permuted, answer_whole, run_later, sends_length}
use Rattle.server_pool.proofs.FewEndsByAddress.{bounded_images, bounded_permuted}
use Rattle.server_pool.proofs.LeftAtAddresses.{IsLeft, ends_from, left_error, no_denial_error, spent_some}
use Rattle.pool_lookup.specs.Asked.{answer_of as answer_of_state}
use Rattle.pool_lookup.specs.Holds.{IsAt as IsAt_state}
use Rattle.dns_core.specs.declared.net_error.NetError.TheVariants as net
use Rattle.dns_core.specs.declared.net_error.DnsError.TheVariants as dns
use Rattle.walk_lookup.specs.declared.lookup_result.LookupResult.TheVariants as found

-- ---- what ends a lookup

-- what is left where no end decides
lookup-error : (e : NetError) → IsLeft e → IsTrue (is_lookup_error e)
lookup-error net.Timeout h = refl
lookup-error net.Truncated h = refl
lookup-error net.NoConnections h = refl
lookup-error _ h = absurd h

-- an error that ends a lookup: it is none by which another server is asked, and no denial
final-error : (q : Query) (o : Answered) (e : NetError) → class_of_answer q o ≡ Error e → is_retryable true (Error e) ≡ false → IsTrue (is_lookup_error e)
final-error q o net.Busy is final = cc
final-error q o (net.Io kind) is final = cc
final-error q o net.NoConnections is final = cc
final-error q o net.Timeout is final = cc
final-error q o (net.Dns (dns.NoRecordsFound n)) is final = absurd (no_denial_error q o n is)
final-error q o _ is final = refl

-- what was told is of the class of the answer
class-told : (q : Query) (o : Answered) → class_of (told_of o) q ≡ Some (class_of_answer q o)
class-told q (Ok m) = refl
class-told q (Err e) = refl

-- ---- the entries of the ends

last-later : (xs : List ℕ) (k n : ℕ) → last_or None xs ≡ Some n → last_or (Some k) xs ≡ Some n
last-later [] k n h = cc
last-later (x ∷ xs) k n h = h

-- the last end: its entry, its moment, and what was heard by it
pub record LastEnd (view : LogView) (zone : DomainName) (q : Query) (g moments : List ℕ) (e : End IpAddr) : Type 0 where
  pub entry : ℕ
  pub moment : ℕ
  pub at_entry : last_or None g ≡ Some entry
  pub at_moment : last_or None moments ≡ Some moment
  pub heard : IsTrue (is_response (class_of_answer q e.outcome)) → Heard view.policy view.log entry q (told_of e.outcome) moment zone × AskedAs view.log entry q

last-end : (view : LogView) (zone : DomainName) (q : Query) {ips : List IpAddr} {g moments : List ℕ} {ends : List (End IpAddr)} (earlier : List (End IpAddr)) (e : End IpAddr)
    → EndSends view.policy view.log q ips g ends moments → AreHeard view zone q g ends moments → ends ≡ earlier ++ e ∷ [] → LastEnd view zone q g moments e
last-end view zone q [] e no_send heard is = cc
last-end view zone q (x ∷ earlier) e no_send heard is = cc
last-end view zone q [] e (and_send {n = n} {moment = m} {e = f} s c no_send) heard is =
    let same : f ≡ e = cc in
    record {
      entry = n;
      moment = m;
      at_entry = refl;
      at_moment = refl;
      heard = subst (λ (x : End IpAddr). IsTrue (is_response (class_of_answer q x.outcome)) → Heard view.policy view.log n q (told_of x.outcome) m zone × AskedAs view.log n q) same heard.0;
    }
last-end view zone q [] e (and_send s c (and_send t d rest)) heard is = cc
last-end view zone q (x ∷ earlier) e (and_send {n = n} {moment = m} {g = g} {moments = moments} {ends = ends} s c rest) heard is =
    let tail : ends ≡ earlier ++ e ∷ [] = cc in
    let last = last-end view zone q earlier e rest heard.1 tail in
    record {
      entry = last.entry;
      moment = last.moment;
      at_entry = last-later g n last.entry last.at_entry;
      at_moment = last-later moments m last.moment last.at_moment;
      heard = last.heard;
    }

-- what holds of each holds of the last
last-holds : (p : ℕ → Bool) (xs : List ℕ) (o : Option ℕ) (n : ℕ) → IfSome o (λ x. p x ≡ true) → list_all p xs ≡ true → last_or o xs ≡ Some n → p n ≡ true
last-holds p [] (Some x) n before all is = subst (λ (y : ℕ). p y ≡ true) (same_Some _ _ is) before
last-holds p [] None n before all is = cc
last-holds p (x ∷ xs) o n before all is = let h = and_parts (p x) (list_all p xs) all in last-holds p xs (Some x) n h.0 h.1 is

-- a list with an element has a last one
last-there : (xs : List ℕ) (o : Option ℕ) (P : ℕ → Type 0) (p : ℕ → Bool) → ((n : ℕ) → p n ≡ true → P n) → IsSomeAnd o P → list_all p xs ≡ true → IsSomeAnd (last_or o xs) P
last-there [] o P p f h all = h
last-there (x ∷ xs) o P p f h all = let a = and_parts (p x) (list_all p xs) all in last-there xs (Some x) P p f (f x a.0) a.1

last-since : (moments : List ℕ) (begun start : ℕ) → begun ≤ start → 0 < length moments → list_all (nat_le start) moments ≡ true → IsSomeAnd (last_or None moments) (λ m. begun ≤ m)
last-since [] begun start le some all = absurd (omega (arith, some))
last-since (m ∷ ms) begun start le some all =
    let a = and_parts (nat_le start m) (list_all (nat_le start) ms) all in
    let first : start ≤ m = leb-true start m a.0 in
    last-there ms (Some m) (λ n. begun ≤ n) (nat_le start) (λ n k. let late = leb-true start n k in omega (arith, le, late)) (omega (arith, le, first)) a.1

began-ended : (log : Log) (q : Query) (greatest : ℕ) (first : Option IpAddr) (g : List ℕ) (ends : List (End IpAddr)) (start : ℕ) → 0 < length g
    → Began log q greatest first g ends start → Began log q 0 None g ends start
began-ended log q greatest first [] ends start some b = absurd (omega (arith, some))
began-ended log q greatest first (n ∷ g) [] start some b = b
began-ended log q greatest first (n ∷ g) (e ∷ ends) start some b = b

some-last : (ends earlier : List (End IpAddr)) (e : End IpAddr) → ends ≡ earlier ++ e ∷ [] → 0 < length ends
some-last [] [] e is = cc
some-last [] (x ∷ earlier) e is = cc
some-last (f ∷ ends) earlier e is = omega arith

late-some : (timeout : ℕ) → 0 < timeout → (ends : List (End IpAddr)) → (not (length ends == 0) || timeout == 0) ≡ true → 0 < length ends
late-some timeout lasts [] some = let none = eqb-true timeout 0 some in absurd (omega (arith, lasts, none))
late-some timeout lasts (e ∷ ends) some = omega arith

not_false : (b : Bool) → not b ≡ true → b ≡ false
not_false true h = cc
not_false false h = refl

-- ---- a lookup that was answered

-- an answer of the class by these entries, the last of them at the moment: a response was told by the last one, or the lookup failed
abbrev pub ClassHolds : LogView → ℕ → DomainName → Query → List ℕ → ℕ → Result (Result Message DnsError) NetError → Type 0
ClassHolds view t0 zone q g at (Ok class) = IsTold view t0 zone q (last_of g) at class
ClassHolds view t0 zone q g at (Err error) = HasFailedBy view t0 zone q g error

-- each address has few ends, as each candidate has
bounded-of : (view : LogView) (shared : Shared) (n : ℕ) (s : PendingLookup) (h : PendingHolds view shared n s) → IsBounded (by_address view.policy.timeout) (class_of_answer s.query) h.ips h.ends
bounded-of view shared n s h =
    let l = h.shared_by.lookup in
    let at_time = subst (λ (t : ℕ). IsBounded (rules_of t) (class_of_sent (question_of l)) l.servers (ends_of h.heard)) h.time h.stands.keeps.each in
    let asked = subst (λ (q : Query). IsBounded (rules_of view.policy.timeout) (class_of_sent q) l.servers (ends_of h.heard)) h.asks at_time in
    let from = ends_from l.servers h.heard h.stands.keeps.from_pool in
    let by_ip = bounded_images (rules_of view.policy.timeout) (by_address view.policy.timeout) (class_of_sent s.query) (class_of_answer s.query) (at_address h.ip_of) same_self same_is l.servers from h.beside asked in
    bounded_permuted (by_address view.policy.timeout) (class_of_answer s.query) h.ends (map (at_address h.ip_of) l.servers) h.ips (IsPermutation-sym h.ips (map (at_address h.ip_of) l.servers) h.whole) by_ip

-- by addresses, in the order of the list, no later than the moment
run-of : (view : LogView) (shared : Shared) (n : ℕ) (s : PendingLookup) (h : PendingHolds view shared n s) (answer : Answered) (at : ℕ) → at ≤ view.moment
    → PoolRun (rules_of h.shared_by.lookup.timeout) (class_of_sent (question_of h.shared_by.lookup)) h.shared_by.lookup.servers (ends_of h.heard) answer h.shared_by.lookup.start at
    → PoolRun (by_address view.policy.timeout) (class_of_answer s.query) h.ips h.ends answer s.start view.moment
run-of view shared n s h answer at early ran =
    let l = h.shared_by.lookup in
    let at_time = subst (λ (t : ℕ). PoolRun (rules_of t) (class_of_sent (question_of l)) l.servers (ends_of h.heard) answer l.start at) h.time ran in
    let asked = subst (λ (q : Query). PoolRun (rules_of view.policy.timeout) (class_of_sent q) l.servers (ends_of h.heard) answer l.start at) h.asks at_time in
    let run = subst (λ (t : ℕ). PoolRun (rules_of view.policy.timeout) (class_of_sent s.query) l.servers (ends_of h.heard) answer t at) h.starts asked in
    let plain = recursion_from_All IsTrustedBeyondUdp l.servers
    (All-weaker (λ c. IsAt shared.table (h.ip_of c.server) c) IsTrustedBeyondUdp (λ c at. record { beyond_udp = at.beyond_udp; trusted = at.trusted }) l.servers h.known) in
    let from = ends_from l.servers h.heard h.stands.keeps.from_pool in
    let by_ip = run_by_address view.policy.timeout h.ip_of l.servers (class_of_sent s.query) (class_of_answer s.query) plain from h.beside run in
    run_later at view.moment early (PoolRun-permuted (map (at_address h.ip_of) l.servers) h.ips (IsPermutation-sym h.ips (map (at_address h.ip_of) l.servers) h.whole) by_ip)

module _ (view : LogView) (shared : Shared) (n : ℕ) (s : PendingLookup) (h : PendingHolds view shared n s) (begun : ℕ) (since : begun ≤ s.start) where
  abbrev g : List ℕ
  g = entries_of h.heard

  abbrev denied : IpAddr → Bool
  denied = denies view.policy.answer_filter

  -- it came to this by its entries
  concluded : (answer : Answered) → 0 < length h.ends → PoolRun (by_address view.policy.timeout) (class_of_answer s.query) h.ips h.ends answer s.start view.moment
      → Concluded view begun s.zone s.query g answer
  concluded answer some run =
      let t = h.tried in
      let lengths = sends_length t.logged in
      let entries : 0 < length g = omega (arith, some, lengths.0) in
      let moments : 0 < length t.moments = omega (arith, some, lengths.1) in
      let past = h.past in
      record {
        ips = h.ips;
        ends = h.ends;
        moments = t.moments;
        start = s.start;
        now = view.moment;
        above = h.served.above;
        listed = h.served.pool.listed;
        rises = t.rises;
        logged = t.logged;
        run = run;
        bounded = bounded-of view shared n s h;
        since = t.since;
        till = t.till;
        asked = omega (arith, since, past);
        timed = record { some = entries; began = began-ended view.log s.query view.greatest s.first g h.ends s.start entries t.began; since = since; answered = omega arith };
        fresh = inl (last-since t.moments begun s.start since moments t.since);
      }

  -- it failed
  failed : (error : NetError) → IsTrue (is_lookup_error error) → Concluded view begun s.zone s.query g (Err error)
      → ClassHolds view begun s.zone s.query g s.at (class_of_failure error)
  failed (net.Dns (dns.NoRecordsFound found)) is c = cc
  failed _ is c = record { is = is; concluded = c }

  -- the last end told a response
  told : (earlier : List (End IpAddr)) (last : End IpAddr) (response : Class) (class : Result Message DnsError) → h.ends ≡ earlier ++ last ∷ [] → class_of_answer s.query last.outcome ≡ response
      → IsTrue (is_response response) → left_of_class denied s.query response ≡ Some class → IsTold view begun s.zone s.query (last_of g) s.at class
  told earlier last response class whole is counts left =
      let t = h.tried in
      let end = last-end view s.zone s.query earlier last t.logged t.heard whole in
      let entry : last_of g ≡ end.entry = ap (λ (o : Option ℕ). elim o [ Some entry ↦ entry | None ↦ 0 ]) end.at_entry in
      let at : end.moment ≡ s.at = t.last end.moment end.at_moment in
      let heard = end.heard (subst (λ (c : Class). IsTrue (is_response c)) (sym is) counts) in
      let early : end.entry ≤ view.greatest = leb-true end.entry view.greatest (last-holds (λ k. nat_le k view.greatest) g None end.entry tt t.early end.at_entry) in
      let late : s.start ≤ end.moment = leb-true s.start end.moment (last-holds (nat_le s.start) t.moments None end.moment tt t.since end.at_moment) in
      record {
        outcome = told_of last.outcome;
        response = response;
        early = omega (arith, early, entry);
        heard = subst (λ (k : ℕ). Heard view.policy view.log k s.query (told_of last.outcome) s.at s.zone) (sym entry)
            (subst (λ (m : ℕ). Heard view.policy view.log end.entry s.query (told_of last.outcome) m s.zone) at heard.0);
        asked = subst (λ (k : ℕ). AskedAs view.log k s.query) (sym entry) heard.1;
        late = omega (arith, since, late, at);
        is = class-told s.query last.outcome ∙ ap Some is;
        left = left;
      }

  -- where a lookup stands that was answered so
  abbrev Stands : Answered → Type 0
  Stands a = ClassHolds view begun s.zone s.query g s.at (classified (left_of s.query denied a))

  abbrev Run : Answered → Type 0
  Run a = PoolRun (by_address view.policy.timeout) (class_of_answer s.query) h.ips h.ends a s.start view.moment

  -- it was answered with an error that is no denial
  ended : (answer : Answered) (error : NetError) → answer ≡ Err error → IsTrue (is_lookup_error error) → 0 < length h.ends → Run answer → Stands answer
  ended answer error is fails some run = subst Stands (sym is) (failed error fails (concluded (Err error) some (subst Run is run)))

  -- an answer, where the filter leaves something of it or nothing
  positive : (earlier : List (End IpAddr)) (last : End IpAddr) (m : Message) → h.ends ≡ earlier ++ last ∷ [] → class_of_answer s.query last.outcome ≡ Positive m
      → (all : Bool) → is_all_denied denied m ≡ all
      → ClassHolds view begun s.zone s.query g s.at (classified (if all then Err (nothing_left s.query) else Ok (without_denied denied m)))
  positive earlier last m whole is true left =
      told earlier last (Positive m) (Err (dns.NoRecordsFound (nothing_left_for s.query))) whole is refl
      (ap (λ (b : Bool). Some (if b then Err (dns.NoRecordsFound (nothing_left_for s.query)) else Ok (without_denied denied m))) left)
  positive earlier last m whole is false left =
      told earlier last (Positive m) (Ok (without_denied denied m)) whole is refl
      (ap (λ (b : Bool). Some (if b then Err (dns.NoRecordsFound (nothing_left_for s.query)) else Ok (without_denied denied m))) left)

  decided-by : (answer : Answered) (d : IsDecided (by_address view.policy.timeout) (class_of_answer s.query) h.ends answer) (c : Class) → class_of_answer s.query d.last.outcome ≡ c
      → is_retryable true c ≡ false → Stands answer
  decided-by answer d (Positive m) is final =
      let whole = answer_whole (told_of d.last.outcome) s.query m (class-told s.query d.last.outcome ∙ ap Some is) in
      let left = positive d.earlier d.last m d.whole is (is_all_denied denied m) refl in
      subst Stands (sym (d.answers ∙ ap answer_of is))
      (subst (λ (o : Option Record). ClassHolds view begun s.zone s.query g s.at (classified (elim o [
        | Some r ↦ Err (foreign_class r)
        | None ↦ if is_all_denied denied m then Err (nothing_left s.query) else Ok (without_denied denied m)
      ]))) (sym whole.1) left)
  decided-by answer d (Negative n) is final =
      subst Stands (sym (d.answers ∙ ap answer_of is)) (told d.earlier d.last (Negative n) (Err (dns.NoRecordsFound n)) d.whole is refl refl)
  decided-by answer d (Error e) is final =
      ended answer e (d.answers ∙ ap answer_of is) (final-error s.query d.last.outcome e is final) (some-last h.ends d.earlier d.last d.whole) (decided d)
  decided-by answer d (Code c) is final =
      ended answer (net.Dns (dns.ResponseCode c)) (d.answers ∙ ap answer_of is) refl (some-last h.ends d.earlier d.last d.whole) (decided d)
  decided-by answer d Truncated is final = ended answer net.Truncated (d.answers ∙ ap answer_of is) refl (some-last h.ends d.earlier d.last d.whole) (decided d)
  decided-by answer d (Foreign r) is final =
      ended answer (net.ForeignClassRecord r.name r.dns_class r.record_type) (d.answers ∙ ap answer_of is) refl (some-last h.ends d.earlier d.last d.whole) (decided d)

  -- What a lookup came to that was answered.
  pub answered : (answer : Answered) → Run answer → Stands answer
  answered answer (decided d) =
      let c = class_of_answer s.query d.last.outcome in
      decided-by answer d c refl (not_false (is_retryable true c) (and_parts (not (is_retryable true c)) _ d.final).0)
  answered answer (spent e) =
      ended answer (what_is_left (by_address view.policy.timeout) (class_of_answer s.query) h.ends) e.answers (lookup-error (what_is_left (by_address view.policy.timeout) (class_of_answer s.query) h.ends) (left_error view.policy.timeout s.query h.ends e.none))
      (spent_some view.policy.timeout s.query h.ips h.ends h.served.pool.some e.tried) (spent e)
  answered answer (late l) = ended answer net.Timeout l.answers refl (late-some view.policy.timeout h.lasts h.ends l.some) (late l)

-- ---- as it is read

-- A step no later than the moment answered it so, by its ends.
pub record WasAnswered (denied : IpAddr → Bool) (heard : List HeardEnd) (moment : ℕ) (told : Answered) (l : LookupState) : Type 0 where
  pub at : ℕ
  pub early : at ≤ moment
  pub run : IsRun denied heard told at l

was-answered : (denied : IpAddr → Bool) (heard : List HeardEnd) (moment : ℕ) (told : Answered) (l : LookupState) → answer_in l.state ≡ Some told → out_of_memory told ≡ false → IsAt_state denied heard l.state l
    → ((answer : Answered) (at : ℕ) → l.state ≡ Decided answer at → at ≤ moment) → WasAnswered denied heard moment told l
was-answered denied heard moment told l is kept at decided_at = by l.state refl is at
  where
    run-so : (answer : Answered) (at : ℕ) → l.state ≡ Decided answer at → answer ≡ told → IsRun denied heard answer at l ⊎ IsTrue (out_of_memory answer) → WasAnswered denied heard moment told l
    run-so answer at was same (inl run) = record { at = at; early = decided_at answer at was; run = subst (λ (a : Answered). IsRun denied heard a at l) same run }
    run-so answer at was same (inr out) = let wrong : true ≡ false = sym out ∙ ap out_of_memory same ∙ kept in cc

    by : (s : State) → l.state ≡ s → answer_in s ≡ Some told → IsAt_state denied heard s l → WasAnswered denied heard moment told l
    by (Decided answer at) was e k = run-so answer at was (same_Some _ _ e) k
    by _ was e k = cc

-- What a lookup was answered, as it is read, since any moment no later than its start.
pub class-holds : (view : LogView) (shared : Shared) (n : ℕ) (s : PendingLookup) (h : PendingHolds view shared n s) (begun : ℕ) (told : Answered) → begun ≤ s.start → answer_at shared n ≡ Some told
    → out_of_memory told ≡ false → ClassHolds view begun s.zone s.query (closed_by (lookup_at shared n)) s.at (classified told)
class-holds view shared n s h begun told since answers kept =
    let l = h.shared_by.lookup in
    let is : answer_in l.state ≡ Some told = sym (ap (option_and_then (λ (l : OpenLookup). answer_of_state l.lookup)) h.there) ∙ answers in
    let a = was-answered (denies view.policy.answer_filter) h.heard view.moment told l is kept h.stands.at h.decided in
    let came = answered view shared n s h begun since a.run.whole (run-of view shared n s h a.run.whole a.at a.early a.run.run) in
    let read : left_of s.query (denies view.policy.answer_filter) a.run.whole ≡ told = ap (λ (p : Query). left_of p (denies view.policy.answer_filter) a.run.whole) (sym h.asks) ∙ sym a.run.left in
    let by : entries_of h.heard ≡ closed_by (lookup_at shared n) = sym (ap closed_by h.there ∙ h.stands.keeps.entries) in
    subst (λ (g : List ℕ). ClassHolds view begun s.zone s.query g s.at (classified told)) by
    (subst (λ (t : Answered). ClassHolds view begun s.zone s.query (entries_of h.heard) s.at (classified t)) read came)

-- what it comes to holds as its answer does
found-holds : (view : LogView) (t0 : ℕ) (zone : DomainName) (q : Query) (g : List ℕ) (at : ℕ) (class : Result (Result Message DnsError) NetError) (came : LookupResult)
    → ComesTo zone q (last_of g) class came → ClassHolds view t0 zone q g at class → FoundHolds view t0 zone q g came
found-holds view t0 zone q g at (Ok class) (found.Told entry verdict) comes h = record { at = at; class = class; told = rw comes.0 h; counts = comes.1 }
found-holds view t0 zone q g at (Err error) (found.Error failed) comes h = rw comes h
found-holds view t0 zone q g at _ _ comes h = absurd comes

-- What a lookup came to that is sought so.
pub came-holds : (view : LogView) (shared : Shared) (n : ℕ) (s : PendingLookup) (h : PendingHolds view shared n s) (begun : ℕ) (came : LookupResult) → begun ≤ s.start
    → HasCome s.zone s.query (lookup_at shared n) came → FoundHolds view begun s.zone s.query (closed_by (lookup_at shared n)) came
came-holds view shared n s h begun came since has =
    found-holds view begun s.zone s.query (closed_by (lookup_at shared n)) s.at (classified has.told) came has.comes (class-holds view shared n s h begun has.told since has.answered has.enough)
