-- What an end makes of a plan, and how the plan stands then.
use Rattle.std.proofs.Common.{◌≡◌, ◌∙◌, ℕ, suc, ◌+◌, ◌<◌, ◌≤◌, ◌⊎◌, inl, inr, arith, length, length-append, nat_lt, Bool, true, false, ◌&&◌, ◌||◌, ◌==◌, not, List, [], ◌∷◌, ◌++◌, find, refl, ap, sym, subst, Option, Some, None, Err, cond, if◌then◌else◌, IfSome, IfNone, eq-eqb}
use Rattle.std.proofs.lemmas.Bool.{eqb-true, ltb-false}
use Rattle.std.specs.List.{list_any, after_first}
use Rattle.std.specs.Bool.{beq}
use Rattle.dns_core.specs.declared.message.Query.{Query}
use Rattle.dns_core.specs.declared.net_error.NetError.{NetError}
use Rattle.dns_core.specs.declared.net_error.NetError.TheVariants as net
use Rattle.dns_core.specs.declared.net_error.DnsError.TheVariants as dns
use Rattle.resolution.specs.Class.{class_of_error}
use Rattle.resolution.specs.Lookups.{Answered, End, PoolRun, has_fallen_back, is_tcp_fallback, is_retryable, is_busy, answer_of}
use Rattle.resolution.specs.declared.class.Class.{Class}
use Rattle.pool_rules.specs.KeptError.{kept_after}
use Rattle.pool_rules.specs.declared.pool_server.PoolServer.{PoolServer}
use Rattle.pool_rules.specs.declared.pool_server.OnError.{OnError}
use Rattle.pool_rules.specs.declared.pool_server.OnError.TheVariants.{FallBackToTcp, NextServer, Final}
use Rattle.pool_rules.specs.RetryQueue.{QueueState, QueueStands, Stands, HasRoom, among, places, end_at, may_sleep, same_candidate, rules_of, may_ask, class_of_sent, ending_of, hearing_of, after_end, StandsAfter}
use Rattle.pool_rules.specs.declared.pool_server.Heard.{Heard}
use Rattle.pool_rules.specs.declared.pool_server.Heard.TheVariants.{Continue, Concluded}
use Rattle.pool_rules.proofs.FirstThatPasses.{after_no, any_more}
use Rattle.pool_rules.proofs.QueueStandsOn.{or_left, or_right, count_more, stands_turned, stands_passed}
use Rattle.pool_rules.proofs.LookupEnds.{stands_woken, pool_spent, pool_decided}
use Rattle.pool_rules.proofs.StillToBeDone.{stands_taken, stands_empty}

-- ---- what an error that turns UDP off leaves

neither : (b : Bool) → FallBackToTcp ≡ (if b then NextServer else Final) → ⊥
neither true h = cc
neither false h = cc

turn_keeps : (udp_off trusted : Bool) (e : NetError) (k : NetError) → FallBackToTcp ≡ ending_of udp_off trusted (class_of_error e) → kept_after k (class_of_error e) ≡ k
turn_keeps udp_off trusted net.QueryCaseMismatch k h = refl
turn_keeps udp_off trusted net.Busy k h = cc
turn_keeps udp_off trusted (net.Io kind) k h = cc
turn_keeps udp_off trusted net.Timeout k h = cc
turn_keeps udp_off trusted net.NoConnections k h = cc
turn_keeps udp_off trusted net.Truncated k h = cc
turn_keeps udp_off trusted (net.ForeignClassRecord n c t) k h = cc
turn_keeps udp_off trusted (net.Dns (dns.NoRecordsFound n)) k h = absurd (neither (n.response_code.code == 3 && not trusted) h)
turn_keeps udp_off trusted (net.Dns (dns.ResponseCode c)) k h = cc
turn_keeps udp_off trusted (net.Msg t) k h = cc
turn_keeps udp_off trusted net.NoMemory k h = cc

abbrev after_by : OnError → PoolServer → Class → QueueState → QueueState
after_by d s c p = elim d [
  | FallBackToTcp ↦ record p { waiting = s ∷ p.waiting; udp_off = true; kept = kept_after p.kept c }
  | NextServer ↦ record p { busy = if is_busy c then p.busy ++ s ∷ [] else p.busy; kept = kept_after p.kept c }
  | Final ↦ p
]

-- a mismatch turned UDP off
pub turned_by : (s : PoolServer) (e : NetError) (p n : QueueState) → FallBackToTcp ≡ ending_of p.udp_off s.trusted (class_of_error e) → n ≡ record p { waiting = s ∷ p.waiting; udp_off = true } → n ≡ after_end s (class_of_error e) p
turned_by s e p n h g =
    g ∙ ap (λ (k : NetError). record p { waiting = s ∷ p.waiting; udp_off = true; kept = k }) (sym (turn_keeps p.udp_off s.trusted e p.kept h))
    ∙ ap (λ (d : OnError). after_by d s (class_of_error e) p) h

-- ---- candidates are compared whole

beq_self : (b : Bool) → beq b b ≡ true
beq_self true = refl
beq_self false = refl

all_three : (a b c : Bool) → a ≡ true → b ≡ true → c ≡ true → (a && (b && c)) ≡ true
all_three true true c h j k = k
all_three true false c h j k = cc
all_three false b c h j k = cc

each_of_three : (a b c : Bool) → (a && (b && c)) ≡ true → (a ≡ true) × (b ≡ true) × (c ≡ true)
each_of_three true true c h = (refl, refl, h)
each_of_three true false c h = cc
each_of_three false b c h = cc

same_bool : (a b : Bool) → beq a b ≡ true → a ≡ b
same_bool true true h = refl
same_bool true false h = cc
same_bool false true h = cc
same_bool false false h = refl

pub same_self : (s : PoolServer) → same_candidate s s ≡ true
same_self s = all_three (s.server == s.server) (beq s.beyond_udp s.beyond_udp) (beq s.trusted s.trusted) (eq-eqb s.server s.server refl) (beq_self s.beyond_udp) (beq_self s.trusted)

pub same_is : (a b : PoolServer) → same_candidate a b ≡ true → a ≡ b
same_is a b h =
    let t = each_of_three (a.server == b.server) (beq a.beyond_udp b.beyond_udp) (beq a.trusted b.trusted) h in
    ap (λ (n : ℕ). record a { server = n }) (eqb-true a.server b.server t.0)
    ∙ ap (λ (x : Bool). record b { beyond_udp = x; trusted = a.trusted }) (same_bool a.beyond_udp b.beyond_udp t.1)
    ∙ ap (λ (x : Bool). record b { trusted = x }) (same_bool a.trusted b.trusted t.2)

-- ---- a server is taken

none_after : {X : Type 0} (p : X → Bool) (xs : List X) → find p xs ≡ None → after_first p xs ≡ []
none_after p [] h = refl
none_after p (x ∷ xs) h = at_head (p x) refl h (none_after p xs)
  where
    at_head : (b : Bool) → p x ≡ b → cond b (Some x) (find p xs) ≡ None → (find p xs ≡ None → after_first p xs ≡ []) → after_first p (x ∷ xs) ≡ []
    at_head true e k next = cc
    at_head false e k next = after_no p x xs e ∙ next k

pub taken_some : (q : Query) (timeout : ℕ) (pool : List PoolServer) (ends : List (End PoolServer)) (under : List PoolServer) (p n : QueueState) (o : Option PoolServer)
    → o ≡ find (may_ask p.udp_off) p.waiting → n ≡ record p { waiting = after_first (may_ask p.udp_off) p.waiting } → QueueStands q timeout pool ends under p → IfSome o (λ c. QueueStands q timeout pool ends (c ∷ under) n)
taken_some q timeout pool ends under p n None f g st = tt
taken_some q timeout pool ends under p n (Some c) f g st =
    subst (λ (x : QueueState). QueueStands q timeout pool ends (c ∷ under) x) (sym g)
    (stands_taken (rules_of timeout) (class_of_sent q) same_is pool ends under p.busy p.udp_off p.kept p.sleeps p.waiting c (sym f) st)

none_waits : (p n : QueueState) → None ≡ find (may_ask p.udp_off) p.waiting → n ≡ record p { waiting = after_first (may_ask p.udp_off) p.waiting } → n ≡ record p { waiting = [] }
none_waits p n f g = g ∙ ap (λ (w : List PoolServer). record p { waiting = w }) (none_after (may_ask p.udp_off) p.waiting (sym f))

pub taken_none : (q : Query) (timeout : ℕ) (pool : List PoolServer) (ends : List (End PoolServer)) (under : List PoolServer) (p n : QueueState) (o : Option PoolServer)
    → o ≡ find (may_ask p.udp_off) p.waiting → n ≡ record p { waiting = after_first (may_ask p.udp_off) p.waiting } → QueueStands q timeout pool ends under p → IfNone o (QueueStands q timeout pool ends under n)
taken_none q timeout pool ends under p n (Some c) f g st = tt
taken_none q timeout pool ends under p n None f g st =
    subst (λ (x : QueueState). QueueStands q timeout pool ends under x) (sym (none_waits p n f g))
    (stands_empty (rules_of timeout) (class_of_sent q) same_is pool ends under p.busy p.udp_off p.kept p.sleeps p.waiting (sym f) st)

pub taken_empty : (p n : QueueState) (o : Option PoolServer) → o ≡ find (may_ask p.udp_off) p.waiting → n ≡ record p { waiting = after_first (may_ask p.udp_off) p.waiting } → IfNone o (n.waiting ≡ [])
taken_empty p n (Some c) f g = tt
taken_empty p n None f g = ap (λ (x : QueueState). x.waiting) (none_waits p n f g)

-- ---- an end is heard

abbrev hearing_by : OnError → Answered → Heard
hearing_by d a = elim d [ FallBackToTcp ↦ Continue | NextServer ↦ Continue | Final ↦ Concluded a ]

-- what two tests of a class and the policy come to
abbrev ending : Bool → Bool → Bool → OnError
ending t r udp_off = if t && not udp_off then FallBackToTcp else (if r then NextServer else Final)

it_ends : (t r udp_off : Bool) (x y : Answered) → Concluded x ≡ hearing_by (ending t r udp_off) y → (r ≡ false) × (t ≡ true → udp_off ≡ true) × (x ≡ y)
it_ends true r false x y h = cc
it_ends true true true x y h = cc
it_ends true false true x y h = (refl, (λ g. refl), cc)
it_ends false true udp_off x y h = cc
it_ends false false udp_off x y h = (refl, (λ g. cc), cc)

it_goes_on : (t r udp_off : Bool) (y : Answered) → Continue ≡ hearing_by (ending t r udp_off) y → ((t ≡ true) × (udp_off ≡ false)) ⊎ ((r ≡ true) × ((t && not udp_off) ≡ false))
it_goes_on true r false y h = inl (refl, refl)
it_goes_on true true true y h = inr (refl, refl)
it_goes_on true false true y h = cc
it_goes_on false true udp_off y h = inr (refl, refl)
it_goes_on false false udp_off y h = cc

turns_by : (t r udp_off : Bool) → t ≡ true → udp_off ≡ false → ending t r udp_off ≡ FallBackToTcp
turns_by true r false h g = refl
turns_by true r true h g = cc
turns_by false r udp_off h g = cc

passes_by : (t r udp_off : Bool) → (t && not udp_off) ≡ false → r ≡ true → ending t r udp_off ≡ NextServer
passes_by t true udp_off h g = ap (λ (b : Bool). if b then FallBackToTcp else NextServer) h
passes_by t false udp_off h g = cc

-- the servers that are kept for later, with one more where it is busy
module _ (s : PoolServer) (timeout : ℕ) (busy : List PoolServer) where
  abbrev more : Bool → List PoolServer
  more b = if b then busy ++ s ∷ [] else busy

  all_stay : (b : Bool) (x : PoolServer) → among (rules_of timeout) x busy ≡ true → among (rules_of timeout) x (more b) ≡ true
  all_stay true x h = any_more (same_candidate x) busy s ∙ or_left _ (same_candidate x s) h
  all_stay false x h = h

  is_added : (b : Bool) → b ≡ true → among (rules_of timeout) s (more b) ≡ true
  is_added true h = any_more (same_candidate s) busy s ∙ or_right (list_any (same_candidate s) busy) _ (same_self s)
  is_added false h = cc

  is_no_other : (b : Bool) (x : PoolServer) → among (rules_of timeout) x (more b) ≡ true → (among (rules_of timeout) x busy || same_candidate x s) ≡ true
  is_no_other true x h = sym (any_more (same_candidate x) busy s) ∙ h
  is_no_other false x h = or_left _ (same_candidate x s) h

  one_place : (b : Bool) (x : PoolServer) → places (rules_of timeout) x (more b) ≤ places (rules_of timeout) x busy + cond (same_candidate x s) 1 0
  one_place true x = omega (arith, count_more (same_candidate x) busy s)
  one_place false x = omega arith

  one_more : (b : Bool) → length (more b) ≤ length busy + 1
  one_more true = omega (arith, length-append busy (s ∷ []))
  one_more false = omega arith

module _ (q : Query) (timeout : ℕ) (pool : List PoolServer) (ends : List (End PoolServer)) (under : List PoolServer) (s : PoolServer) (o : Answered) (p : QueueState) (st : QueueStands q timeout pool ends (s ∷ under) p) where
  abbrev class : Class
  class = class_of_sent q o

  answered : (start now : ℕ) (a : Answered) → Concluded a ≡ hearing_of s class p → PoolRun (rules_of timeout) (class_of_sent q) pool (ends ++ end_at s o ∷ []) a start now
  answered start now a h =
      let d = it_ends (is_tcp_fallback class) (is_retryable s.trusted class) p.udp_off a (answer_of class) h in
      subst (λ (x : Answered). PoolRun (rules_of timeout) (class_of_sent q) pool (ends ++ end_at s o ∷ []) x start now) (sym d.2)
      (pool_decided (rules_of timeout) (class_of_sent q) same_self pool ends under p.waiting p.busy p.udp_off p.kept p.sleeps start now (end_at s o) d.0 d.1 st)

  after_turn : (n : QueueState) → n ≡ after_end s class p → is_tcp_fallback class ≡ true → p.udp_off ≡ false → QueueStands q timeout pool (ends ++ end_at s o ∷ []) under n
  after_turn n g t f =
      let is : n ≡ after_by FallBackToTcp s class p = g ∙ ap (λ (d : OnError). after_by d s class p) (turns_by (is_tcp_fallback class) (is_retryable s.trusted class) p.udp_off t f) in
      let before : has_fallen_back (rules_of timeout) (class_of_sent q) ends ≡ false = sym st.udp ∙ f in
      let stands = subst (λ (b : Bool). Stands (rules_of timeout) (class_of_sent q) pool ends (s ∷ under) p.waiting p.busy b p.kept p.sleeps) f st in
      subst (λ (x : QueueState). QueueStands q timeout pool (ends ++ end_at s o ∷ []) under x) (sym is)
      (stands_turned (rules_of timeout) (class_of_sent q) same_self same_is pool ends (end_at s o) before t under p.waiting p.busy p.kept p.sleeps stands)

  after_pass : (n : QueueState) → n ≡ after_end s class p → is_retryable s.trusted class ≡ true → (is_tcp_fallback class && not p.udp_off) ≡ false → QueueStands q timeout pool (ends ++ end_at s o ∷ []) under n
  after_pass n g r f =
      let is : n ≡ after_by NextServer s class p = g ∙ ap (λ (d : OnError). after_by d s class p) (passes_by (is_tcp_fallback class) (is_retryable s.trusted class) p.udp_off f r) in
      let b = is_busy class in
      subst (λ (x : QueueState). QueueStands q timeout pool (ends ++ end_at s o ∷ []) under x) (sym is)
      (stands_passed (rules_of timeout) (class_of_sent q) same_self same_is pool ends (end_at s o) r under p.waiting p.busy (more s timeout p.busy b)
      (all_stay s timeout p.busy b) (is_added s timeout p.busy b) (is_no_other s timeout p.busy b) (one_place s timeout p.busy b) (one_more s timeout p.busy b)
      p.udp_off p.kept p.sleeps st)

  either : (n : QueueState) → n ≡ after_end s class p → ((is_tcp_fallback class ≡ true) × (p.udp_off ≡ false)) ⊎ ((is_retryable s.trusted class ≡ true) × ((is_tcp_fallback class && not p.udp_off) ≡ false))
      → QueueStands q timeout pool (ends ++ end_at s o ∷ []) under n
  either n g (inl h) = after_turn n g h.0 h.1
  either n g (inr h) = after_pass n g h.0 h.1

  pub stands_heard : (start now : ℕ) (n : QueueState) (h : Heard) → h ≡ hearing_of s class p → n ≡ after_end s class p → StandsAfter q timeout start now pool ends under s o n h
  stands_heard start now n Continue h g = either n g (it_goes_on (is_tcp_fallback class) (is_retryable s.trusted class) p.udp_off (answer_of class) h)
  stands_heard start now n (Concluded a) h g = answered start now a h

-- while a send is under way, there is room to hear its end
pub room_to_hear : (q : Query) (timeout : ℕ) (pool : List PoolServer) (ends : List (End PoolServer)) (c : PoolServer) (under : List PoolServer) (p : QueueState)
    → QueueStands q timeout pool ends (c ∷ under) p → p.most ≡ length pool → HasRoom p
room_to_hear q timeout pool ends c under p st most = omega (arith, st.size, most)

-- ---- a sleep is over, and all is spent

pub woken : (q : Query) (timeout : ℕ) (pool : List PoolServer) (ends : List (End PoolServer)) (p n : QueueState) → p.sleeps < 4 → p.waiting ≡ []
    → n ≡ record p { waiting = p.busy; busy = []; sleeps = p.sleeps + 1 } → QueueStands q timeout pool ends [] p → QueueStands q timeout pool ends [] n
woken q timeout pool ends p n few empty g st =
    let stands = subst (λ (w : List PoolServer). Stands (rules_of timeout) (class_of_sent q) pool ends [] w p.busy p.udp_off p.kept p.sleeps) empty st in
    let once : p.sleeps + 1 ≤ 4 = omega arith in
    subst (λ (x : QueueState). QueueStands q timeout pool ends [] x) (sym g)
    (stands_woken (rules_of timeout) (class_of_sent q) same_self pool ends p.busy p.udp_off p.kept p.sleeps once stands)

none_is_left : (busy : List PoolServer) (k : ℕ) → (not (length busy == 0) && nat_lt k 4) ≡ false → (4 ≤ k) ⊎ (busy ≡ [])
none_is_left [] k h = inr refl
none_is_left (x ∷ xs) k h = at_length (suc (length xs) == 0) refl h
  where
    at_length : (b : Bool) → (suc (length xs) == 0) ≡ b → (not b && nat_lt k 4) ≡ false → (4 ≤ k) ⊎ (x ∷ xs ≡ [])
    at_length true e g = let z : suc (length xs) ≡ 0 = eqb-true (suc (length xs)) 0 e in absurd (omega arith)
    at_length false e g = inl (ltb-false k 4 g)

pub all_spent : (q : Query) (timeout start now : ℕ) (pool : List PoolServer) (ends : List (End PoolServer)) (p : QueueState) (r : NetError) → p.waiting ≡ [] → may_sleep p ≡ false → r ≡ p.kept
    → QueueStands q timeout pool ends [] p → PoolRun (rules_of timeout) (class_of_sent q) pool ends (Err r) start now
all_spent q timeout start now pool ends p r empty awake g st =
    let stands = subst (λ (w : List PoolServer). Stands (rules_of timeout) (class_of_sent q) pool ends [] w p.busy p.udp_off p.kept p.sleeps) empty st in
    subst (λ (e : NetError). PoolRun (rules_of timeout) (class_of_sent q) pool ends (Err e) start now) (sym g)
    (pool_spent (rules_of timeout) (class_of_sent q) same_self pool ends p.busy p.udp_off p.kept p.sleeps start now (none_is_left p.busy p.sleeps awake) stands)
