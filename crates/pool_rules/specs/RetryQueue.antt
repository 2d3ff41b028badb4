-- What a lookup has still to ask, and how that stands to the ends of the sends that it made.
use Rattle.std.specs.Prelude.{◌≡◌, ℕ, ◌+◌, ◌*◌, ◌≤◌, ◌<◌, Bool, true, false, not, ◌&&◌, ◌||◌, ◌==◌, List, map, filter, count_by, length, nat_lt, ◌^◌, ◌∷◌, ◌++◌, [], if◌then◌else◌, Some, None, Ok, Err}
use Rattle.std.specs.Bool.{beq}
use Rattle.std.specs.List.{list_any, last_or, after_first}
use Rattle.dns_core.specs.declared.message.Query.{Query}
use Rattle.dns_core.specs.declared.net_error.NetError.{NetError}
use Rattle.resolution.specs.Class.{class_of_classified, class_of_error}
use Rattle.resolution.specs.Lookups.{Answered, Rules, End, is_tcp_fallback, is_retryable, is_busy, answer_of, class_of_end, falls_back, has_fallen_back, but_fallback, none_is_final, is_at, is_fallback_at, PoolRun}
use Rattle.resolution.specs.declared.class.Class.{Class}
use Rattle.pool_rules.specs.KeptError.{kept_after, kept_over}
use Rattle.pool_rules.specs.declared.pool_server.PoolServer.{PoolServer}
use Rattle.pool_rules.specs.declared.pool_server.OnError.{OnError}
use Rattle.pool_rules.specs.declared.pool_server.OnError.TheVariants.{FallBackToTcp, NextServer, Final}
use Rattle.pool_rules.specs.declared.pool_server.Heard.{Heard}
use Rattle.pool_rules.specs.declared.pool_server.Heard.TheVariants.{Continue, Concluded}

-- those to be asked, in their order, and those that were busy; UDP is off; the error that is kept; how often the lookup slept; the places of its pool
pub record QueueState : Type 0 where
  pub waiting : List PoolServer
  pub busy : List PoolServer
  pub udp_off : Bool
  pub kept : NetError
  pub sleeps : ℕ
  pub most : ℕ

abbrev pub same_candidate : PoolServer → PoolServer → Bool
same_candidate a b = a.server == b.server && (beq a.beyond_udp b.beyond_udp && beq a.trusted b.trusted)

-- what a lookup with this timeout knows of its servers
abbrev pub rules_of : ℕ → Rules PoolServer
rules_of timeout = record { same = same_candidate; trusts = λ s. s.trusted; beyond_udp = λ s. s.beyond_udp; timeout = timeout }

-- with UDP each may be asked, without it those that are reached over another protocol
abbrev pub may_ask : Bool → PoolServer → Bool
may_ask udp_off s = not (udp_off && not s.beyond_udp)

-- what a send ended with, whose response was classified
abbrev pub class_of_sent : Query → Answered → Class
class_of_sent query (Ok m) = class_of_classified query (Ok m)
class_of_sent query (Err e) = class_of_error e

-- the first turn turns UDP off, what is retryable passes the question on, and everything else ends the lookup
abbrev pub ending_of : Bool → Bool → Class → OnError
ending_of udp_off trusted c = if is_tcp_fallback c && not udp_off then FallBackToTcp else (if is_retryable trusted c then NextServer else Final)

-- what comes of an end: the lookup goes on, or answers this
abbrev pub hearing_of : PoolServer → Class → QueueState → Heard
hearing_of s c p = elim (ending_of p.udp_off s.trusted c) [ FallBackToTcp ↦ Continue | NextServer ↦ Continue | Final ↦ Concluded (answer_of c) ]

-- what is to be done after an end: a server that turned UDP off comes first, one that is busy comes later
abbrev pub after_end : PoolServer → Class → QueueState → QueueState
after_end s c p = elim (ending_of p.udp_off s.trusted c) [
  | FallBackToTcp ↦ record p { waiting = s ∷ p.waiting; udp_off = true; kept = kept_after p.kept c }
  | NextServer ↦ record p { busy = if is_busy c then p.busy ++ s ∷ [] else p.busy; kept = kept_after p.kept c }
  | Final ↦ p
]

-- there is a place for one more that waits, or that was busy
abbrev pub HasRoom : QueueState → Type 0
HasRoom p = length p.waiting + length p.busy < p.most

-- the sleeps get longer: 20 milliseconds, 40, 80, 160
abbrev pub sleep_time : ℕ → ℕ
sleep_time sleeps = 20000 * 2 ^ sleeps

-- those that were busy are asked again after a sleep, four times at most
abbrev pub may_sleep : QueueState → Bool
may_sleep p = not (length p.busy == 0) && nat_lt p.sleeps 4

-- ---- how a plan stands to the ends of the sends that were made

-- one of the servers
abbrev pub among : {S : Type 0} → Rules S → S → List S → Bool
among rules s xs = list_any (rules.same s) xs

-- how many places of a list are the server's
abbrev pub places : {S : Type 0} → Rules S → S → List S → ℕ
places rules s xs = count_by (rules.same s) xs

module _ {S : Type 0} (rules : Rules S) (class : Answered → Class) where
  -- the ends of the server but the turn
  abbrev pub own : S → List (End S) → List (End S)
  own s ends = filter (is_at rules class s) (but_fallback rules class ends)

  -- the last of them was that it is busy
  abbrev pub was_busy : S → List (End S) → Bool
  was_busy s ends = elim (last_or None (own s ends)) [ None ↦ false | Some e ↦ is_busy (class_of_end rules class e) ]

  -- UDP is off, and it is reached over nothing else
  abbrev pub is_refused : S → List (End S) → Bool
  is_refused s ends = has_fallen_back rules class ends && not (rules.beyond_udp s)

  -- A server is not asked any more, is still to be asked, is asked, or was asked, and is kept where it was busy then.
  pub data IsDealt (ends : List (End S)) (under waiting busy : List S) (s : S) : Type 0 where
    refused : is_refused s ends ≡ true → IsDealt ends under waiting busy s
    waits : among rules s waiting ≡ true → IsDealt ends under waiting busy s
    goes_on : among rules s under ≡ true → IsDealt ends under waiting busy s
    asked : list_any (is_at rules class s) (but_fallback rules class ends) ≡ true → (was_busy s ends ≡ true → among rules s busy ≡ true) → IsDealt ends under waiting busy s

  -- The server of the turn is not asked any more, is still to be asked again, is asked again, or was.
  pub data IsRepeated (ends : List (End S)) (under waiting : List S) (s : S) : Type 0 where
    refused : is_refused s ends ≡ true → IsRepeated ends under waiting s
    waits : among rules s waiting ≡ true → IsRepeated ends under waiting s
    goes_on : among rules s under ≡ true → IsRepeated ends under waiting s
    again : list_any (is_at rules class s) (after_first (falls_back rules class) (ends)) ≡ true → IsRepeated ends under waiting s

  -- After these ends, with sends to some servers under way, no end decided the lookup, and what is still to be done is this.
  pub record Stands (pool : List S) (ends : List (End S)) (under waiting busy : List S) (udp_off : Bool) (kept : NetError) (sleeps : ℕ) : Type 0 where
    pub none : none_is_final rules class ends ≡ true
    pub udp : udp_off ≡ has_fallen_back rules class ends
    pub error : kept ≡ kept_over (map (class_of_end rules class) ends)
    pub dealt : (s : S) → among rules s pool ≡ true → IsDealt ends under waiting busy s
    pub repeated : (s : S) → is_fallback_at rules class ends s ≡ true → IsRepeated ends under waiting s
    -- after so many sleeps it was asked as often, and once more where it was busy again
    pub rounds : (s : S) → (among rules s waiting || among rules s under) ≡ true → sleeps ≤ length (own s ends)
    pub delayed : (s : S) → among rules s busy ≡ true → sleeps + 1 ≤ length (own s ends)
    pub few : sleeps ≤ 4
    -- no server takes more places than it has in the pool
    pub room : (s : S) → places rules s waiting + places rules s under + places rules s busy ≤ places rules s pool
    pub share : (s : S) → count_by (is_at rules class s) ends + places rules s waiting + places rules s under
        ≤ (sleeps + 1) * places rules s pool + (if is_fallback_at rules class ends s then 1 else 0)
    -- the same of all servers together
    pub size : length waiting + length under + length busy ≤ length pool
    pub total : length ends + length waiting + length under ≤ (sleeps + 1) * length pool + (if has_fallen_back rules class ends then 1 else 0)

-- a send to the server ended so
abbrev pub end_at : PoolServer → Answered → End PoolServer
end_at s o = record { server = s; outcome = o }

-- how the plan of a lookup of a question stands
abbrev pub QueueStands : Query → ℕ → List PoolServer → List (End PoolServer) → List PoolServer → QueueState → Type 0
QueueStands query timeout pool ends under p = Stands (rules_of timeout) (class_of_sent query) pool ends under p.waiting p.busy p.udp_off p.kept p.sleeps

-- how it stands after an end of a send to a server was heard, or what the lookup answers then
abbrev pub StandsAfter : Query → ℕ → ℕ → ℕ → List PoolServer → List (End PoolServer) → List PoolServer → PoolServer → Answered → QueueState → Heard → Type 0
StandsAfter query timeout start now pool ends under s o p Continue = QueueStands query timeout pool (ends ++ end_at s o ∷ []) under p
StandsAfter query timeout start now pool ends under s o p (Concluded a) = PoolRun (rules_of timeout) (class_of_sent query) pool (ends ++ end_at s o ∷ []) a start now
