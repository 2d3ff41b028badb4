-- One finished lookup at a pool of servers: how its sends ended, and what it answered.
use Rattle.std.specs.Prelude.{◌≡◌, ℕ, ◌+◌, ◌*◌, ◌≤◌, Bool, true, false, not, ◌&&◌, ◌||◌, ◌==◌, IsTrue, List, [], ◌∷◌, ◌++◌, map, find, filter, count_by, length, nat_le, if◌then◌else◌, Option, Some, None, Result, Ok, Err}
use Rattle.std.specs.List.{list_any, list_all, filter_map, before_first, after_first, last_or}
use Rattle.dns_core.specs.declared.message.Query.{Query}
use Rattle.dns_core.specs.declared.message.Message.{Message}
use Rattle.dns_core.specs.declared.net_error.NoRecords.{NoRecords}
use Rattle.dns_core.specs.declared.net_error.NetError.{NetError}
use Rattle.dns_core.specs.declared.net_error.NetError.TheVariants as net
use Rattle.dns_core.specs.declared.net_error.DnsError.TheVariants as dns
use Rattle.resolution.specs.Class.{class_of_message, class_of_error}
use Rattle.resolution.specs.declared.class.Class.{Class}
use Rattle.resolution.specs.declared.class.Class.TheVariants.{Error, Code, Truncated, Negative, Foreign, Positive}

-- a message, or an error
abbrev pub Answered : Type 0
Answered = Result Message NetError

-- a send to a server ended with this
pub record End (S : Type 0) : Type 0 where
  pub server : S
  pub outcome : Answered

-- what the lookup knows of its servers
pub record Rules (S : Type 0) : Type 0 where
  pub same : S → S → Bool
  -- its negatives are trusted
  pub trusts : S → Bool
  -- the policy allows it without UDP; with UDP it allows each
  pub beyond_udp : S → Bool
  -- in microseconds
  pub timeout : ℕ

-- of the answer to a question
abbrev pub class_of_answer : Query → Answered → Class
class_of_answer query (Ok m) = class_of_message m query
class_of_answer query (Err e) = class_of_error e

-- after it UDP is off, if it was on: a truncated message, or a case mismatch
abbrev pub is_tcp_fallback : Class → Bool
is_tcp_fallback Truncated = true
is_tcp_fallback (Error net.QueryCaseMismatch) = true
is_tcp_fallback _ = false

abbrev pub is_passing_error : NetError → Bool
is_passing_error net.Busy = true
is_passing_error (net.Io kind) = true
is_passing_error net.NoConnections = true
is_passing_error net.Timeout = true
is_passing_error _ = false

-- another server is asked after it
abbrev pub is_retryable : Bool → Class → Bool
is_retryable trusted (Error e) = is_passing_error e
is_retryable trusted (Negative n) = n.response_code.code == 3 && not trusted
is_retryable trusted _ = false

-- what a final end answers
abbrev pub answer_of : Class → Answered
answer_of (Error e) = Err e
answer_of (Code c) = Err (net.Dns (dns.ResponseCode c))
answer_of Truncated = Err net.Truncated
answer_of (Negative n) = Err (net.Dns (dns.NoRecordsFound n))
answer_of (Foreign r) = Err (net.ForeignClassRecord r.name r.dns_class r.record_type)
answer_of (Positive m) = Ok m

abbrev pub negative_of : Class → Option NoRecords
negative_of (Negative n) = Some n
negative_of _ = None

abbrev pub is_timed_out : Class → Bool
is_timed_out (Error net.Timeout) = true
is_timed_out _ = false

abbrev pub is_busy : Class → Bool
is_busy (Error net.Busy) = true
is_busy _ = false

-- the first negative; else a timeout; else the truncation; else no connection
abbrev pub least_bad : Bool → List Class → NetError
least_bad truncated cs = elim (filter_map negative_of cs) [
  | n ∷ ns ↦ net.Dns (dns.NoRecordsFound n)
  | [] ↦ if list_any is_timed_out cs then net.Timeout else (if truncated then net.Truncated else net.NoConnections)
]

-- ---- a run

module _ {S : Type 0} (rules : Rules S) (class : Answered → Class) where
  abbrev pub class_of_end : End S → Class
  class_of_end e = class e.outcome

  abbrev pub falls_back : End S → Bool
  falls_back e = is_tcp_fallback (class_of_end e)

  -- the first truncated message or case mismatch, if there is one
  abbrev pub the_fallback : List (End S) → Option (End S)
  the_fallback ends = find falls_back ends

  abbrev pub has_fallen_back : List (End S) → Bool
  has_fallen_back ends = list_any falls_back ends

  -- the ends but the turn
  abbrev pub but_fallback : List (End S) → List (End S)
  but_fallback ends = before_first falls_back ends ++ after_first falls_back ends

  -- it is no turn, and another server is asked after it; every other end but the turn is final
  abbrev pub retries : End S → Bool
  retries e = is_retryable (rules.trusts e.server) (class_of_end e)

  abbrev pub none_is_final : List (End S) → Bool
  none_is_final ends = list_all retries (but_fallback ends)

  -- the server of the end
  abbrev pub is_at : S → End S → Bool
  is_at s e = rules.same s e.server

  -- each server that the policy still allows has a retryable end
  abbrev pub all_were_tried : List S → List (End S) → Bool
  all_were_tried servers ends = list_all (λ s. (has_fallen_back ends && not (rules.beyond_udp s)) || list_any (is_at s) (but_fallback ends)) servers

  -- the turn's server was asked again, where the policy still allows it
  abbrev pub turn_was_repeated : List (End S) → Bool
  turn_was_repeated ends = elim (the_fallback ends) [ None ↦ true | Some e ↦ not (rules.beyond_udp e.server) || list_any (is_at e.server) (after_first falls_back ends) ]

  -- a server that the policy still allows, and that was busy to the last, was asked five times
  abbrev pub busy_were_retried : List S → List (End S) → Bool
  busy_were_retried servers ends = list_all (λ s.
      (has_fallen_back ends && not (rules.beyond_udp s))
      || elim (last_or None (filter (is_at s) (but_fallback ends))) [ None ↦ true | Some e ↦ not (is_busy (class_of_end e)) || nat_le 5 (length (filter (is_at s) (but_fallback ends))) ]) servers

  -- what the ends leave where none is final: those after a truncated turn, all without one
  abbrev pub what_is_left : List (End S) → NetError
  what_is_left ends = elim (the_fallback ends) [
    | None ↦ least_bad false (map class_of_end ends)
    | Some e ↦ elim (class_of_end e) [
      | Truncated ↦ least_bad true (map class_of_end (after_first falls_back ends))
      | _ ↦ least_bad false (map class_of_end (but_fallback ends))
    ]
  ]

  -- The last end decides, and it is the only final one.
  pub record IsDecided (ends : List (End S)) (result : Answered) : Type 0 where
    pub earlier : List (End S)
    pub last : End S
    pub whole : ends ≡ earlier ++ last ∷ []
    pub before : IsTrue (none_is_final earlier)
    pub final : IsTrue (not (retries last) && (not (falls_back last) || has_fallen_back earlier))
    pub answers : result ≡ answer_of (class_of_end last)

  -- No end decides, and no server is left.
  pub record IsSpent (servers : List S) (ends : List (End S)) (result : Answered) : Type 0 where
    pub none : IsTrue (none_is_final ends)
    pub tried : IsTrue (all_were_tried servers ends)
    pub again : IsTrue (turn_was_repeated ends)
    pub busy : IsTrue (busy_were_retried servers ends)
    pub answers : result ≡ Err (what_is_left ends)

  -- No end decides, and the deadline is reached.
  pub record IsLate (ends : List (End S)) (result : Answered) (start now : ℕ) : Type 0 where
    pub none : IsTrue (none_is_final ends)
    pub answers : result ≡ Err net.Timeout
    pub reached : start + rules.timeout ≤ now
    pub some : IsTrue (not (length ends == 0) || rules.timeout == 0)

  -- The lookup began at start, and a step at now answered it by these ends.
  pub data PoolRun (servers : List S) (ends : List (End S)) (result : Answered) (start now : ℕ) : Type 0 where
    decided : IsDecided ends result → PoolRun servers ends result start now
    spent : IsSpent servers ends result → PoolRun servers ends result start now
    late : IsLate ends result start now → PoolRun servers ends result start now

  -- the turn was at this server
  abbrev pub is_fallback_at : List (End S) → S → Bool
  is_fallback_at ends s = elim (the_fallback ends) [ None ↦ false | Some e ↦ is_at s e ]

  -- at most five ends for each place of a server, and one more where the turn was at it
  abbrev pub IsBounded : List S → List (End S) → Type 0
  IsBounded servers ends = (s : S) → count_by (is_at s) ends ≤ 5 * count_by (rules.same s) servers + (if is_fallback_at ends s then 1 else 0)
