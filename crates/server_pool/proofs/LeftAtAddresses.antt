-- What is left of a lookup at addresses where no end decides.
use Rattle.std.proofs.Common.{◌≡◌, ℕ, ◌<◌, Bool, true, false, not, ◌||◌, cond, List, [], ◌∷◌, map, find, length, Contains, Option, Some, None, Ok, Err, refl, sym, ap, ◌∙◌, arith}
use Rattle.std.specs.Prelude.{◌==◌, if◌then◌else◌}
use Rattle.std.specs.List.{list_any, list_all, before_first, after_first, filter_map, AllByRecursion}
use Rattle.std.proofs.lemmas.Bool.{and_parts}
use Rattle.std.proofs.lemmas.List.Folds.{list_all-append, list_all-map}
use Rattle.std.specs.declared.net.ip_addr.IpAddr.{IpAddr}
use Rattle.dns_core.specs.Classifying.{no_records}
use Rattle.dns_core.specs.declared.message.Query.{Query}
use Rattle.dns_core.specs.declared.message.Message.{Message}
use Rattle.dns_core.specs.declared.record.Record.{Record}
use Rattle.dns_core.specs.declared.net_error.NoRecords.{NoRecords}
use Rattle.dns_core.specs.declared.net_error.NetError.{NetError}
use Rattle.dns_core.specs.declared.net_error.NetError.TheVariants as net
use Rattle.dns_core.specs.declared.net_error.DnsError.TheVariants as dns
use Rattle.resolution.specs.Class.{class_of_error, has_no_data_for, is_foreign}
use Rattle.resolution.specs.Records.{records}
use Rattle.resolution.specs.Lookups.{Answered, class_of_answer, End, Rules, is_retryable, negative_of, is_timed_out, least_bad, class_of_end, falls_back, the_fallback, but_fallback, retries, none_is_final, all_were_tried, what_is_left}
use Rattle.resolution.specs.Ending.{by_address}
use Rattle.resolution.specs.declared.class.Class.{Class}
use Rattle.resolution.specs.declared.class.Class.TheVariants.{Error, Code, Truncated, Negative, Foreign, Positive}
use Rattle.pool_rules.specs.declared.pool_server.PoolServer.{PoolServer}
use Rattle.pool_rules.proofs.FirstThatPasses.{but_none}
use Rattle.pool_lookup.specs.Holds.{HeardEnd, ends_of}

-- an error that is left where no end decides
abbrev pub IsLeft : NetError → Type 0
IsLeft net.Timeout = Unit {0}
IsLeft net.Truncated = Unit {0}
IsLeft net.NoConnections = Unit {0}
IsLeft _ = ⊥

-- none of those that another server is asked after is a denial, where denials are trusted
no_negatives : (cs : List Class) → list_all (is_retryable true) cs ≡ true → filter_map negative_of cs ≡ []
no_negatives [] h = refl
no_negatives (Error e ∷ cs) h = no_negatives cs (and_parts (is_retryable true (Error e)) (list_all (is_retryable true) cs) h).1
no_negatives (Negative n ∷ cs) h =
    let final = (and_parts (n.response_code.code == 3) false (and_parts (is_retryable true (Negative n)) (list_all (is_retryable true) cs) h).0).1 in cc
no_negatives (Code c ∷ cs) h = cc
no_negatives (Truncated ∷ cs) h = cc
no_negatives (Foreign r ∷ cs) h = cc
no_negatives (Positive m ∷ cs) h = cc

least_by : (ns : List NoRecords) (silent cut : Bool) → ns ≡ []
    → IsLeft (elim ns [ n ∷ rest ↦ net.Dns (dns.NoRecordsFound n) | [] ↦ if silent then net.Timeout else (if cut then net.Truncated else net.NoConnections) ])
least_by [] true cut is = tt
least_by [] false true is = tt
least_by [] false false is = tt
least_by (n ∷ ns) silent cut is = cc

least_error : (cut : Bool) (cs : List Class) → list_all (is_retryable true) cs ≡ true → IsLeft (least_bad cut cs)
least_error cut cs h = least_by (filter_map negative_of cs) (list_any is_timed_out cs) cut (no_negatives cs h)

none_any : {X : Type 0} (p : X → Bool) (xs : List X) → find p xs ≡ None → list_any p xs ≡ false
none_any p [] e = refl
none_any {X} p (x ∷ xs) e = at_head (p x) e (none_any p xs)
  where
    at_head : (b : Bool) → cond b (Some x) (find p xs) ≡ None → (find p xs ≡ None → list_any p xs ≡ false) → (b || list_any p xs) ≡ false
    at_head true h next = cc
    at_head false h next = next h

module _ (timeout : ℕ) (q : Query) where
  abbrev rules : Rules IpAddr
  rules = by_address timeout

  abbrev class : Answered → Class
  class = class_of_answer q

  abbrev classes : List (End IpAddr) → List Class
  classes ends = map (class_of_end rules class) ends

  retry_classes : (ends : List (End IpAddr)) → list_all (retries rules class) ends ≡ true → list_all (is_retryable true) (classes ends) ≡ true
  retry_classes ends h = list_all-map (is_retryable true) (class_of_end rules class) ends ∙ h

  after_retries : (ends : List (End IpAddr)) → none_is_final rules class ends ≡ true → list_all (retries rules class) (after_first (falls_back rules class) ends) ≡ true
  after_retries ends h =
      let before = before_first (falls_back rules class) ends in
      let after = after_first (falls_back rules class) ends in
      (and_parts (list_all (retries rules class) before) (list_all (retries rules class) after) (sym (list_all-append (retries rules class) before after) ∙ h)).1

  left_after : (after but : List Class) (c : Class) → list_all (is_retryable true) after ≡ true → list_all (is_retryable true) but ≡ true
      → IsLeft (elim c [ Truncated ↦ least_bad true after | _ ↦ least_bad false but ])
  left_after after but Truncated a b = least_error true after a
  left_after after but (Error e) a b = least_error false but b
  left_after after but (Code c) a b = least_error false but b
  left_after after but (Negative n) a b = least_error false but b
  left_after after but (Foreign r) a b = least_error false but b
  left_after after but (Positive m) a b = least_error false but b

  left_by : (ends : List (End IpAddr)) (o : Option (End IpAddr)) → the_fallback rules class ends ≡ o → none_is_final rules class ends ≡ true
      → IsLeft (elim o [
        | None ↦ least_bad false (classes ends)
        | Some e ↦ elim (class_of_end rules class e) [ Truncated ↦ least_bad true (classes (after_first (falls_back rules class) ends)) | _ ↦ least_bad false (classes (but_fallback rules class ends)) ]
      ])
  left_by ends None is h =
      let all = but_none (falls_back rules class) ends (none_any (falls_back rules class) ends is) in
      least_error false (classes ends) (retry_classes ends (sym (ap (list_all (retries rules class)) all) ∙ h))
  left_by ends (Some e) is h =
      left_after (classes (after_first (falls_back rules class) ends)) (classes (but_fallback rules class ends)) (class_of_end rules class e)
      (retry_classes (after_first (falls_back rules class) ends) (after_retries ends h)) (retry_classes (but_fallback rules class ends) h)

  -- what is left is a timeout, a cut message, or that no server was reached
  pub left_error : (ends : List (End IpAddr)) → none_is_final rules class ends ≡ true → IsLeft (what_is_left rules class ends)
  left_error ends h = left_by ends (the_fallback rules class ends) refl h

  -- where no server is left, one was asked
  pub spent_some : (ips : List IpAddr) (ends : List (End IpAddr)) → 0 < length ips → all_were_tried rules class ips ends ≡ true → 0 < length ends
  spent_some [] ends some h = absurd (omega (arith, some))
  spent_some (ip ∷ ips) [] some h = cc
  spent_some (ip ∷ ips) (e ∷ ends) some h = omega arith

-- ---- no denial is an error

error_no_denial : (f : NetError) (n : NoRecords) → class_of_error f ≡ Error (net.Dns (dns.NoRecordsFound n)) → ⊥
error_no_denial net.Busy n is = cc
error_no_denial (net.Io kind) n is = cc
error_no_denial net.NoConnections n is = cc
error_no_denial net.Timeout n is = cc
error_no_denial net.Truncated n is = cc
error_no_denial net.QueryCaseMismatch n is = cc
error_no_denial (net.ForeignClassRecord m c t) n is = cc
error_no_denial (net.Msg text) n is = cc
error_no_denial net.NoMemory n is = cc
error_no_denial (net.Dns (dns.ResponseCode code)) n is = cc
error_no_denial (net.Dns (dns.NoRecordsFound m)) n is = cc

message_no_error : (m : Message) (code cut bare : Bool) (o : Option Record) (f : NetError)
    → cond code (Code m.response_code) (cond cut Truncated (cond bare (Negative (no_records m)) (elim o [ Some r ↦ Foreign r | None ↦ Positive m ]))) ≡ Error f → ⊥
message_no_error m true cut bare o f e = cc
message_no_error m false true bare o f e = cc
message_no_error m false false true o f e = cc
message_no_error m false false false (Some r) f e = cc
message_no_error m false false false None f e = cc

-- an end whose class is an error is no denial
pub no_denial_error : (q : Query) (o : Answered) (n : NoRecords) → class_of_answer q o ≡ Error (net.Dns (dns.NoRecordsFound n)) → ⊥
no_denial_error q (Err f) n is = error_no_denial f n is
no_denial_error q (Ok m) n is = message_no_error m (not (m.response_code.code == 0 || m.response_code.code == 3)) m.truncation (has_no_data_for q m) (find (is_foreign q) (records m)) _ is

-- ---- the servers of ends

-- each end is at one of the servers where what was heard is
pub ends_from : (servers : List PoolServer) (heard : List HeardEnd) → AllByRecursion (λ h. Contains servers h.end.server) heard → AllByRecursion (λ e. Contains servers e.server) (ends_of heard)
ends_from servers [] a = tt
ends_from servers (h ∷ heard) a = (a.0, ends_from servers heard a.1)
