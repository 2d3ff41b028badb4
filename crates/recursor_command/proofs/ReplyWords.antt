-- What a run over a script replies has its words.
use Rattle.std.proofs.Common.{◌≡◌, ℕ, zero, suc, ◌<◌, Bool, true, false, List, [], ◌∷◌, ◌++◌, map, find, Option, Some, None, Result, Ok, Err, slice_get, length, refl, sym, subst, arith}
use Rattle.std.specs.Prelude.{◌||◌, ◌==◌, not, if◌then◌else◌}
use Rattle.std.specs.List.{list_all, list_any, filter_map, after_first, AllByRecursion}
use Rattle.std.specs.declared.net.ip_addr.IpAddr.{IpAddr}
use Rattle.std.proofs.lemmas.Option.{slice_get_within}
use Rattle.dns_core.specs.Log.{Log, numbered, log_of}
use Rattle.dns_core.specs.Classifying.{no_records}
use Rattle.dns_core.specs.declared.codes.ResponseCode.{ResponseCode}
use Rattle.dns_core.specs.declared.message.Message.{Message as Response}
use Rattle.dns_core.specs.declared.message.Query.{Query}
use Rattle.dns_core.specs.declared.net_error.NetError.{NetError}
use Rattle.dns_core.specs.declared.net_error.NoRecords.{NoRecords}
use Rattle.dns_core.specs.declared.record.Record.{Record}
use Rattle.dns_core.specs.declared.request.Question.{Question}
use Rattle.dns_core.specs.declared.request.Turn.{Turn}
use Rattle.dns_core.specs.declared.log.LogEntry.{LogEntry}
use Rattle.resolution.specs.Class.{class_of_message, class_of_error, has_no_data_for, is_foreign}
use Rattle.resolution.specs.Records.{records}
use Rattle.resolution.specs.declared.class.Class.{Class}
use Rattle.resolution.specs.declared.class.Class.TheVariants.{Error, Code, Truncated, Negative, Foreign, Positive}
use Rattle.recursor_types.specs.declared.policy.Policy.{Policy}
use Rattle.resolution.specs.Telling.{Logged}
use Rattle.resolution.specs.Lookups.{Answered, End, Rules, PoolRun, class_of_answer, answer_of, class_of_end, least_bad, what_is_left, the_fallback, but_fallback, falls_back, negative_of, is_timed_out}
use Rattle.resolution.specs.Lookups.PoolRun.{decided, spent, late}
use Rattle.resolution.specs.Ending.{LookupTiming, EndsSend, EndSends, by_address}
use Rattle.resolution.specs.Ending.EndsSend.{open_refused, ask_refused, open_failed, ask_failed, answered, given_up}
use Rattle.resolution.specs.Ending.EndSends.{no_send, and_send}
use Rattle.recursor_types.specs.declared.error.RecursorError.{RecursorError}
use Rattle.recursor_types.specs.declared.reply.Reply.{Reply}
use Rattle.resolution.specs.Causes.{is_lookup_error, CauseOf, LookupFailed}
use Rattle.resolution.specs.Theorem.{OutcomeIsSound}
use Rattle.recursor_core.specs.RecursorState.{RepliesHold}
use Rattle.text_lines.specs.Texts.{has_error_word}
use Rattle.transcript_printer.specs.Errors.{has_words, has_net_words}
use Rattle.transcript_printer.specs.Log.{has_entry_words}
use Rattle.transcript_printer.specs.Transcript.{has_result_words, has_reply_words}
use Rattle.recursor_command.proofs.LogWords.{all_at_places}
use Rattle.dns_core.specs.declared.net_error.NetError.TheVariants as net
use Rattle.dns_core.specs.declared.net_error.DnsError.TheVariants as dns
use Rattle.recursor_types.specs.declared.error.RecursorError.TheVariants as error
use Rattle.recursor_types.specs.declared.error.MessageKind.TheVariants as kind

-- each entry of the log has its words
abbrev IsWorded : Log → Type 0
IsWorded log = (n : ℕ) (e : LogEntry) → Logged log n e → has_entry_words e ≡ true

-- ---- ends of sends

abbrev HasWord : Answered → Type 0
HasWord (Ok m) = Unit {0}
HasWord (Err e) = has_error_word e ≡ true

abbrev EndWord : End IpAddr → Type 0
EndWord e = HasWord e.outcome

end_word : {given : Policy} {log : Log} {q : Query} {n moment : ℕ} {e : End IpAddr} → IsWorded log → EndsSend given log q n e moment → EndWord e
end_word w (open_refused a) = w _ _ a
end_word w (ask_refused a same) = w _ _ a
end_word w (open_failed a b) = w _ _ a
end_word w (ask_failed a b same) = w _ _ a
end_word w (answered a b same) = tt
end_word w (given_up a b begun waited) = refl

end_words : {given : Policy} {log : Log} {q : Query} {ips : List IpAddr} {g moments : List ℕ} {ends : List (End IpAddr)} → IsWorded log → EndSends given log q ips g ends moments → AllByRecursion EndWord ends
end_words w no_send = tt
end_words w (and_send a inside rest) = (end_word w a, end_words w rest)

last_word : {X : Type 0} (P : X → Type 0) (xs : List X) (x : X) → AllByRecursion P (xs ++ x ∷ []) → P x
last_word P [] x h = h.0
last_word P (y ∷ ys) x h = last_word P ys x h.1

-- ---- the error of a lookup

-- an answered error has its words
abbrev Worded : NetError → Type 0
Worded e = is_lookup_error e ≡ true → has_net_words e ≡ true

told_word : (e : NetError) → has_error_word e ≡ true → Worded e
told_word net.Busy w l = cc
told_word (net.Io kind) w l = cc
told_word net.Timeout w l = refl
told_word net.NoConnections w l = refl
told_word net.QueryCaseMismatch w l = refl
told_word net.Truncated w l = refl
told_word (net.ForeignClassRecord name dns_class record_type) w l = refl
told_word (net.Dns (dns.ResponseCode code)) w l = refl
told_word (net.Dns (dns.NoRecordsFound n)) w l = cc
told_word (net.Msg text) w l = cc
told_word net.NoMemory w l = cc

-- an error that was told is answered as it is
kept_error : (e : NetError) → answer_of (class_of_error e) ≡ Err e
kept_error (net.Dns (dns.NoRecordsFound found)) = refl
kept_error (net.Dns (dns.ResponseCode code)) = refl
kept_error net.Busy = refl
kept_error (net.Io kind) = refl
kept_error net.Timeout = refl
kept_error net.NoConnections = refl
kept_error net.Truncated = refl
kept_error net.QueryCaseMismatch = refl
kept_error (net.ForeignClassRecord n c t) = refl
kept_error (net.Msg text) = refl
kept_error net.NoMemory = refl

-- an error that is made of a message
abbrev MadeWord : Class → Type 0
MadeWord c = (e : NetError) → Err e ≡ answer_of c → Worded e

error_is : (P : NetError → Type 0) (x e : NetError) (a b : Answered) → a ≡ Err x → b ≡ Err e → a ≡ b → P x → P e
error_is P x e a b p q r h = let same : x ≡ e = cc in subst P same h

made_code : (c : ResponseCode) → MadeWord (Code c)
made_code c e is = error_is Worded (net.Dns (dns.ResponseCode c)) e _ _ refl refl (sym is) (λ l. refl)

made_cut : MadeWord Truncated
made_cut e is = error_is Worded net.Truncated e _ _ refl refl (sym is) (λ l. refl)

made_no_data : (n : NoRecords) → MadeWord (Negative n)
made_no_data n e is = error_is Worded (net.Dns (dns.NoRecordsFound n)) e _ _ refl refl (sym is) (λ l. cc)

made_foreign : (r : Record) → MadeWord (Foreign r)
made_foreign r e is = error_is Worded (net.ForeignClassRecord r.name r.dns_class r.record_type) e _ _ refl refl (sym is) (λ l. refl)

made_positive : (m : Response) → MadeWord (Positive m)
made_positive m e is = cc

message_made : (m : Response) (q : Query) → MadeWord (class_of_message m q)
message_made m q = by_code (not (m.response_code.code == 0 || m.response_code.code == 3))
  where
    by_foreign : (o : Option Record) → MadeWord (elim o [ Some r ↦ Foreign r | None ↦ Positive m ])
    by_foreign (Some r) = made_foreign r
    by_foreign None = made_positive m

    by_data : (b : Bool) → MadeWord (if b then Negative (no_records m) else elim (find (is_foreign q) (records m)) [ Some r ↦ Foreign r | None ↦ Positive m ])
    by_data true = made_no_data (no_records m)
    by_data false = by_foreign (find (is_foreign q) (records m))

    by_cut : (b : Bool) → MadeWord (if b then Truncated else (if has_no_data_for q m then Negative (no_records m) else elim (find (is_foreign q) (records m)) [ Some r ↦ Foreign r | None ↦ Positive m ]))
    by_cut true = made_cut
    by_cut false = by_data (has_no_data_for q m)

    by_code : (b : Bool) → MadeWord (if b then Code m.response_code else (if m.truncation then Truncated else (if has_no_data_for q m then Negative (no_records m) else elim (find (is_foreign q) (records m)) [ Some r ↦ Foreign r | None ↦ Positive m ])))
    by_code true = made_code m.response_code
    by_code false = by_cut m.truncation

decided_word : (q : Query) (o : Answered) (e : NetError) → HasWord o → Err e ≡ answer_of (class_of_answer q o) → Worded e
decided_word q (Ok m) e h is = message_made m q e is
decided_word q (Err x) e h is = error_is Worded x e _ _ (kept_error x) refl (sym is) (told_word x h)

least_word : (cut : Bool) (cs : List Class) → Worded (least_bad cut cs)
least_word cut cs = by (filter_map negative_of cs)
  where
    by_cut : (b : Bool) → Worded (if b then net.Truncated else net.NoConnections)
    by_cut true l = refl
    by_cut false l = refl

    by_time : (b : Bool) → Worded (if b then net.Timeout else (if cut then net.Truncated else net.NoConnections))
    by_time true l = refl
    by_time false l = by_cut cut l

    by : (ns : List NoRecords) → Worded (elim ns [
      | n ∷ ns ↦ net.Dns (dns.NoRecordsFound n)
      | [] ↦ if list_any is_timed_out cs then net.Timeout else (if cut then net.Truncated else net.NoConnections)
    ])
    by [] l = by_time (list_any is_timed_out cs) l
    by (n ∷ ns) l = cc

left_word : (rules : Rules IpAddr) (class : Answered → Class) (ends : List (End IpAddr)) → Worded (what_is_left rules class ends)
left_word rules class ends = by (the_fallback rules class ends)
  where
    cut : Worded (least_bad true (map (class_of_end rules class) (after_first (falls_back rules class) ends)))
    cut = least_word true (map (class_of_end rules class) (after_first (falls_back rules class) ends))

    whole : Worded (least_bad false (map (class_of_end rules class) (but_fallback rules class ends)))
    whole = least_word false (map (class_of_end rules class) (but_fallback rules class ends))

    by_class : (c : Class) → Worded (elim c [
      | Truncated ↦ least_bad true (map (class_of_end rules class) (after_first (falls_back rules class) ends))
      | _ ↦ least_bad false (map (class_of_end rules class) (but_fallback rules class ends))
    ])
    by_class Truncated = cut
    by_class (Error e) = whole
    by_class (Code c) = whole
    by_class (Negative n) = whole
    by_class (Foreign r) = whole
    by_class (Positive m) = whole

    by : (o : Option (End IpAddr)) → Worded (elim o [
      | None ↦ least_bad false (map (class_of_end rules class) ends)
      | Some e ↦ elim (class_of_end rules class e) [
        | Truncated ↦ least_bad true (map (class_of_end rules class) (after_first (falls_back rules class) ends))
        | _ ↦ least_bad false (map (class_of_end rules class) (but_fallback rules class ends))
      ]
    ])
    by None = least_word false (map (class_of_end rules class) ends)
    by (Some e) = by_class (class_of_end rules class e)

run_word : (rules : Rules IpAddr) (q : Query) (servers : List IpAddr) (ends : List (End IpAddr)) (e : NetError) (start now : ℕ) → AllByRecursion EndWord ends
    → PoolRun rules (class_of_answer q) servers ends (Err e) start now → Worded e
run_word rules q servers ends e start now h (decided d) =
    decided_word q d.last.outcome e (last_word EndWord d.earlier d.last (subst (λ (xs : List (End IpAddr)). AllByRecursion EndWord xs) d.whole h)) d.answers
run_word rules q servers ends e start now h (spent s) = error_is Worded (what_is_left rules (class_of_answer q) ends) e _ _ refl refl (sym s.answers) (left_word rules (class_of_answer q) ends)
run_word rules q servers ends e start now h (late l) = error_is Worded net.Timeout e _ _ refl refl (sym l.answers) (λ l. refl)

failed_word : (given : Policy) (known : LookupTiming) (log : Log) (t0 : ℕ) (q : Query) (g : List ℕ) (e : NetError) → IsWorded log → LookupFailed given known log t0 q g e → Worded e
failed_word given known log t0 q g e w f =
    run_word (by_address given.timeout) q f.ended.ips f.ended.ends e f.ended.start f.ended.now (end_words w f.ended.logged) f.ended.run

-- ---- replies

cause_word : (given : Policy) (known : LookupTiming) (log : Log) (t0 : ℕ) (q : Query) (g : List ℕ) (e : RecursorError) → IsWorded log → CauseOf given known log t0 q g e → has_words e ≡ true
cause_word given known log t0 q g (error.Negative d) w h = refl
cause_word given known log t0 q g (error.ForwardNS servers) w h = refl
cause_word given known log t0 q g (error.Net e) w h = failed_word given known log t0 q g e w h h.is
cause_word given known log t0 q g (error.NoNameServer zone cause) w h = refl
cause_word given known log t0 q g _ w h = absurd h

outcome_word : (given : Policy) (known : LookupTiming) (log : Log) (t0 : ℕ) (question : Question) (g : List ℕ) (o : Result Response RecursorError) → IsWorded log → OutcomeIsSound given known log t0 question g o
    → has_result_words o ≡ true
outcome_word given known log t0 question g (Ok m) w h = refl
outcome_word given known log t0 question g (Err error.NoMemory) w h = refl
outcome_word given known log t0 question g (Err (error.Message kind.NotQualified)) w h = refl
outcome_word given known log t0 question g (Err e) w h = cause_word given known log t0 h.last h.rest e w h.cause

logged_word : (es : List LogEntry) → ((n : ℕ) (e : LogEntry) → numbered es n ≡ Some e → has_entry_words e ≡ true) → IsWorded (log_of es)
logged_word es h n e l = h n e l.is

not_below : (i : ℕ) → i < 0 → ⊥
not_below i b = omega (arith, b)

question_at : (qs : List Question) (i : ℕ) → i < length qs → (x : Question) × (slice_get qs i ≡ Some x)
question_at [] i b = absurd (not_below i b)
question_at (x ∷ xs) zero b = (x, refl)
question_at (x ∷ xs) (suc i) b = question_at xs i (omega (arith, b))

pub replies_worded : (terms : Policy) (es : List LogEntry) (start : ℕ) (turns : List Turn) (questions : List Question) (replies : List Reply)
    → ((n : ℕ) (e : LogEntry) → numbered es n ≡ Some e → has_entry_words e ≡ true) → length replies ≡ length questions → RepliesHold terms (log_of es) start turns questions replies
    → list_all has_reply_words replies ≡ true
replies_worded terms es start turns questions replies w same h = all_at_places has_reply_words replies (λ q reply at.
    let inside = slice_get_within replies q reply at in
    let some = question_at questions q (omega (arith, same, inside)) in
    outcome_word _ _ (log_of es) _ some.0 reply.grounds reply.outcome (logged_word es w) (h q some.0 reply some.1 at))
