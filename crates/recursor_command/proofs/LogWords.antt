-- What a script tells has its word in a log.
use Rattle.std.proofs.Common.{◌≡◌, ℕ, zero, suc, ◌-◌, Bool, true, false, List, [], ◌∷◌, take, filter, find, Option, Some, None, Ok, Err, slice_get, refl, ap, ◌∙◌, subst, count_by}
use Rattle.std.specs.Prelude.{◌&&◌, if◌then◌else◌, unwrap_or}
use Rattle.std.specs.Option.{option_map}
use Rattle.std.specs.List.{list_all, list_any, AllByRecursion}
use Rattle.std.proofs.lemmas.Option.{option_and_then_some}
use Rattle.dns_core.specs.Log.{numbered}
use Rattle.dns_core.specs.declared.message.Query.{Query}
use Rattle.dns_core.specs.declared.net_error.IoKind.TheVariants.{Refused}
use Rattle.dns_core.specs.declared.net_error.NetError.{NetError}
use Rattle.dns_core.specs.declared.net_error.NetError.TheVariants.{Io}
use Rattle.dns_core.specs.declared.log.LogEntry.{LogEntry}
use Rattle.dns_core.specs.declared.log.LogEntry.TheVariants.{Opened, Asked, Waited, Told, GaveUp}
use Rattle.script_upstream.specs.Course.{reply_course, connect_course}
use Rattle.script_upstream.specs.Giving.{Gives, Fits, course_after, refuses, connects, replies, asks, asking_of, connection_course, question_course_for, waits}
use Rattle.script_upstream.specs.declared.courses.course.ScriptedReply.{ScriptedReply}
use Rattle.script_upstream.specs.declared.courses.course.ScriptedReply.TheVariants.{Never, After}
use Rattle.script_upstream.specs.declared.courses.index.Asking.{Asking}
use Rattle.script_upstream.specs.declared.courses.index.Endpoint.{Endpoint}
use Rattle.script_upstream.specs.declared.script.script.Script.{Script}
use Rattle.script_upstream.specs.declared.script.script.ScriptLine.{ScriptLine}
use Rattle.script_upstream.specs.declared.script.script.ScriptLine.TheVariants.{Connect, Refuse, Reply}
use Rattle.text_lines.specs.Texts.{has_error_word}
use Rattle.transcript_printer.specs.Log.{has_refusal_word, has_outcome_words, has_entry_words, has_log_words}
use Rattle.text_lines.specs.LineSpelling.{IsScriptLine}
use Rattle.recursor_command.proofs.ScriptErrors.{failure_word, failure_stays}

-- ---- what holds of each element holds of those that are found

found : {X : Type 0} (P : X → Type 0) (p : X → Bool) (xs : List X) (x : X) → AllByRecursion P xs → find p xs ≡ Some x → P x
found P p [] x h e = cc
found P p (y ∷ ys) x h e = by (p y) e (found P p ys x h.1)
  where
    by : (b : Bool) → (if b then Some y else find p ys) ≡ Some x → (find p ys ≡ Some x → P x) → P x
    by true is later = let same : y ≡ x = cc in subst P same h.0
    by false is later = later is

filtered : {X : Type 0} (P : X → Type 0) (p : X → Bool) (xs : List X) → AllByRecursion P xs → AllByRecursion P (filter p xs)
filtered P p [] h = tt
filtered P p (y ∷ ys) h = by (p y) (filtered P p ys h.1)
  where
    by : (b : Bool) → AllByRecursion P (filter p ys) → AllByRecursion P (if b then y ∷ filter p ys else filter p ys)
    by true later = (h.0, later)
    by false later = later

at_place : {X : Type 0} (P : X → Type 0) (xs : List X) (i : ℕ) (x : X) → AllByRecursion P xs → slice_get xs i ≡ Some x → P x
at_place P [] i x h e = cc
at_place P (y ∷ ys) zero x h e = let same : y ≡ x = cc in subst P same h.0
at_place P (y ∷ ys) (suc i) x h e = at_place P ys i x h.1 e

-- ---- courses

abbrev course_words : ScriptedReply → Bool
course_words Never = true
course_words (After polls outcome) = has_outcome_words outcome

connect_words : (line : ScriptLine) → IsScriptLine line → course_words (connect_course line) ≡ true
connect_words (Connect ip protocol delay None) h = refl
connect_words (Connect ip protocol delay (Some e)) h = failure_word e h.failure
connect_words (Refuse ip protocol) h = refl
connect_words (Reply ip protocol name type delay outcome) h = refl

reply_words : (q : Query) (line : ScriptLine) → IsScriptLine line → course_words (reply_course q line) ≡ true
reply_words q (Connect ip protocol delay error) h = refl
reply_words q (Refuse ip protocol) h = refl
reply_words q (Reply ip protocol name type delay (Ok m)) h = refl
reply_words q (Reply ip protocol name type delay (Err e)) h = ap has_error_word (failure_stays q e h.failure) ∙ failure_word e h.failure

chosen_words : (f : ScriptLine → ScriptedReply) (o : Option ScriptLine) (other : ScriptedReply) → course_words other ≡ true → ((line : ScriptLine) → o ≡ Some line → course_words (f line) ≡ true)
    → course_words (unwrap_or (option_map f o) other) ≡ true
chosen_words f None other none some = none
chosen_words f (Some line) other none some = some line refl

connection_words : (s : Script) (p : Endpoint) → AllByRecursion IsScriptLine s.lines → course_words (connection_course s p) ≡ true
connection_words s p h = chosen_words connect_course (find (connects p) s.lines) _ refl (λ line e. connect_words line (found IsScriptLine (connects p) s.lines line h e))

question_words : (s : Script) (a : Asking) (q : Query) (k : ℕ) → AllByRecursion IsScriptLine s.lines → course_words (question_course_for s a q k) ≡ true
question_words s a q k h =
    chosen_words (reply_course q) (slice_get (filter (replies a) s.lines) _) Never refl
    (λ line e. reply_words q line (at_place IsScriptLine (filter (replies a) s.lines) _ line (filtered IsScriptLine (replies a) s.lines h) e))

after_words : (s : Script) (es : List LogEntry) (e : LogEntry) (c : ScriptedReply) → AllByRecursion IsScriptLine s.lines → course_after s es e ≡ Some c → course_words c ≡ true
after_words s es (Opened ip protocol moment None) c h is =
    let same : connection_course s (record { ip = ip; protocol = protocol }) ≡ c = cc in
    subst (λ (x : ScriptedReply). course_words x ≡ true) same (connection_words s (record { ip = ip; protocol = protocol }) h)
after_words s es (Opened ip protocol moment (Some e)) c h is = cc
after_words s es (Asked ip protocol q moment refused) c h is =
    let a = asking_of (record { ip = ip; protocol = protocol }) q in
    let same : question_course_for s a q (count_by (asks a) es) ≡ c = cc in
    subst (λ (x : ScriptedReply). course_words x ≡ true) same (question_words s a q (count_by (asks a) es) h)
after_words s es (Waited of) c h is = cc
after_words s es (Told of moment outcome) c h is = cc
after_words s es (GaveUp of moment) c h is = cc

-- ---- entries

refusal_words : (b : Bool) (refused : Option NetError) → refused ≡ (if b then Some (Io Refused) else None) → has_refusal_word refused ≡ true
refusal_words true refused e = ap has_refusal_word e
refusal_words false refused e = ap has_refusal_word e

entry_words : (s : Script) (es : List LogEntry) (e : LogEntry) → AllByRecursion IsScriptLine s.lines → Fits s es e → has_entry_words e ≡ true
entry_words s es (Opened ip protocol moment refused) h f = refusal_words (list_any (refuses (record { ip = ip; protocol = protocol })) s.lines) refused f
entry_words s es (Asked ip protocol q moment refused) h f = ap has_refusal_word f
entry_words s es (Waited of) h f = refl
entry_words s es (GaveUp of moment) h f = refl
entry_words s es (Told of moment outcome) h f =
    option_and_then_some (course_after s (take (of - 1) es)) (numbered es of) (After (waits of es) outcome) f.1
    (λ e at is. after_words s (take (of - 1) es) e (After (waits of es) outcome) h is)

pub entry_worded : (s : Script) (es : List LogEntry) (n : ℕ) (e : LogEntry) → AllByRecursion IsScriptLine s.lines → Gives s es → numbered es n ≡ Some e → has_entry_words e ≡ true
entry_worded s es n e h g at = entry_words s (take (n - 1) es) e h (g n e at)

-- ---- whole lists

and_true : (a b : Bool) → a ≡ true → b ≡ true → (a && b) ≡ true
and_true a b p q = ap (λ x. x && b) p ∙ q

pub all_at_places : {X : Type 0} (p : X → Bool) (xs : List X) → ((i : ℕ) (x : X) → slice_get xs i ≡ Some x → p x ≡ true) → list_all p xs ≡ true
all_at_places p [] h = refl
all_at_places p (x ∷ xs) h = and_true (p x) (list_all p xs) (h zero x refl) (all_at_places p xs (λ i y e. h (suc i) y e))

pub log_worded : (es : List LogEntry) → ((n : ℕ) (e : LogEntry) → numbered es n ≡ Some e → has_entry_words e ≡ true) → has_log_words es ≡ true
log_worded es h = all_at_places has_entry_words es (λ i e at. h (suc i) e at)
