-- Which lines of a script are meant, and the logs that it gives.
use Rattle.std.specs.Prelude.{◌≡◌, ℕ, ◌-◌, ◌<◌, Bool, false, ◌==◌, List, Option, Some, None, length, take, drop, min, filter, find, slice_get, unwrap_or, option_and_then, IsSomeAnd, count_by, if◌then◌else◌}
use Rattle.std.specs.Option.{option_map}
use Rattle.std.specs.List.{list_any}
use Rattle.dns_core.specs.Log.{numbered}
use Rattle.dns_core.specs.declared.net_error.NetError.{NetError}
use Rattle.dns_core.specs.declared.net_error.NetError.TheVariants.{Io}
use Rattle.dns_core.specs.declared.net_error.IoKind.TheVariants.{Refused}
use Rattle.dns_core.specs.declared.message.Query.{Query}
use Rattle.dns_core.specs.declared.log.ToldOutcome.TheVariants.{Connected}
use Rattle.dns_core.specs.declared.log.LogEntry.{LogEntry}
use Rattle.dns_core.specs.declared.log.LogEntry.TheVariants.{Opened, Asked, Waited, Told, GaveUp}
use Rattle.script_upstream.specs.Keys.{same_endpoint, same_asking}
use Rattle.script_upstream.specs.Course.{connect_course, reply_course}
use Rattle.script_upstream.specs.declared.courses.index.Endpoint.{Endpoint}
use Rattle.script_upstream.specs.declared.courses.index.Asking.{Asking}
use Rattle.script_upstream.specs.declared.courses.course.ScriptedReply.{ScriptedReply}
use Rattle.script_upstream.specs.declared.courses.course.ScriptedReply.TheVariants.{Never, After}
use Rattle.script_upstream.specs.declared.script.script.ScriptLine.{ScriptLine}
use Rattle.script_upstream.specs.declared.script.script.ScriptLine.TheVariants.{Connect, Refuse, Reply}
use Rattle.script_upstream.specs.declared.script.script.Script.{Script}

-- a line that refuses this connection
abbrev pub refuses : Endpoint → ScriptLine → Bool
refuses p (Refuse ip protocol) = same_endpoint (record { ip = ip; protocol = protocol }) p
refuses p (Connect ip protocol delay error) = false
refuses p (Reply ip protocol name query_type delay outcome) = false

-- a line that says what this connection comes to
abbrev pub connects : Endpoint → ScriptLine → Bool
connects p (Connect ip protocol delay error) = same_endpoint (record { ip = ip; protocol = protocol }) p
connects p (Refuse ip protocol) = false
connects p (Reply ip protocol name query_type delay outcome) = false

-- a line that says what a question of these four values comes to
abbrev pub replies : Asking → ScriptLine → Bool
replies a (Reply ip protocol name query_type delay outcome) = same_asking (record { ip = ip; protocol = protocol; name = name; query_type = query_type }) a
replies a (Connect ip protocol delay error) = false
replies a (Refuse ip protocol) = false

-- the four values of a question that is asked over a connection
abbrev pub asking_of : Endpoint → Query → Asking
asking_of p query = record { ip = p.ip; protocol = p.protocol; name = query.name; query_type = query.query_type }

-- an entry that asked a question of these four values
abbrev pub asks : Asking → LogEntry → Bool
asks a (Asked ip protocol q moment refused) = same_asking (asking_of (record { ip = ip; protocol = protocol }) q) a
asks a (Opened ip protocol moment refused) = false
asks a (Waited of) = false
asks a (Told of moment outcome) = false
asks a (GaveUp of moment) = false

-- why a connection is refused at once, if it is
abbrev pub refusal : Script → Endpoint → Option NetError
refusal s p = if list_any (refuses p) s.lines then Some (Io Refused) else None

-- what a connection comes to: what the first line for it says, and without one it is connected at once
abbrev pub connection_course : Script → Endpoint → ScriptedReply
connection_course s p = unwrap_or (option_map connect_course (find (connects p) s.lines)) (After 0 Connected)

-- what a question of these values comes to after k like it: the lines for it are used up in their order, but for the last
abbrev pub question_course_for : Script → Asking → Query → ℕ → ScriptedReply
question_course_for s a query k =
    let lines = filter (replies a) s.lines in
    unwrap_or (option_map (reply_course query) (slice_get lines (min k (length lines - 1)))) Never

-- what an entry comes to that opened or asked, after these entries
abbrev pub course_after : Script → List LogEntry → LogEntry → Option ScriptedReply
course_after s es (Opened ip protocol moment None) = Some (connection_course s (record { ip = ip; protocol = protocol }))
course_after s es (Opened ip protocol moment (Some e)) = None
course_after s es (Asked ip protocol q moment refused) =
    let a = asking_of (record { ip = ip; protocol = protocol }) q in
    Some (question_course_for s a q (count_by (asks a) es))
course_after s es (Waited of) = None
course_after s es (Told of moment outcome) = None
course_after s es (GaveUp of moment) = None

-- what the entry of a number comes to, where it opened or asked
abbrev pub course : Script → List LogEntry → ℕ → Option ScriptedReply
course s es n = option_and_then (course_after s (take (n - 1) es)) (numbered es n)

-- an entry by which the entry of this number waited
abbrev pub waits_of : ℕ → LogEntry → Bool
waits_of n (Waited of) = of == n
waits_of n (Opened ip protocol moment refused) = false
waits_of n (Asked ip protocol q moment refused) = false
waits_of n (Told of moment outcome) = false
waits_of n (GaveUp of moment) = false

-- how often the entry of this number waited
abbrev pub waits : ℕ → List LogEntry → ℕ
waits n es = count_by (waits_of n) es

-- an entry that ends the entry of this number: it tells it, or gives it up
abbrev pub ends : ℕ → LogEntry → Bool
ends n (Told of moment outcome) = of == n
ends n (GaveUp of moment) = of == n
ends n (Opened ip protocol moment refused) = false
ends n (Asked ip protocol q moment refused) = false
ends n (Waited of) = false

-- no entry after the entry of this number ended it
abbrev pub HasNoEnd : ℕ → List LogEntry → Type 0
HasNoEnd n es = list_any (ends n) (drop n es) ≡ false

-- it may wait once more
abbrev pub MayWait : ℕ → ScriptedReply → Type 0
MayWait waited Never = Unit {0}
MayWait waited (After polls outcome) = waited < polls

-- The entry fits the script and the entries before it: a connection is refused exactly where a line refuses it, and a
-- question never; each waits as often as its line says, and is then told, once, what its line says; nothing is told of
-- one that was given up. A give-up is the caller's.
abbrev pub Fits : Script → List LogEntry → LogEntry → Type 0
Fits s es (Opened ip protocol moment refused) = refused ≡ refusal s (record { ip = ip; protocol = protocol })
Fits s es (Asked ip protocol q moment refused) = refused ≡ None
Fits s es (Waited of) = HasNoEnd of es × IsSomeAnd (course s es of) (MayWait (waits of es))
Fits s es (Told of moment outcome) = HasNoEnd of es × (course s es of ≡ Some (After (waits of es) outcome))
Fits s es (GaveUp of moment) = Unit {0}

-- the script gives the log: each entry fits
abbrev pub Gives : Script → List LogEntry → Type 0
Gives s es = (n : ℕ) (e : LogEntry) → numbered es n ≡ Some e → Fits s (take (n - 1) es) e
