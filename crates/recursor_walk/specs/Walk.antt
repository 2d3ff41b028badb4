-- Where a walk stands, and how many steps it has before it.
use Rattle.std.specs.Prelude.{◌≡◌, ℕ, ◌+◌, ◌-◌, ◌*◌, ◌<◌, ◌≤◌, length, Option, Some, None, Result, Ok, Err, IfOk, IsTrue, option_and_then}
use Rattle.dns_core.specs.declared.message.Query.{Query}
use Rattle.dns_core.specs.declared.errors.NoMemory.{NoMemory}
use Rattle.dns_core.specs.declared.net_error.NetError.{NetError}
use Rattle.resolution.specs.Failing.{ends_walk}
use Rattle.resolution.specs.declared.verdict.Verdict.{Verdict}
use Rattle.walk_lookup.specs.declared.lookup_result.LookupResult.{LookupResult}
use Rattle.recursor_walk.specs.declared.zone_query.sourced_verdict.SourcedVerdict.{SourcedVerdict}
use Rattle.recursor_types.specs.declared.reply.Reply.{Reply}
use Rattle.recursor_walk.specs.declared.walk.WalkOutcome.{WalkOutcome}
use Rattle.recursor_walk.specs.declared.walk.Walk.{Walk}
use Rattle.resolution.specs.Names.{walk as name_walked}
use Rattle.walk_tables.specs.Lookup as lookup
use Rattle.walk_lookup.specs.declared.lookup_result.LookupResult.TheVariants as found
use Rattle.recursor_walk.specs.declared.walk.WalkOutcome.TheVariants as course

-- how many steps a walk has before it once the lookup of its candidate was heard, beside those by which it gives orders and waits for them, and
-- those of the question itself; a lookup has fewer than 8
abbrev pub steps_after : Walk → ℕ
steps_after walk = 10 + (length walk.name.labels - walk.labels) * 8

abbrev pub steps : Walk → ℕ
steps walk = steps_after walk + lookup.steps walk.asking.lookup

-- more steps than a question has with its walk
abbrev pub begin_steps : Query → ℕ
begin_steps query = 7 + length (name_walked query).labels * 8

-- It has fewer, where it goes further.
abbrev pub IsFurther : Walk → Walk → WalkOutcome → Type 0
IsFurther old new course.Continue = steps new < steps old
IsFurther old new course.ServersReached = Unit {0}
IsFurther old new (course.Reply reply) = Unit {0}

abbrev pub Goes : Walk → Walk → Result WalkOutcome NoMemory → Type 0
Goes old new result = IfOk result (IsFurther old new)

-- It is past its candidate, where it goes further.
abbrev pub IsPast : Walk → Walk → WalkOutcome → Type 0
IsPast old new course.Continue = steps new ≤ steps_after old
IsPast old new course.ServersReached = Unit {0}
IsPast old new (course.Reply reply) = Unit {0}

abbrev pub Passes : Walk → Walk → Result WalkOutcome NoMemory → Type 0
Passes old new result = IfOk result (IsPast old new)

-- ---- replies

-- It goes further, or has come to the servers.
abbrev pub IsOnward : WalkOutcome → Type 0
IsOnward course.Continue = Unit {0}
IsOnward course.ServersReached = Unit {0}
IsOnward (course.Reply reply) = ⊥

abbrev pub IsReplied : WalkOutcome → Type 0
IsReplied course.Continue = ⊥
IsReplied course.ServersReached = ⊥
IsReplied (course.Reply reply) = Unit {0}

abbrev pub IsWalkOutcomeOf : Reply → WalkOutcome → Type 0
IsWalkOutcomeOf reply course.Continue = ⊥
IsWalkOutcomeOf reply course.ServersReached = ⊥
IsWalkOutcomeOf reply (course.Reply given) = given.value ≡ reply

-- What counts so for a candidate is the reply, where it ends the walk.
abbrev pub Ends : Verdict → Result WalkOutcome NoMemory → Type 0
Ends verdict result = IsTrue (ends_walk verdict) → IfOk result IsReplied

abbrev pub EndsIf : Option Verdict → Result WalkOutcome NoMemory → Type 0
EndsIf None result = Unit {0}
EndsIf (Some v) result = Ends v result

abbrev pub counting : Result Verdict NetError → Option Verdict
counting (Ok v) = Some v
counting (Err e) = None

-- what a lookup came to counts for, if that was a response
abbrev pub verdict_found : LookupResult → Option Verdict
verdict_found (found.Told entry verdict) = counting verdict
verdict_found (found.Error error) = None

-- what is to be heard counts for, if it is a response
abbrev pub verdict_heard : Walk → Option Verdict
verdict_heard walk = option_and_then verdict_found (lookup.found_in walk.asking.lookup.ask)

-- What the cache has for a candidate is the reply, where it ends the walk; where it has nothing, the walk goes further.
abbrev pub Recalls : Option SourcedVerdict → Result WalkOutcome NoMemory → Type 0
Recalls None result = IfOk result (λ came. came ≡ course.Continue)
Recalls (Some c) result = Ends c.verdict result
