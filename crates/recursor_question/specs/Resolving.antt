-- What a resolution needs, and how much of it is left.
use Rattle.std.specs.Prelude.{◌≡◌, ◌≤◌, ℕ, IsTrue, IfSome, Option, Some, None, Result, Ok, Err, MatchResult, option_and_then}
use Rattle.std.specs.Option.{option_map}
use Rattle.std.specs.Global.{Box}
use Rattle.dns_core.specs.declared.errors.NoMemory.{NoMemory}
use Rattle.dns_core.specs.declared.message.Query.{Query}
use Rattle.dns_core.specs.declared.request.DnsRequest.{DnsRequest}
use Rattle.dns_core.specs.declared.request.Question.{Question}
use Rattle.walk_tables.specs.Taking.{awaited_by}
use Rattle.walk_tables.specs.declared.pools.Pools.{Pools}
use Rattle.walk_tables.specs.declared.pools.PoolsStep.{PoolsStep}
use Rattle.recursor_types.specs.declared.reply.Reply.{Reply}
use Rattle.resolution.specs.Failing.{ends_walk}
use Rattle.resolver_cache.specs.Cached.{Cached}
use Rattle.recursor_walk.specs.SourcedVerdict.{from_cache, answerable}
use Rattle.recursor_walk.specs.Replies.{reply_with}
use Rattle.recursor_walk.specs.declared.zone_query.sourced_verdict.SourcedVerdict.{SourcedVerdict}
use Rattle.recursor_walk.specs.declared.walk.WalkOutcome.{WalkOutcome}
use Rattle.recursor_question.specs.declared.resolving.NextStep.{NextStep}
use Rattle.recursor_question.specs.declared.resolving.State.{State}
use Rattle.recursor_question.specs.declared.resolving.State.TheVariants.{New, Walking, Asking, Done, Ended}
use Rattle.recursor_question.specs.declared.resolving.Resolution.{Resolution}
use Rattle.recursor_walk.specs.declared.zone_query.asking.ZoneQuery.{ZoneQuery as AtServers}
use Rattle.walk_tables.specs.Lookup as lookup
use Rattle.recursor_walk.specs.ZoneQuery as asking
use Rattle.recursor_walk.specs.Walk as walk
use Rattle.recursor_walk.specs.declared.walk.WalkOutcome.TheVariants as course
use Rattle.recursor_question.specs.declared.resolving.NextStep.TheVariants as need

abbrev pub state_want : State → NextStep
state_want New = need.SetOut
state_want (Walking w) = need.Send (lookup.want_of w.value.asking.lookup.ask)
state_want (Asking a) = need.Send (lookup.want_of a.value.lookup.ask)
state_want (Done reply) = need.Reply
state_want Ended = need.Nothing

abbrev pub want_of : Resolution → NextStep
want_of r = state_want r.state

abbrev pub state_steps : Query → State → ℕ
state_steps query New = walk.begin_steps query
state_steps query (Walking w) = walk.steps w.value
state_steps query (Asking a) = asking.steps a.value
state_steps query (Done reply) = 1
state_steps query Ended = 0

-- how many steps it has before it
abbrev pub steps : Resolution → ℕ
steps r = state_steps r.question.query r.state

-- what it asks now, and where
abbrev pub asking_of : State → Option AtServers
asking_of New = None
asking_of (Walking w) = Some w.value.asking
asking_of (Asking a) = Some a.value
asking_of (Done reply) = None
asking_of Ended = None

-- the order that it waits for
abbrev pub open_of : Pools → Resolution → Option ℕ
open_of pools r = option_and_then (λ (a : AtServers). awaited_by pools a.lookup) (asking_of r.state)

-- the question that it asks now
abbrev pub asked_of : State → Option Query
asked_of s = option_map (λ (a : AtServers). a.lookup.query) (asking_of s)

-- the request asks what it asks now
abbrev pub AsksFor : DnsRequest → State → Type 0
AsksFor request state = asked_of state ≡ Some request.query

-- It is still of the same question, which began when it began.
abbrev pub SameBegun : Resolution → Resolution → Type 0
SameBegun old new = (new.question ≡ old.question) × (new.begun ≡ old.begun)

-- ---- a step

abbrev pub IsWalking : State → Type 0
IsWalking New = ⊥
IsWalking (Walking w) = Unit {0}
IsWalking (Asking a) = ⊥
IsWalking (Done reply) = ⊥
IsWalking Ended = ⊥

-- It is as it was where the walk goes further; else it has at most to ask, has its reply, or has ended since memory ran out.
abbrev pub IsWalked : Query → Result WalkOutcome NoMemory → State → State → Type 0
IsWalked query (Ok course.Continue) old new = new ≡ old
IsWalked query (Ok course.ServersReached) old new = state_steps query new ≤ 6
IsWalked query (Ok (course.Reply reply)) old new = new ≡ Done reply
IsWalked query (Err e) old new = new ≡ Ended

-- it is as it was where it goes on; it has its reply, or has ended since memory ran out
abbrev pub IsSettled : Result (Option (Box Reply)) NoMemory → State → State → Type 0
IsSettled (Ok None) old new = new ≡ old
IsSettled (Ok (Some reply)) old new = new ≡ Done reply
IsSettled (Err e) old new = new ≡ Ended

-- it has not ended
abbrev pub IsOpen : State → Type 0
IsOpen Ended = ⊥
IsOpen _ = Unit {0}

-- It has ended where memory ran out, and nowhere else.
abbrev pub StaysOpen : {X : Type 0} → Result X NoMemory → State → Type 0
StaysOpen result state = MatchResult result (λ x. IsOpen state) (λ e. state ≡ Ended)

-- It asks the same; where memory ran out it is as it was.
abbrev pub AsksOn : {X : Type 0} → Result X NoMemory → Resolution → Resolution → Type 0
AsksOn result old new = MatchResult result (λ x. asked_of new.state ≡ asked_of old.state) (λ e. new ≡ old)

-- A step of its lookup leaves less to do than before, but where it gives an order, or waits for one; where it is done, what came is to be heard.
abbrev pub StepsOn : Resolution → Resolution → PoolsStep → Type 0
StepsOn old new stepped = lookup.LeavesLess (steps old) (steps new) stepped × (want_of new ≡ need.Send (lookup.want_after stepped))

-- ---- how it begins

abbrev pub IsUnder : State → Type 0
IsUnder New = ⊥
IsUnder (Walking w) = Unit {0}
IsUnder (Asking a) = Unit {0}
IsUnder (Done reply) = ⊥
IsUnder Ended = ⊥

abbrev pub IsDoneWith : Reply → State → Type 0
IsDoneWith reply New = ⊥
IsDoneWith reply (Walking w) = ⊥
IsDoneWith reply (Asking a) = ⊥
IsDoneWith reply (Done given) = given.value ≡ reply
IsDoneWith reply Ended = ⊥

-- Where the cache has for a question what may be answered, the reply is the one with that; else its walk begins.
abbrev pub IsAnswered : Question → Option SourcedVerdict → State → Type 0
IsAnswered question None state = IsUnder state
IsAnswered question (Some c) state = IsDoneWith (reply_with question c) state

-- ---- what the cache has, and what came

abbrev pub IsDone : State → Type 0
IsDone (Done reply) = Unit {0}
IsDone _ = ⊥

-- What the cache has for what is asked is heeded: the question itself is answered with it where it may be, and else goes on; one whose walk
-- it ends is answered.
abbrev pub IsHeeded : Cached → ℕ → Question → State → State → Type 0
IsHeeded cache now question (Asking a) new = IsAnswered question (answerable (from_cache cache a.value.lookup.query now)) new
IsHeeded cache now question (Walking w) new = IfSome (from_cache cache w.value.asking.lookup.query now) (λ c. IsTrue (ends_walk c.verdict) → IsDone new)
IsHeeded cache now question _ new = Unit {0}

-- What came is heard: the question itself is answered by it, and so is one whose walk it ends.
abbrev pub IsHeard : State → State → Type 0
IsHeard (Asking a) new = IsDone new
IsHeard (Walking w) new = IfSome (walk.verdict_heard w.value) (λ v. IsTrue (ends_walk v) → IsDone new)
IsHeard _ new = Unit {0}
