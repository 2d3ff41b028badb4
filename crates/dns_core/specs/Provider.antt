-- What each call of a provider answers beside its entry.
use Rattle.std.specs.Prelude.{◌≡◌, ℕ, None, Result, Ok, Err, IsTrue, IfSome, MatchBool}
use Rattle.std.specs.Bool.{OnTrue}
use Rattle.dns_core.specs.Message.{is_qualified_message}
use Rattle.dns_core.specs.NetError.{is_memory, is_qualified_error, negative_query}
use Rattle.dns_core.specs.declared.net_error.NetError.{NetError}
use Rattle.dns_core.specs.declared.message.Query.{Query}
use Rattle.dns_core.specs.declared.message.Message.{Message}
use Rattle.dns_core.specs.declared.provider.Poll.{Poll}
use Rattle.dns_core.specs.declared.provider.Poll.TheVariants as poll
use Rattle.dns_core.specs.Faults.{Rose}

-- A call that answered an Err other than out of memory raised the count, and no other did.
abbrev pub Faulted : {X : Type 0} → ℕ → ℕ → Result X NetError → Type 0
Faulted before now (Ok x) = now ≡ before
Faulted before now (Err e) = MatchBool (is_memory e) (now ≡ before) (Rose before now)

abbrev pub PollFaulted : {X : Type 0} → ℕ → ℕ → Poll (Result X NetError) → Type 0
PollFaulted before now poll.Pending = now ≡ before
PollFaulted before now (poll.Ready r) = Faulted before now r

-- A poll that found nothing yet raised the count, and no other did.
abbrev pub Pended : {X : Type 0} → ℕ → ℕ → Poll X → Type 0
Pended before now poll.Pending = Rose before now
Pended before now (poll.Ready x) = now ≡ before

-- what stays where a poll was not ready; out of memory does not count as ready
abbrev pub Stays : {X : Type 0} → Poll (Result X NetError) → Type 0 → Type 0
Stays poll.Pending P = P
Stays (poll.Ready (Ok x)) P = Unit {0}
Stays (poll.Ready (Err e)) P = OnTrue (is_memory e) P

abbrev pub OnReady : {X : Type 0} → (X → Type 0) → Poll X → Type 0
OnReady P poll.Pending = Unit {0}
OnReady P (poll.Ready x) = P x

abbrev pub ReadyIs : {X : Type 0} → (X → Type 0) → Poll (Result X NetError) → Type 0
ReadyIs P poll.Pending = Unit {0}
ReadyIs P (poll.Ready (Ok x)) = P x
ReadyIs P (poll.Ready (Err e)) = Unit {0}

-- an error that is no negative response, with fully qualified names alone
abbrev pub IsPlain : {X : Type 0} → Result X NetError → Type 0
IsPlain (Ok x) = Unit {0}
IsPlain (Err e) = IsTrue (is_qualified_error e) × (negative_query e ≡ None)

-- a message or an error that answers the question, whose other names are all fully qualified
abbrev pub TellsFor : Query → Result Message NetError → Type 0
TellsFor query (Ok m) = (m.query ≡ query) × IsTrue (is_qualified_message m)
TellsFor query (Err e) = IsTrue (is_qualified_error e) × IfSome (negative_query e) (λ n. n ≡ query)
