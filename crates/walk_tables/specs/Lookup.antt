-- Where a lookup stands, and how many steps it has before it.
use Rattle.std.specs.Prelude.{ℕ, ◌≤◌, ◌<◌, IsTrue, List, Option, Some, None}
use Rattle.dns_core.specs.Name.{DomainName}
use Rattle.dns_core.specs.declared.message.Query.{Query}
use Rattle.resolution.specs.Names.{is_above, walk}
use Rattle.walk_lookup.specs.LogView.{LogView}
use Rattle.walk_tables.specs.declared.pools.Answer.{Answer}
use Rattle.walk_tables.specs.declared.pools.PoolsStep.{PoolsStep}
use Rattle.walk_tables.specs.declared.lookup.Phase.{Phase}
use Rattle.walk_tables.specs.declared.lookup.QueryStep.{QueryStep}
use Rattle.walk_tables.specs.declared.lookup.QueryStep.TheVariants.{Recall, Begin, Step, Hear}
use Rattle.walk_tables.specs.declared.lookup.Lookup.{Lookup}
use Rattle.walk_lookup.specs.declared.lookup_result.LookupResult.{LookupResult}
use Rattle.walk_lookup.specs.LookupResult.{FoundHolds}
use Rattle.walk_tables.specs.declared.pools.PoolsStep.TheVariants as stepped
use Rattle.walk_tables.specs.declared.lookup.Phase.TheVariants as ask

abbrev pub want_of : Phase → QueryStep
want_of ask.CheckCache = Recall
want_of ask.Unsent = Begin
want_of (ask.InPool under) = Step
want_of (ask.Answered came) = Hear

-- what one wants after a step at its pool: where it is done, that what it came to is heard
abbrev pub want_after : PoolsStep → QueryStep
want_after (stepped.Order number order) = Step
want_after (stepped.Waiting number) = Step
want_after stepped.Done = Hear

-- how many steps one that wants this has before it, beside those by which it gives orders and waits for them
abbrev pub want_steps : QueryStep → ℕ
want_steps Recall = 4
want_steps Begin = 3
want_steps Step = 2
want_steps Hear = 1

abbrev pub steps : Lookup → ℕ
steps l = want_steps (want_of l.ask)

-- A step leaves less to do than before, but where it gives an order, or waits for one.
abbrev pub LeavesLess : ℕ → ℕ → PoolsStep → Type 0
LeavesLess old new (stepped.Order number order) = new ≤ old
LeavesLess old new (stepped.Waiting number) = new ≤ old
LeavesLess old new stepped.Done = new < old

-- ---- what it came to

-- what one that is to be heard came to
abbrev pub found_in : Phase → Option LookupResult
found_in ask.CheckCache = None
found_in ask.Unsent = None
found_in (ask.InPool under) = None
found_in (ask.Answered came) = Some came

-- Nothing is known here of a lookup before it was answered: what its pool does for it is known of the pool.
abbrev pub AskHolds : LogView → ℕ → DomainName → Query → List ℕ → Phase → Type 0
AskHolds view asked_at zone query grounds ask.CheckCache = Unit {0}
AskHolds view asked_at zone query grounds ask.Unsent = Unit {0}
AskHolds view asked_at zone query grounds (ask.InPool under) = Unit {0}
AskHolds view asked_at zone query grounds (ask.Answered came) = FoundHolds view asked_at zone query grounds came

-- what a lookup came to at its pool
abbrev pub AnswerHolds : LogView → ℕ → DomainName → Query → Answer → Type 0
AnswerHolds view asked_at zone query a = FoundHolds view asked_at zone query a.ends a.came

-- The zone is at or above the name of the question.
pub record LookupHolds (view : LogView) (asked_at : ℕ) (zone : DomainName) (l : Lookup) : Type 0 where
  pub above : IsTrue (is_above zone (walk l.query))
  pub ask : AskHolds view asked_at zone l.query l.ends l.ask

-- ---- by what it was answered
