-- The words that several proofs of this crate speak with, in one place.
pub use Rattle.std.proofs.Common.{◌≡◌, ◌<◌, ℕ, zero, suc, List, [], ◌∷◌, length, get_or, Some, arith, ap, slice_get, ◌≤◌, ◌+◌, ◌++◌, All, ◌⊎◌, inl, inr, ⊎_elim, Option, None, Result, Ok, Err, refl, sym, ◌∙◌, subst, ◌-◌, ◌*◌, ◌^◌, Bool, true, false, OnOk, MatchBool, max, Contains, ◌≢◌, if◌then◌else◌, eq-eqb, min, map, IfOk, vec_len, drop}
pub use Rattle.std.specs.Global.{Box}
pub use Rattle.std.proofs.Math.ListN.{set, drop_of_length-le}
pub use Rattle.std.proofs.lemmas.List.Sums.{sum_by-set}
pub use Rattle.std.specs.Prelude.{IsSome}
pub use Rattle.std.proofs.lemmas.List.Elements.{All-get_or}
pub use Rattle.std.specs.Option.{option_map}
pub use Rattle.std.proofs.lemmas.Option.{get_or_from_slice_get, slice_get_within, same_Some, slice_get_read}
pub use Rattle.std.proofs.lemmas.List.{drop_more}
pub use Rattle.std.specs.BTreeSet.{BTreeSet, contains}
pub use Rattle.std.specs.Ordering.{nat_cmp}
pub use Rattle.std.specs.declared.net.ip_addr.IpAddr.{IpAddr}
pub use Rattle.std.proofs.lemmas.Result.{IfOk-weaker}
pub use Rattle.recursor_types.specs.declared.reply.Reply.{Reply}
pub use Rattle.dns_core.specs.Log.{Log, Extends, log_of}
pub use Rattle.dns_core.specs.declared.request.Question.{Question}
pub use Rattle.dns_core.specs.declared.errors.NoMemory.{NoMemory}
pub use Rattle.order_carrier.specs.Fits.{GoesToServer}
pub use Rattle.walk_lookup.specs.LogView.{seen_at}
pub use Rattle.recursor_walk.specs.Replies.{ReplyHolds}
pub use Rattle.walk_tables.specs.Taking.{TablesHold}
pub use Rattle.recursor_types.specs.declared.policy.Policy.{Policy}
pub use Rattle.recursor_question.specs.declared.resolving.Resolution.{Resolution}
pub use Rattle.walk_lookup.specs.Remembered.{EntryHolds}
pub use Rattle.walk_lookup.proofs.LookupAdvances.{later-by}
pub use Rattle.recursor_walk.proofs.QueryAdvances.{reply-later}
pub use Rattle.dns_core.specs.declared.log.LogEntry.{LogEntry}
pub use Rattle.dns_core.specs.declared.provider.ConnectionProvider.{Ghosts}
pub use Rattle.dns_core.specs.declared.request.Turn.{Turn}
pub use Rattle.order_carrier.specs.Growing.{GrownOver, RiseFrom, TellsThat, Grown, IsPast, with_entries}
pub use Rattle.order_carrier.proofs.MomentsStayInOrder.{IsPast-later, IsPast-grown, rises_over}
pub use Rattle.order_carrier.proofs.LogWaitsOnceMore.{IsPatient-refl, IsPatient-trans}
pub use Rattle.order_carrier.specs.declared.in_flight.runner.InFlight.{InFlight}
pub use Rattle.walk_lookup.specs.Tried.{Timer, machine_timer, IsTimed}
pub use Rattle.order_carrier.specs.declared.carrier.Carrier.{Carrier}
pub use Rattle.recursor_walk.proofs.TimelyForEarlier.{reply-earlier, outcome-earlier}
pub use Rattle.order_carrier.proofs.LogGrowsByCalls.{Grown-refl, Extends-refl, Extends-trans, Grown-trans, Longer-from_added, Extends-added, Logged-newest, unlogged, below_or_from, entry_sides}
pub use Rattle.resolver_cache.specs.Cached.{Cached}
pub use Rattle.recursor_types.specs.Policy.{with_patience}
pub use Rattle.walk_lookup.specs.Order.{is_given_up, IsGivenUpIn, LogGoesOnIf}
pub use Rattle.order_carrier.specs.InFlight.{InFlightHolds, InFlightMoves, GoesNowhere, sent_by, still_awaited, IsLast, HasTold, polls_left}
pub use Rattle.server_core.specs.declared.orders.order.Order.{Order}
pub use Rattle.server_core.specs.declared.orders.order.After.{After}
pub use Rattle.recursor_core.specs.Turns.{due}
pub use Rattle.recursor_core.specs.Plays.{open_plays, Begins, BeginsIf, BeginsAt, IsRefused, ReplyOf}
pub use Rattle.recursor_core.specs.declared.machine.plays.QuestionState.{QuestionState}
pub use Rattle.recursor_core.specs.Derived.{seen_by, Derived}
pub use Rattle.recursor_core.specs.Machine.{kept_in, Begun, begun_of, begun_at, IsOneMore, given_by, ReplyGiven, StepGives, SameCore, IsNewCore, TellsTo, open_at}
pub use Rattle.recursor_core.specs.declared.machine.resolutions.RecursorCore.{RecursorCore}
pub use Rattle.recursor_question.specs.declared.steps.Step.{Step}
pub use Rattle.resolution.specs.Turns.{AreAt, IsPlayed, begin_moment, run_moments}
pub use Rattle.recursor_core.specs.Runs.{OnLogs, IsPlayedOver, Leading, Leads, GoesOn, IsPlayedTo, Turning, RunsOver, IsDue, PlaysGoOn, PlaysOn, work, told_by, Plays}
pub use Rattle.recursor_core.specs.declared.run.Run.{Run}
pub use Rattle.recursor_core.specs.RecursorState.{Holds, Goes, Moves, ReplyTold, run_timer, PlayHolds, PlaysHold, RepliesHold, ReplyFor, Rests, Ready, TurnedTold, KeepsTo, RecursorState, policy_of_run}
