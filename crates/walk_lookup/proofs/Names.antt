-- The words that several proofs of this crate speak with, in one place.
pub use Rattle.std.proofs.Common.{◌≡◌, ℕ, ◌≤◌, ◌<◌, Bool, true, false, not, ◌||◌, List, [], ◌∷◌, ◌++◌, map, length, Option, Some, None, IfSome, IsSomeAnd, Result, Ok, Err, ◌⊎◌, inl, inr, refl, sym, ap, subst, ◌∙◌, arith, cond, filter, take, drop, All, ◌&&◌, eqb-true, ◌≢◌, zero, suc, IfOk, ◌+◌, ◌-◌, ◌^◌, min, ⊎_elim, find, Contains, OnErr, length-append, IsErr, eq-eqb}
pub use Rattle.std.specs.Prelude.{IsTrue, nat_le, option_and_then, ◌==◌, if◌then◌else◌, option_map, slice_get, unwrap_or, IfErr, ◌*◌, slice_index_or, nat_lt}
pub use Rattle.std.specs.List.{list_all, last_or, AllZip, list_any, AllByRecursion}
pub use Rattle.std.proofs.lemmas.Bool.{and_parts, leb-true, false_from_ne_true, le-leb}
pub use Rattle.std.proofs.lemmas.Option.{same_Some, none-some, slice_get-map}
pub use Rattle.std.proofs.lemmas.List.Elements.{All-weaker, recursion_from_All, All-from_recursion, All-contains, All-contains_itself}
pub use Rattle.std.proofs.lemmas.List.Sorted.{IsPermutation-sym, IsPermutation-append_comm, IsPermutation-refl, IsPermutation-map, All-permutation, Contains-permutation}
pub use Rattle.std.specs.declared.net.ip_addr.IpAddr.{IpAddr}
pub use Rattle.std.specs.List.Sorted.{IsPermutation}
pub use Rattle.std.proofs.lemmas.List.{take-append-drop, take_more, map-append}
pub use Rattle.std.specs.Ordering.{is_eq, nat_cmp}
pub use Rattle.std.specs.BTreeMap.{insert_entry, is_at}
pub use Rattle.dns_core.specs.Name.{DomainName, same_names}
pub use Rattle.dns_core.specs.Log.{Log, Extends}
pub use Rattle.dns_core.specs.declared.message.Query.{Query}
pub use Rattle.dns_core.specs.declared.message.Message.{Message}
pub use Rattle.dns_core.specs.declared.net_error.NetError.{NetError}
pub use Rattle.dns_core.specs.declared.net_error.DnsError.{DnsError}
pub use Rattle.resolver_settings.specs.Access.{denies, Access}
pub use Rattle.resolution.specs.Class.{class_of, class_of_classified, class_of_error}
pub use Rattle.resolution.specs.Verdict.{is_all_denied, without_denied, verdict, verdict_of_told}
pub use Rattle.resolution.specs.Serving.{Heard, Serves}
pub use Rattle.resolution.specs.Lookups.{Answered, class_of_answer, End, is_retryable, answer_of, what_is_left, IsDecided, PoolRun, IsBounded}
pub use Rattle.resolution.specs.Ending.{by_address, EndSends, waits, EndsSend, Listed, FinishedLookup, is_begun, Rise, is_wait_for}
pub use Rattle.resolution.specs.Ending.EndSends.{no_send, and_send}
pub use Rattle.resolution.specs.declared.class.Class.{Class}
pub use Rattle.pool_rules.specs.RetryQueue.{rules_of, class_of_sent}
pub use Rattle.pool_lookup.specs.Asked.{answer_in, opens, has_in, has_order}
pub use Rattle.pool_lookup.specs.Hearing.{left_of, closing_entry, done_by, end_by, after_outcome}
pub use Rattle.pool_lookup.specs.Holds.{HeardEnd, ends_of, entries_of, IsRun, out_of_memory, HoldsBy}
pub use Rattle.pool_lookup.specs.Lookup.{LookupState, question_of, BegunWith, begun_with, fresh, is_decided}
pub use Rattle.pool_lookup.specs.declared.lookup.State.{State}
pub use Rattle.pool_lookup.specs.declared.lookup.State.TheVariants.{Decided, Asking, BackingOff}
pub use Rattle.server_pool.specs.OpenLookups.{closed_by, open_for, moved_to, with_at, left, is_last, after_leave, under}
pub use Rattle.server_pool.specs.declared.open_lookups.open_lookup.OpenLookup.{OpenLookup}
pub use Rattle.server_pool.specs.Shared.{lookup_at, Shared, turn_at, configs, SameBut, lookup_of, denied_in}
pub use Rattle.server_pool.specs.ByAddress.{at_address, IsSameEnd, SameEnds}
pub use Rattle.server_pool.proofs.ByAddress.{IsTrustedBeyondUdp, run_by_address, told_class_itself, address_from_pool}
pub use Rattle.walk_response.specs.Shown.{nothing_left_for, left_of_class, IsShown}
pub use Rattle.dns_core.specs.declared.request.DnsRequest.{DnsRequest}
pub use Rattle.resolver_settings.specs.NameServer.{NameServer, over_udp, over_tcp}
pub use Rattle.server_core.specs.Servers.{Server, server_of, place_of}
pub use Rattle.pool_lookup.specs.Rounds.{begun, started}
pub use Rattle.pool_lookup.proofs.BegunStays.{round_same, outcome_same}
pub use Rattle.pool_lookup.proofs.LookupHoldsOn.{begun_by, outcome_by}
pub use Rattle.pool_lookup.proofs.DecidedAtItsStep.{started_moment, outcome_moment}
pub use Rattle.server_pool.specs.Sending.{HasBegun, SentTo, HasSent}
pub use Rattle.pool_rules.specs.declared.pool_server.PoolServer.{PoolServer}
pub use Rattle.resolver_cache.specs.Cached.{Cached}
pub use Rattle.resolution.specs.declared.verdict.Verdict.{Verdict}
pub use Rattle.resolution.specs.Walking.{Walked}
pub use Rattle.walk_response.specs.Kept.{kept_of, response_in}
pub use Rattle.dns_core.specs.declared.log.ToldOutcome.{ToldOutcome}
pub use Rattle.recursor_types.specs.Policy.{with_patience}
pub use Rattle.resolution.specs.Verdict.{allows_all}
pub use Rattle.dns_core.specs.declared.errors.NoMemory.{NoMemory}
pub use Rattle.resolution.specs.Names.{is_above, walk, same_query}
pub use Rattle.resolution.specs.Ending.EndsSend.{answered, open_refused, ask_refused, open_failed, ask_failed, given_up}
pub use Rattle.resolution.proofs.LongerLogs.{Serves-later, Logged-extend, Serves-extend, Heard-extend}
pub use Rattle.server_core.specs.Sending.{is_open, asked_of, pendings, end_of, is_last_poll, after_put, response_end, result_of, taken, come_to}
pub use Rattle.server_core.specs.declared.orders.order.After.{After}
pub use Rattle.server_core.specs.declared.orders.order.SentBy.{SentBy}
pub use Rattle.server_core.specs.declared.orders.order.Outcome.{Outcome}
pub use Rattle.server_core.specs.declared.orders.order.Outcome.TheVariants.{Pending, Connected, Told, Failed, Slept}
pub use Rattle.pool_lookup.specs.Running.{IsGivenFor, IsBackingOffUnder, heard_after, with_end, IsOpenTo}
pub use Rattle.order_carrier.specs.Fits.{Closes, WaitsBy, OutcomeIs, GoesToServer, entry_for, IsSent}
pub use Rattle.server_core.specs.declared.orders.order.Order.{Order}
pub use Rattle.pool_lookup.specs.declared.giving.LookupStep.{LookupStep}
pub use Rattle.pool_lookup.specs.declared.attempt.Attempt.{Attempt}
pub use Rattle.pool_lookup.specs.Attempts.{is_open_at}
pub use Rattle.pool_lookup.specs.Giving.{Gives, Halts}
pub use Rattle.server_pool.specs.LookupOrders.{without_order, orders_by}
pub use Rattle.server_pool.specs.LookupSteps.{put_lookup}
pub use Rattle.server_pool.proofs.UnderNumbers.{found_with, inserted, inserted_other, removed_other, with_other, IsSame, is_same, IsFound, found_in}
pub use Rattle.server_pool.specs.Orders.{IsOpenOrder, open_at}
pub use Rattle.server_pool.specs.Stepping.{HasStepped, told_as, HasHalted, HasPut}
pub use Rattle.server_pool.specs.declared.pool_shared.PoolStep.{PoolStep}
pub use Rattle.server_pool.proofs.LookupsRun.{next_runs, next_rest, order_goes, put_rest}
pub use Rattle.pool_lookup.proofs.GivenOrderIsOpen.{no_polls, gives_open}
pub use Rattle.kept_responses.specs.declared.entry.Entry.{Entry}
pub use Rattle.resolution.specs.Life.{life_in_seconds}
pub use Rattle.resolution.proofs.FailuresKept.{waits-extend, EndSends-extend, Listed-extend, Walked-extend, Finished-extend}
pub use Rattle.resolution.proofs.Caseless.{both}
pub use Rattle.recursor_types.specs.declared.policy.Policy.{Policy}
pub use Rattle.server_core.specs.Order.{entry_of}
pub use Rattle.server_core.specs.declared.orders.order.Tick.{Tick}
pub use Rattle.pool_lookup.proofs.OutcomeIsTaken.{heard_none, heard_some, heard_sleep, open_has, sleep_has, open_did, keeps, kept_open, kept_has, rests_under, rests_has}
pub use Rattle.dns_core.specs.declared.log.LogEntry.{LogEntry}
pub use Rattle.resolution.specs.Telling.{Logged, moment_of}
pub use Rattle.walk_lookup.specs.LookupResult.{last_of, class_of_failure, classified, IsTold, HasFailedBy, FoundHolds, ComesTo, HasCome, CountsAs}
pub use Rattle.walk_lookup.specs.LogView.{LogView, Advances, seen_at}
pub use Rattle.walk_lookup.specs.Tried.{Began, is_response, told_of, AreHeard, Concluded, Tried, BeganBy, IsTimed, machine_timer}
pub use Rattle.walk_lookup.specs.PendingLookup.{IsAt, PendingHolds, config_at, server_at, IsServerOf, ServersForQuery, IsSentTo, OpenOrderHolds, with_came, is_denial, IsSentOver, MayTake, sent_to, either, aim_of, noted, AreServers, IsWaitedFor, ZoneServers, first_delay_at, MayTakeBy, given_after, first_of, polled_by, IsNumbered, AreNumbered, IsOf, IsStill, WasWaitedFor}
pub use Rattle.walk_lookup.specs.Coming.{answer_at, telling_by, ComesBy, with_found, with_sought, has_more_ends}
pub use Rattle.resolution.specs.Negatives.{AskedAs}
pub use Rattle.resolution.specs.Causes.{is_lookup_error}
pub use Rattle.walk_lookup.specs.declared.lookup_result.LookupResult.{LookupResult}
pub use Rattle.walk_lookup.specs.declared.pending_lookup.PendingLookup.{PendingLookup}
pub use Rattle.walk_lookup.specs.declared.pending_lookup.OrderTarget.{OrderTarget}
pub use Rattle.walk_lookup.specs.declared.pending_lookup.OpenOrder.{OpenOrder}
pub use Rattle.walk_lookup.specs.Remembered.{Telling, telling, with_response, remembered, EntryHolds, CacheHolds, written}
pub use Rattle.walk_lookup.specs.Order.{IsFor, IsGivenUpIn, is_given_up, LogGoesOnIf, LogGoesOn, last_entry, IsPut, seen_with, TellsOutcome, closing_of, last_if, IsLost}
