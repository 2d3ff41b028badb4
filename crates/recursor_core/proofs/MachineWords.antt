-- The words that several proofs of this crate speak with, in one place.
pub use Rattle.std.proofs.Common.{◌≡◌, ◌<◌, ℕ, zero, suc, List, [], ◌∷◌, length, get_or, Some, arith, ap, slice_get, ◌≤◌, ◌+◌, ◌++◌, All, ◌⊎◌, inl, inr, ⊎_elim, Option, None, Result, Ok, Err, refl, sym, ◌∙◌, subst, Bool, true, false, max, ◌≢◌, IfOk, vec_len}
pub use Rattle.std.specs.Global.{Box}
pub use Rattle.std.proofs.Math.ListN.{set}
pub use Rattle.std.specs.Prelude.{IsSome, option_copied, IsTrue}
pub use Rattle.std.proofs.lemmas.List.Elements.{All-set, All-weaker, All-push}
pub use Rattle.std.proofs.lemmas.List.Sums.{sum_by-set}
pub use Rattle.std.specs.Option.{option_map}
pub use Rattle.std.proofs.lemmas.Option.{get_or_from_slice_get, slice_get_within, slice_get_read, same_Some}
pub use Rattle.std.proofs.lemmas.List.{length-set, length_push}
pub use Rattle.std.proofs.lemmas.Result.{IfOk-from_err, IfOk-weaker}
pub use Rattle.dns_core.specs.Log.{Log, Extends}
pub use Rattle.dns_core.specs.declared.request.Question.{Question}
pub use Rattle.dns_core.specs.declared.errors.NoMemory.{NoMemory}
pub use Rattle.walk_lookup.specs.LogView.{LogView, seen_at, Advances}
pub use Rattle.recursor_walk.specs.Way.{CanWalk}
pub use Rattle.recursor_question.specs.Resolving.{SameBegun, open_of}
pub use Rattle.recursor_types.specs.declared.policy.Policy.{Policy}
pub use Rattle.recursor_question.specs.declared.resolving.Resolution.{Resolution}
pub use Rattle.walk_tables.specs.Pools.{PoolsHold, IsStepAt}
pub use Rattle.walk_lookup.specs.Remembered.{CacheHolds}
pub use Rattle.walk_lookup.proofs.LookupAdvances.{cache-later, later-by}
pub use Rattle.walk_tables.proofs.PoolsAdvance.{pools-later}
pub use Rattle.recursor_question.proofs.QuestionAdvances.{resolution-later}
pub use Rattle.order_carrier.proofs.LogGrowsByCalls.{Extends-refl}
pub use Rattle.resolver_cache.specs.Cached.{Cached}
pub use Rattle.recursor_types.specs.Policy.{with_patience}
pub use Rattle.walk_lookup.specs.Order.{IsNext, IsPut, last_entry, seen_with}
pub use Rattle.server_core.specs.declared.orders.order.After.{After}
pub use Rattle.recursor_core.specs.Derived.{seen_by, Derived, KeptHolds}
pub use Rattle.recursor_core.specs.Machine.{kept_in, Begun, begun_of, begun_at, IsOneMore, open_in, StepFor, ReplyGiven, StepGives, SameCore, need_in}
pub use Rattle.recursor_core.specs.declared.machine.resolutions.RecursorCore.{RecursorCore}
pub use Rattle.recursor_core.specs.Plays.{open_play, open_plays, Begins, BeginsIf, BeginsAt, ReplyOf}
pub use Rattle.recursor_core.specs.declared.machine.plays.QuestionState.{QuestionState}
pub use Rattle.recursor_types.specs.declared.reply.Reply.{Reply}
pub use Rattle.recursor_question.specs.declared.steps.Step.{Step}
