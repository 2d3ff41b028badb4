-- The words that several proofs of this crate speak with, in one place.
pub use Rattle.std.proofs.Common.{◌≡◌, ℕ, Bool, true, false, cond, List, [], ◌∷◌, Option, Some, None, Contains, refl, sym, ap, subst, ◌∙◌, ◌≤◌, arith, inl, inr, Result, Ok, Err, IfOk, ◌&&◌, ◌+◌, ◌*◌, IsTrue, IfSome, ◌<◌, ◌↔◌, IsErr, OnErr, ◌-◌, length, nat_lt, option_copied}
pub use Rattle.std.proofs.lemmas.Bool.Decides.{nat_tests}
pub use Rattle.dns_core.specs.Name.{DomainName}
pub use Rattle.dns_core.specs.declared.message.Query.{Query}
pub use Rattle.dns_core.specs.declared.errors.NoMemory.{NoMemory}
pub use Rattle.dns_core.specs.declared.request.Question.{Question}
pub use Rattle.dns_core.specs.declared.net_error.NetError.{NetError}
pub use Rattle.resolution.specs.Names.{candidates, walk, question, last_name, root, is_above}
pub use Rattle.resolution.specs.Ending.{FinishedLookup, is_timeout}
pub use Rattle.resolution.specs.declared.verdict.Verdict.TheVariants.{Pos, Neg, Made}
pub use Rattle.resolution.specs.declared.verdict.Verdict.{Verdict}
pub use Rattle.walk_lookup.specs.LogView.{LogView, Advances}
pub use Rattle.resolution.specs.Walking.{Walked, NoCutSeen, ReachesName, at_any_time, is_cut}
pub use Rattle.walk_response.specs.Answer.{ends_walk}
pub use Rattle.resolution.specs.Negatives.{made_negative}
pub use Rattle.recursor_types.specs.declared.error.RecursorError.TheVariants.{Negative, NoNameServer}
pub use Rattle.recursor_types.specs.declared.reply.Reply.{Reply}
pub use Rattle.walk_tables.specs.Lookup.{LeavesLess, want_after, want_steps, LookupHolds, want_of}
pub use Rattle.recursor_types.specs.declared.error.WalkCause.TheVariants.{NoAddress, Timeout}
pub use Rattle.recursor_walk.specs.Replies.{CameTo, RepliesWith, reply_with, IsReplyKept}
pub use Rattle.recursor_walk.specs.Walk.{IsWalkOutcomeOf, Goes, Recalls, EndsIf, steps_after, Passes, verdict_heard, verdict_found, counting}
pub use Rattle.recursor_walk.specs.declared.walk.WalkOutcome.{WalkOutcome}
pub use Rattle.recursor_walk.specs.SourcedVerdict.{IsUsableFor, from_cache, answerable, ReadsAt}
pub use Rattle.recursor_walk.specs.Way.{WalkComes, Passed, WayHolds, WalkHolds, IsAtServers, LeavesBehind}
pub use Rattle.recursor_walk.specs.declared.walk.Walk.{Walk}
pub use Rattle.recursor_walk.specs.ZoneQuery.{LastHolds, ZoneQueryHolds, SameSite, LeavesFewer}
pub use Rattle.recursor_walk.specs.declared.zone_query.sourced_verdict.SourcedVerdict.{SourcedVerdict}
