-- The words that several proofs of this crate speak with, in one place.
pub use Rattle.std.proofs.Common.{◌≡◌, ℕ, Bool, true, false, cond, List, [], ◌∷◌, ◌++◌, Option, Some, None, Contains, refl, sym, ap, subst, ◌∙◌, ◌≤◌, arith, inl, inr, Result, Ok, Err, IfOk, ◌&&◌, ◌==◌, not, find, filter, if◌then◌else◌, is_none, is_some, ◌+◌, ◌*◌, ⊎_elim, IsSomeAnd, map, option_map, IsTrue, IfSome, option_and_then, ◌<◌, ◌↔◌, ◌-◌, length}
pub use Rattle.std.proofs.lemmas.Option.{same_Some, none-some}
pub use Rattle.std.proofs.lemmas.List.Elements.{filter-append, All-contains, All-weaker, All-contains_itself, recursion_from_All}
pub use Rattle.std.specs.Cmp.{second_so, first_so}
pub use Rattle.std.specs.declared.net.ip_addr.IpAddr.{IpAddr}
pub use Rattle.std.specs.List.{last_or, AllZip}
pub use Rattle.dns_core.specs.Name.{DomainName, same_names}
pub use Rattle.dns_core.specs.Log.{Log}
pub use Rattle.dns_core.specs.declared.message.Query.{Query}
pub use Rattle.dns_core.specs.declared.message.Message.{Message}
pub use Rattle.dns_core.specs.declared.record.Record.{Record}
pub use Rattle.dns_core.specs.declared.request.Question.{Question}
pub use Rattle.dns_core.specs.declared.net_error.NoRecords.{NoRecords}
pub use Rattle.dns_core.specs.declared.net_error.ForwardNsData.{ForwardNsData}
pub use Rattle.dns_core.specs.declared.net_error.NetError.{NetError}
pub use Rattle.resolution.specs.Names.{candidates, walk, question, last_name, same_query, root, base, is_above, is_root}
pub use Rattle.resolution.specs.Serving.{is_delegation, glue, allowed, Serves, Delegates}
pub use Rattle.resolution.specs.Answering.{Base, IsOwn}
pub use Rattle.resolution.specs.Ending.{FinishedLookup, LookupTiming, EndSends}
pub use Rattle.resolution.specs.declared.verdict.Verdict.TheVariants.{Pos, Neg, Made}
pub use Rattle.resolution.specs.declared.verdict.Verdict.{Verdict}
pub use Rattle.resolution.specs.declared.verdict.Cause.TheVariants.{Filter, Zone}
pub use Rattle.resolution.proofs.SameDelegations.{Same-is_delegation, Same-glue, Same-strip}
pub use Rattle.resolution.specs.Same.{Same, SameRecord, SameRecords}
pub use Rattle.walk_lookup.specs.LogView.{LogView, Advances}
pub use Rattle.walk_lookup.specs.Tried.{Concluded, machine_timer}
pub use Rattle.resolution.specs.Walking.{Walked, ReachesName, is_cut}
pub use Rattle.resolution.proofs.Sameness.{Same-refl, SameRecords-refl}
pub use Rattle.resolution.specs.Negatives.{SameIfAny, SameReferral, SameReferrals, SameNegative, IsMadeFor, AskedAs, received_negative, made_negative}
pub use Rattle.resolution.specs.Causes.{RestsOn, IsNegative, IsReferral, LookupFailed, NoServerFound, CauseOf}
pub use Rattle.resolution.specs.Causes.IsAnsweredBy.{itself, on_the_way}
pub use Rattle.resolution.specs.Causes.IsNegative.{received, made}
pub use Rattle.resolution.specs.Causes.IsReferral.{referred}
pub use Rattle.resolution.specs.Theorem.{AnswerIsSound, OutcomeIsSound}
pub use Rattle.resolution.proofs.SoundOutcomes.{error-sound, outcome-sound, outcome-carried}
pub use Rattle.resolution.proofs.NoLinks.{leads-here, leads-anywhere}
pub use Rattle.walk_response.specs.Shown.{IsShown, nothing_left_for, left_of_class}
pub use Rattle.walk_response.specs.Answer.{told_negative, ends_walk, outcome_of}
pub use Rattle.recursor_types.specs.declared.error.RecursorError.{RecursorError}
pub use Rattle.recursor_types.specs.declared.error.RecursorError.TheVariants.{Negative, ForwardNS, Net}
pub use Rattle.recursor_types.specs.declared.reply.Reply.{Reply}
pub use Rattle.walk_lookup.proofs.SentInLog.{same_query-refl}
pub use Rattle.walk_response.proofs.RunsOfLookups.{answer_whole, run_later}
pub use Rattle.recursor_types.specs.declared.policy.Policy.{Policy}
pub use Rattle.recursor_types.specs.Policy.{with_patience}
pub use Rattle.resolution.specs.Life.{Fresh, life_in_seconds}
pub use Rattle.walk_lookup.proofs.LookupAdvances.{below-greater, given-is, walked-on, for-on, concluded-later, asked-kept}
pub use Rattle.recursor_types.specs.declared.error.AuthorityData.{AuthorityData}
pub use Rattle.recursor_types.specs.declared.error.WalkCause.{WalkCause}
pub use Rattle.kept_responses.specs.Lowering.{lowered_record, lowered_message, lowered_delegation, lowered_denial, lowered}
pub use Rattle.recursor_walk.specs.Replies.{OutcomeCame, CameTo, ErrorCame, HadMemory, RepliesSo, Replied}
pub use Rattle.recursor_walk.specs.SourcedVerdict.{IsUsableFor, Answers, IsOwnVerdict, counted_for, from_cache, may_answer, answerable, IsRecalled}
pub use Rattle.recursor_walk.specs.SameTold.{SameNoRecords, SameVerdict, ShowsAsked}
