use Rattle.std.proofs.Common.{◌≡◌, ◌<◌, ℕ, ◌+◌, ◌*◌}
use Rattle.std.specs.Prelude.{drop, slice_index_or}
use Rattle.dns_core.specs.declared.message.Query.{Query}
use Rattle.dns_core.specs.declared.record.Record.{Record}
use Rattle.resolution.specs.Serving.{targets, IsAddressQuestion}
use Rattle.resolution_reference.specs.Plain.{apex, kept}
use Rattle.resolution_reference.specs.PlainServing.{log_in, AnswerGives, ListedBy, ListedFrom, ServerGives, GivenFrom}
use Rattle.resolution_reference.proofs.setting.Setting.+serving.Given as goal

abbrev pub decreases-serves_apex : goal.decreases-serves_apex
decreases-serves_apex l = 10 * l.n + 9

abbrev pub decreases-is_listed_by : goal.decreases-is_listed_by
decreases-is_listed_by l = 10 * l.n + 8

abbrev pub decreases-is_listed_from : goal.decreases-is_listed_from
decreases-is_listed_from l = 10 * l.n + 7

abbrev pub decreases-lists : goal.decreases-lists
decreases-lists l = 10 * l.n + 6

abbrev pub decreases-any_server : goal.decreases-any_server
decreases-any_server l = 10 * l.n + 5

abbrev pub decreases-server_gives : goal.decreases-server_gives
decreases-server_gives l = 10 * l.n + 4

abbrev pub decreases-target_gives : goal.decreases-target_gives
decreases-target_gives l = 10 * l.n + 3

abbrev pub decreases-answer_gives : goal.decreases-answer_gives
decreases-answer_gives l = 10 * l.j + 8

abbrev pub decreases-is_given_from : goal.decreases-is_given_from
decreases-is_given_from l = 10 * l.ask + 10

-- no earlier entry lists the address
abbrev pub invariant-serves_apex-entries : goal.invariant-serves_apex-entries
invariant-serves_apex-entries l = (k : ℕ) → k < l.i → ListedBy l.self.policy.now (log_in l.self) k l.n l.ip (apex l.zone) → ⊥

abbrev pub invariant-is_listed_by-cuts : goal.invariant-is_listed_by-cuts
invariant-is_listed_by-cuts l = (k : ℕ) → k < l.cut → ListedFrom l.self.policy.now (log_in l.self) l.told.ask l.told.teller l.self.policy.now.answer_filter (drop k l.zone) l.told.message.now l.n l.ip (apex l.zone) → ⊥

abbrev pub invariant-any_server-servers : goal.invariant-any_server-servers
invariant-any_server-servers l = (k : ℕ) (r : Record) → k < l.r-index → slice_index_or l.rs k r ≡ r → ServerGives l.self.policy.now (log_in l.self) l.n l.ip (apex l.zone) l.kept r → ⊥

abbrev pub invariant-target_gives-answers : goal.invariant-target_gives-answers
invariant-target_gives-answers l = (k : ℕ) (q : Query) → k < l.j → IsAddressQuestion l.target q → AnswerGives l.self.policy.now (log_in l.self) k l.ip (targets (kept l.kept) (apex l.zone)) q → ⊥

abbrev pub invariant-answer_gives-cuts : goal.invariant-answer_gives-cuts
invariant-answer_gives-cuts l = (k : ℕ) → k < l.cut → GivenFrom l.self.policy.now (log_in l.self) l.told.ask l.told.teller l.self.policy.now.answer_filter (drop k l.labels) l.told.message.now (kept l.kept) (apex l.zone) l.ip → ⊥
