-- Who serves a zone, cut into the questions that a plain program asks of one entry at a time.
use Rattle.std.specs.Prelude.{◌≡◌, ℕ, ◌<◌, ◌&&◌, ◌||◌, false, IsTrue, List, Contains, Some}
use Rattle.std.specs.List.{filter_map, list_any}
use Rattle.std.specs.declared.net.ip_addr.IpAddr.{IpAddr}
use Rattle.dns_core.specs.Name.{DomainName}
use Rattle.dns_core.specs.Log.{Log, log_of}
use Rattle.dns_core.specs.declared.message.Query.{Query}
use Rattle.dns_core.specs.declared.message.Message.{Message}
use Rattle.dns_core.specs.declared.record.Record.{Record}
use Rattle.dns_core.specs.declared.log.ToldOutcome.{ToldOutcome}
use Rattle.resolver_settings.specs.Access.{Access, denies}
use Rattle.resolution.specs.Names.{base, question}
use Rattle.resolution.specs.Records.{address, records}
use Rattle.resolution.specs.Class.{class_of}
use Rattle.recursor_types.specs.declared.policy.Policy.{Policy}
use Rattle.resolution.specs.Verdict.{verdict, is_all_denied}
use Rattle.resolution.specs.Serving.{Heard, Serves, IsAddressQuestion, is_delegation, targets, target_below, glue, addresses_under}
use Rattle.resolution_reference.specs.Plain.{apex, passes, kept, left_of, counts_of, holds_for, has_in_answers}
use Rattle.resolution.specs.declared.class.Class.TheVariants.{Positive}
use Rattle.resolution_reference.specs.declared.kept.kept.Kept.{Kept}
use Rattle.resolution_reference.specs.declared.setting.Setting.{Setting}
use Rattle.resolution.specs.declared.verdict.Verdict.TheVariants.{Pos}

abbrev pub log_in : Setting → Log
log_in s = log_of s.log.now

-- Entry j answers the question with the address, under one of the names, or in its answers.
pub data AnswerGives (policy : Policy) (log : Log) : ℕ → IpAddr → List DomainName → Query → Type 0 where
  under : {j moment : ℕ} {ip : IpAddr} {names : List DomainName} {q : Query} {o : ToldOutcome} {z : DomainName} {answer : Message}
      → Heard policy log j q o moment z → verdict policy o q z ≡ Some (Pos answer) → Contains (addresses_under names (records answer)) ip → AnswerGives policy log j ip names q
  anywhere : {j moment : ℕ} {ip : IpAddr} {names : List DomainName} {q : Query} {o : ToldOutcome} {z : DomainName} {m : Message}
      → Heard policy log j q o moment z → class_of o q ≡ Some (Positive m) → is_all_denied (denies policy.answer_filter) m ≡ false
      → Contains (filter_map address m.answers) ip → denies policy.answer_filter ip ≡ false → AnswerGives policy log j ip names q

-- An answer below n to a question for an address of t gives the address.
pub data TargetGives (policy : Policy) (log : Log) : ℕ → IpAddr → List DomainName → DomainName → Type 0 where
  gives : {n j : ℕ} {ip : IpAddr} {names : List DomainName} {t : DomainName} {q : Query}
      → IsAddressQuestion t q → j < n → AnswerGives policy log j ip names q → TargetGives policy log n ip names t

-- A delegation of c gives the address, by what was told below n: beside it, or for one of its servers.
pub data Lists (policy : Policy) (log : Log) : ℕ → IpAddr → DomainName → Message → Type 0 where
  beside : {n : ℕ} {ip : IpAddr} {c : DomainName} {k : Message} → Contains (glue k c) ip → Lists policy log n ip c k
  for_server : {n : ℕ} {ip : IpAddr} {c t : DomainName} {k : Message} → Contains (targets k c) t → TargetGives policy log n ip (targets k c) t → Lists policy log n ip c k

-- Entry i tells such a delegation.
pub data ListedBy (policy : Policy) (log : Log) : ℕ → ℕ → IpAddr → DomainName → Type 0 where
  listed_by : {i n moment : ℕ} {ip : IpAddr} {c z : DomainName} {o : ToldOutcome} {k : Message}
      → Heard policy log i (question c 2) o moment z → verdict policy o (question c 2) z ≡ Some (Pos k) → IsTrue (is_delegation k c) → Lists policy log n ip c k
      → ListedBy policy log i n ip c

-- The teller serves the zone, and what counts of the message there is such a delegation.
pub record ListedFrom (policy : Policy) (log : Log) (ask : ℕ) (teller : IpAddr) (denied : Access) (zone : List (List ℕ)) (m : Message) (n : ℕ) (ip : IpAddr) (cut : DomainName) : Type 0 where
  pub serves : Serves policy log ask teller (apex zone)
  pub counts : IsTrue (counts_of denied zone m)
  pub delegates : IsTrue (is_delegation (left_of denied zone m) cut)
  pub lists : Lists policy log n ip cut (left_of denied zone m)

-- The record is left, names a server of `cut`, and what was told below n gives the address for it.
pub record ServerGives (policy : Policy) (log : Log) (n : ℕ) (ip : IpAddr) (cut : DomainName) (k : Kept) (r : Record) : Type 0 where
  pub left : IsTrue (passes k r)
  pub target : DomainName
  pub names : target_below (base cut) r ≡ Some target
  pub gives : TargetGives policy log n ip (targets (kept k) cut) target

-- The teller serves the zone, and what counts of the answer there has the address under the name of a server, or its answers have it.
pub record GivenFrom (policy : Policy) (log : Log) (ask : ℕ) (teller : IpAddr) (denied : Access) (zone : List (List ℕ)) (m delegation : Message) (cut : DomainName) (ip : IpAddr) : Type 0 where
  pub serves : Serves policy log ask teller (apex zone)
  pub gives : IsTrue ((counts_of denied zone m && list_any (holds_for delegation (base cut) ip) (records (left_of denied zone m))) || has_in_answers denied m ip)
