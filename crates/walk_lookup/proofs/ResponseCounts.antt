-- What a response that was told to a lookup counts for.
use Rattle.walk_lookup.proofs.Names.{◌≡◌, ℕ, Option, Some, ap, ◌∙◌, ◌≤◌, Result, Ok, Err, IfOk, IfErr, DomainName, Query, Message, DnsError, NetError, ToldOutcome, class_of_classified, allows_all, verdict, verdict_of_told, Heard, Class, Verdict, IsShown, AskedAs, IsTold, CountsAs, LogView}
use Rattle.walk_response.specs.Response.{error_of}
use Rattle.walk_response.proofs.FilteredCounts.{left_shown}
use Rattle.resolver_settings.specs.Access.{denies as access_denies}

-- ---- what counts

-- A response was told that counts so, and is shown so.
pub record Counts (view : LogView) (t0 : ℕ) (zone : DomainName) (q : Query) (entry at : ℕ) (v : Verdict) : Type 0 where
  pub outcome : ToldOutcome
  pub whole : Verdict
  pub early : entry ≤ view.greatest
  pub heard : Heard view.policy view.log entry q outcome at zone
  pub asked : AskedAs view.log entry q
  pub late : t0 ≤ at
  pub counts : verdict view.policy outcome q zone ≡ Some whole
  pub shown : IsShown q v whole

-- the verdict of a class is that of what was told
pub counts-of : (view : LogView) (t0 : ℕ) (zone : DomainName) (q : Query) (entry at : ℕ) (class : Result Message DnsError)
    (v : Verdict) → IsTold view t0 zone q entry at class
    → verdict_of_told allows_all (Some (class_of_classified q class)) zone ≡ Some v → Counts view t0 zone q entry at v
counts-of view t0 zone q entry at class v h is =
    let shown = left_shown (access_denies view.policy.answer_filter) q h.response class zone v h.left is in
    record {
      outcome = h.outcome;
      whole = shown.0;
      early = h.early;
      heard = h.heard;
      asked = h.asked;
      late = h.late;
      counts = ap (λ (c : Option Class). verdict_of_told (access_denies view.policy.answer_filter) c zone) h.is ∙ shown.1;
      shown = shown.2;
    }

-- it counts as what is computed of it
pub counts-as : (zone : DomainName) (q : Query) (class : Result Message DnsError) (r : Result Verdict NetError)
    → IfOk r (λ v. verdict_of_told allows_all (Some (class_of_classified q class)) zone ≡ Some v) → IfErr r (λ e. error_of (class_of_classified q class) ≡ Some e) → CountsAs zone q class r
counts-as zone q class (Ok v) ok err = ok
counts-as zone q class (Err e) ok err = err
