-- What is written into the cache is derived from the log, and stays so.
use Rattle.walk_lookup.proofs.Names.{◌≡◌, ℕ, ◌+◌, ◌≤◌, ⊎_elim, Option, Some, None, Result, Err, Contains, refl, sym, ap, ◌∙◌, arith, ◌==◌, option_and_then, same_Some, All-contains, All-weaker, All-contains_itself, Query, Message, NetError, Cached, Entry, class_of_classified, allows_all, verdict_of_told, life_in_seconds, Verdict, Walked, kept_of, response_in, IsTold, IsShown, EntryHolds, CacheHolds, Telling, written, remembered, Policy, LogView}
use Rattle.std.proofs.Common.{◌*◌}
use Rattle.resolver_cache.specs.Cache.{upserted}
use Rattle.resolver_cache.specs.Life.{life_of}
use Rattle.resolver_cache.specs.Laws.{IsJustWritten}
use Rattle.resolver_cache.proofs.OneWritten.{one_written, upserted-config, upserted-size}
use Rattle.resolution.specs.declared.verdict.Verdict.TheVariants.{Pos, Neg, Made}
use Rattle.resolution.specs.declared.verdict.Cause.TheVariants.{Filter}
use Rattle.dns_core.specs.declared.net_error.NoRecords.{NoRecords}
use Rattle.walk_lookup.proofs.ResponseCounts.{counts-of}
use Rattle.dns_core.specs.declared.net_error.NetError.TheVariants as net
use Rattle.dns_core.specs.declared.net_error.DnsError.TheVariants as dns

-- ---- a response that is written

-- The class was told by a server of the zone to which a walk went down for the question.
pub record TellingHolds (view : LogView) (t : Telling) : Type 0 where
  pub t0 : ℕ
  pub told : IsTold view t0 t.zone t.query t.entry t.at t.class
  pub walked : Walked view.policy view.log t.query t.zone

-- the lives of a verdict and of what it is kept as are one
same-life : (policy : Policy) (q : Query) (v whole : Verdict) (response : Result Message NetError) → IsShown q v whole → kept_of v ≡ Some response
    → life_of policy.ttl_bounds q.query_type response ≡ life_in_seconds policy q.query_type whole
same-life policy q (Pos k) (Pos l) response shown h = sym (ap (λ (m : Message). life_in_seconds policy q.query_type (Pos m)) (sym shown) ∙ ap (life_of policy.ttl_bounds q.query_type) (same_Some _ _ h))
same-life policy q (Neg n) (Neg m) response shown h = sym (ap (λ (d : NoRecords). life_in_seconds policy q.query_type (Neg d)) (sym shown) ∙ ap (life_of policy.ttl_bounds q.query_type) (same_Some _ _ h))
same-life policy q (Neg n) (Made Filter) response shown h =
    sym (ap (life_of policy.ttl_bounds q.query_type) (same_Some _ _ h))
    ∙ ap (λ (d : NoRecords). life_of policy.ttl_bounds q.query_type (Err (net.Dns (dns.NoRecordsFound d)))) shown
same-life policy q (Made cause) whole response shown h = cc
same-life policy q _ _ response shown h = absurd shown

module _ (view : LogView) (cache : Cached) (t : Telling) (holds : CacheHolds view cache)
    (told : TellingHolds view t) where
  -- the entry that is written shows the verdict of the telling
  just-written : (v : Verdict) (response : Result Message NetError) (e : Entry)
      → verdict_of_told allows_all (Some (class_of_classified t.query t.class)) t.zone ≡ Some v → kept_of v ≡ Some response
      → IsJustWritten cache t.query response t.entry t.at e → EntryHolds view e
  just-written v response e is kept w =
      let counts = counts-of view told.t0 t.zone t.query t.entry t.at t.class v told.told is in
      let query : e.query ≡ t.query = w.question in
      let source : e.source ≡ t.entry = w.source in
      let lives : life_in_seconds view.policy t.query.query_type counts.whole ≡ Some w.life =
      sym (same-life view.policy t.query v counts.whole response counts.shown kept) ∙ ap (λ config. life_of config t.query.query_type response) (sym holds.ttl_bounds) ∙ w.lives in
      let expires : e.expiry ≤ t.at + 1000000 * w.life = omega (arith, w.no_longer) in
      rw (query, source) (record {
        zone = t.zone;
        told = counts.outcome;
        moment = t.at;
        whole = counts.whole;
        early = counts.early;
        heard = counts.heard;
        asked = counts.asked;
        counts = counts.counts;
        walked = told.walked;
        shown = v;
        as_shown = counts.shown;
        kept = kept ∙ ap Some (sym w.answer);
        expires = rw lives expires;
      })

  written-holds : (v : Option Verdict) → verdict_of_told allows_all (Some (class_of_classified t.query t.class)) t.zone ≡ v
      → (response : Option (Result Message NetError)) → option_and_then kept_of v ≡ response → CacheHolds view (written cache t response)
  written-holds v counts None h = holds
  written-holds None counts (Some response) h = cc
  written-holds (Some v) counts (Some response) kept = record {
    size = upserted-size cache t.query response t.entry t.at (t.query.query_type.code == 2) ∙ holds.size;
    ttl_bounds = upserted-config cache t.query response t.entry t.at (t.query.query_type.code == 2) ∙ holds.ttl_bounds;
    entries =
        let new = upserted cache t.query response t.entry t.at (t.query.query_type.code == 2) in
        All-weaker (Contains new.entries) (EntryHolds view)
        (λ e has. ⊎_elim (λ old. All-contains (EntryHolds view) cache.entries e holds.entries old)
        (λ w. just-written v response e counts kept w)
        (one_written cache t.query response t.entry t.at (t.query.query_type.code == 2) e has))
        new.entries (All-contains_itself new.entries);
  }

  -- the cache with what was told
  pub remembered-holds : CacheHolds view (remembered cache (Some t))
  remembered-holds = written-holds _ refl (response_in t.zone t.query t.class) refl
