-- What is read from the cache stands for the question that reads it.
use Rattle.recursor_walk.proofs.QueryWords.{◌≡◌, ℕ, ◌+◌, ◌*◌, ◌≤◌, Bool, true, false, cond, ◌&&◌, Option, Some, None, Result, Ok, IsTrue, IfSome, refl, sym, ap, subst, inl, inr, arith, ◌==◌, IsSomeAnd, option_and_then, option_map, first_so, second_so, same_Some, All-contains, same_names, DomainName, Log, Query, Message, NetError, lowered, lowered_message, lowered_denial, same_query, Fresh, life_in_seconds, Base, Verdict, Pos, Neg, Made, Filter, NoRecords, counted_for, from_cache, may_answer, answerable, IsOwnVerdict, IsUsableFor, Answers, IsRecalled, LogView, AskedAs, IsShown, SameVerdict, ShowsAsked, same_query-refl}
use Rattle.recursor_walk.specs.declared.zone_query.sourced_verdict.SourcedVerdict.{SourcedVerdict}
use Rattle.resolver_cache.specs.Life.{seconds_between}
use Rattle.kept_responses.specs.Entry.{is_same_question, current_for}
use Rattle.resolver_cache.specs.Cached.{Cached}
use Rattle.resolver_cache.specs.Cache.{found_for}
use Rattle.resolver_cache.specs.Laws.{IsFoundIn}
use Rattle.kept_responses.specs.declared.entry.Entry.{Entry}
use Rattle.kept_responses.specs.declared.entry.CachedResponse.{CachedResponse}
use Rattle.resolver_cache.proofs.FoundThere.{found_there}
use Rattle.resolution.proofs.Caseless.{Base-same, both, same_through}
use Rattle.resolution.proofs.WalksCaseless.{Walked-same}
use Rattle.walk_response.specs.Kept.{kept_of, verdict_kept}
use Rattle.walk_lookup.specs.Remembered.{EntryHolds, CacheHolds}
use Rattle.recursor_walk.proofs.TimelyForEarlier.{some-weaker}
use Rattle.recursor_walk.proofs.SameButTtls.{lower_message, lower_denial}

-- the same question for the cache is the same question
same_question : (a b : Query) → is_same_question a b ≡ true → same_query a b ≡ true
same_question a b h =
    let grouped : ((a.query_type.code == b.query_type.code && a.query_class.code == b.query_class.code) && same_names a.name b.name) ≡ true = h in
    let first = first_so (a.query_type.code == b.query_type.code && a.query_class.code == b.query_class.code) _ grouped in
    let names = second_so (a.query_type.code == b.query_type.code && a.query_class.code == b.query_class.code) _ grouped in
    let types = first_so (a.query_type.code == b.query_type.code) _ first in
    let classes = second_so (a.query_type.code == b.query_type.code) _ first in
    both (same_names a.name b.name && a.query_type.code == b.query_type.code) _ (both (same_names a.name b.name) _ names types) classes

-- what is read of a verdict that was kept as it is shown is the same but for TTLs, and answers only where that one may
record ReadsAs (q : Query) (whole v : Verdict) : Type 0 where
  same : SameVerdict q v whole
  own : (view : LogView) (t0 : ℕ) (p : Query) (zone : DomainName) (moment : ℕ) → IsTrue (may_answer v) → IsOwnVerdict view t0 p zone moment whole
  asked : (log : Log) (i : ℕ) (p : Query) → AskedAs log i q → ShowsAsked log i p v whole

reads_as : (q : Query) (n : ℕ) (whole shown v : Verdict) (response : Result Message NetError) → IsShown q shown whole → kept_of shown ≡ Some response
    → verdict_kept (lowered n response) ≡ Some v → ReadsAs q whole v
reads_as q n (Pos l) (Pos k) v response shown kept h =
    subst (ReadsAs q (Pos l)) (same_Some _ _ (rw (← same_Some _ _ kept) at h))
    (subst (λ (m : Message). ReadsAs q (Pos m) (Pos (lowered_message n k))) shown (record { same = lower_message n k; own = λ view t0 p zone moment may. inl may; asked = λ log i p asked. tt }))
reads_as q n (Neg e) (Neg d) v response shown kept h =
    subst (ReadsAs q (Neg e)) (same_Some _ _ (rw (← same_Some _ _ kept) at h))
    (subst (λ (x : NoRecords). ReadsAs q (Neg x) (Neg (lowered_denial n d))) shown (record { same = lower_denial n d; own = λ view t0 p zone moment may. tt; asked = λ log i p asked. tt }))
reads_as q n (Made Filter) (Neg d) v response shown kept h =
    subst (ReadsAs q (Made Filter)) (same_Some _ _ (rw (← same_Some _ _ kept) at h))
    (record {
      same = record { first = q; same = same_query-refl q; is = ap (lowered_denial n) shown };
      own = λ view t0 p zone moment may. tt;
      asked = λ log i p asked. subst (λ (x : NoRecords). AskedAs log i x.query) (sym shown) asked;
    })
reads_as q n whole (Made cause) v response shown kept h = cc
reads_as q n _ _ v response shown kept h = absurd shown

-- what is the same for one spelling of a question is so for another
respelled : (a b : Query) (v whole : Verdict) → same_query a b ≡ true → SameVerdict a v whole → SameVerdict b v whole
respelled a b (Neg n) (Made Filter) same h = record { first = h.first; same = same_through a b same h.first h.same; is = h.is }
respelled a b _ _ same h = h

module _ (view : LogView) (t0 : ℕ) (cache : Cached) (q : Query) (begun : t0 ≤ view.moment) (holds : CacheHolds view cache) where
  -- an entry that is current was told within its life
  fresh-of : (e : Entry) (moment : ℕ) (whole : Verdict) → view.moment ≤ e.expiry
      → IsSomeAnd (life_in_seconds view.policy e.query.query_type whole) (λ life. e.expiry ≤ moment + 1000000 * life)
      → Fresh view.policy t0 moment e.query whole
  fresh-of e moment whole current expires =
      inr (some-weaker (λ life. e.expiry ≤ moment + 1000000 * life) (λ life. t0 ≤ moment + 1000000 * life) (λ life h. omega (arith, begun, current, h))
      (life_in_seconds view.policy e.query.query_type whole) expires)

  -- what an entry for the question tells
  by-entry : (f : CachedResponse) (v : Verdict) → IsFoundIn cache q view.moment f → verdict_kept f.response ≡ Some v
      → IsRecalled view t0 q (record { entry = f.source; verdict = v })
  by-entry f v found h =
      let e = found.entry in
      let held : EntryHolds view e = All-contains (EntryHolds view) cache.entries e holds.entries found.kept in
      let same : same_query e.query q ≡ true = same_question e.query q found.question in
      let base : Base view.policy view.log t0 e.query e.source held.zone held.whole = record {
        told = held.told;
        moment = held.moment;
        heard = held.heard;
        counts = held.counts;
        fresh = fresh-of e held.moment held.whole found.current held.expires;
      } in
      let reads = reads_as e.query (seconds_between e.written view.moment) held.whole held.shown v e.response held.as_shown held.kept
      (subst (λ (r : Result Message NetError). verdict_kept r ≡ Some v) found.reads h) in
      let stands : IsUsableFor view t0 q e.source v = record {
        zone = held.zone;
        whole = held.whole;
        early = held.early;
        base = Base-same e.query q same base;
        walked = Walked-same view.policy view.log e.query q held.zone same held.walked;
        same = respelled e.query q v held.whole same reads.same;
        asked = reads.asked view.log e.source q held.asked;
      } in
      subst (λ (s : ℕ). IsRecalled view t0 q (record { entry = s; verdict = v })) (sym found.source)
      (record { stands = stands; own = reads.own view t0 q held.zone stands.base.moment })

  -- what was found, if anything
  by-found : (o : Option CachedResponse) → found_for cache q view.moment ≡ o → (c : SourcedVerdict) → option_and_then counted_for o ≡ Some c
      → IsRecalled view t0 q c
  by-found None is c h = cc
  by-found (Some f) is c h = by-verdict (verdict_kept f.response) refl h
    where
      by-verdict : (v : Option Verdict) → verdict_kept f.response ≡ v
          → option_map (λ (x : Verdict). let made : SourcedVerdict = record { entry = f.source; verdict = x } in made) v ≡ Some c → IsRecalled view t0 q c
      by-verdict None e k = cc
      by-verdict (Some x) e k = subst (IsRecalled view t0 q) (same_Some _ _ k) (by-entry f x (found_there cache q view.moment f is) e)

  -- what the cache has for a question stands
  pub recalled-stands : (c : SourcedVerdict) → from_cache cache q view.moment ≡ Some c → IsRecalled view t0 q c
  recalled-stands c h = by-found (found_for cache q view.moment) refl c h

-- what a message reads as that the cache has for a question
abbrev pub counted-kept : ℕ → Entry → Message → SourcedVerdict
counted-kept now e m = record { entry = e.source; verdict = Pos (lowered_message (seconds_between e.written now) m) }

pub kept-recalled : (cache : Cached) (q : Query) (now : ℕ) (e : Entry) (m : Message) → current_for q now cache.entries ≡ Some e → e.response ≡ Ok m
    → from_cache cache q now ≡ Some (counted-kept now e m)
kept-recalled cache q now e m here is =
    let n = seconds_between e.written now in
    let read : counted_for (record { response = lowered n e.response; source = e.source }) ≡ Some (counted-kept now e m) =
    subst (λ (r : Result Message NetError). counted_for (record { response = lowered n r; source = e.source }) ≡ Some (counted-kept now e m)) (sym is) refl in
    subst (λ (o : Option Entry). option_and_then counted_for (option_map
    (λ (x : Entry). let f : CachedResponse = record { response = lowered (seconds_between x.written now) x.response; source = x.source } in f) o) ≡ Some (counted-kept now e m)) (sym here) read

-- an authoritative message that the cache has for a question, as it reads, answers it
pub kept-answers : (view : LogView) (t0 : ℕ) (cache : Cached) (q : Query) → t0 ≤ view.moment → CacheHolds view cache
    → (e : Entry) (m : Message) → current_for q view.moment cache.entries ≡ Some e → e.response ≡ Ok m → m.authoritative ≡ true
    → Answers view t0 q e.source (Pos (lowered_message (seconds_between e.written view.moment) m))
kept-answers view t0 cache q begun holds e m here is may =
    let stands = recalled-stands view t0 cache q begun holds (counted-kept view.moment e m) (kept-recalled cache q view.moment e m here is) in
    record { stands = stands.stands; own = stands.own may }

-- what was read from the cache stands, if anything was
pub recalled-for : (view : LogView) (t0 : ℕ) (cache : Cached) (q : Query) (found : Option SourcedVerdict) → t0 ≤ view.moment
    → CacheHolds view cache → found ≡ from_cache cache q view.moment → IfSome found (IsRecalled view t0 q)
recalled-for view t0 cache q None begun holds is = tt
recalled-for view t0 cache q (Some c) begun holds is = recalled-stands view t0 cache q begun holds c (sym is)

-- what may be answered of it answers the question that was looked for
pub recalled-answers : (view : LogView) (t0 : ℕ) (p q : Query) (found : Option SourcedVerdict) (c : SourcedVerdict) → p ≡ q → IfSome found (IsRecalled view t0 p)
    → answerable found ≡ Some c → Answers view t0 q c.entry c.verdict
recalled-answers view t0 p q None c same stands is = cc
recalled-answers view t0 p q (Some d) c same stands is = by (may_answer d.verdict) refl is
  where
    by : (b : Bool) → may_answer d.verdict ≡ b → cond b (Some d) None ≡ Some c → Answers view t0 q c.entry c.verdict
    by true may same_one =
        subst (λ (x : SourcedVerdict). Answers view t0 q x.entry x.verdict) (same_Some _ _ same_one)
        (subst (λ (x : Query). Answers view t0 x d.entry d.verdict) same (record { stands = stands.stands; own = stands.own may }))
    by false may none = cc
