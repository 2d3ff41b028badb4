-- A write adds one response alone.
use Rattle.std.proofs.Common.{◌≡◌, ◌≤◌, ◌+◌, ◌*◌, ◌-◌, ◌^◌, ℕ, min, suc, Bool, true, false, ◌⊎◌, inl, inr, List, [], ◌∷◌, ◌++◌, take, drop, Option, Some, None, Result, All, Contains, refl, ap, arith}
use Rattle.std.specs.Prelude.{◌==◌, if◌then◌else◌}
use Rattle.std.proofs.lemmas.List.Elements.{All-append, All-push, All-take, All-drop, All-weaker, All-contains, All-contains_itself}
use Rattle.dns_core.specs.declared.message.Query.{Query}
use Rattle.dns_core.specs.declared.message.Message.{Message}
use Rattle.dns_core.specs.declared.net_error.NetError.{NetError}
use Rattle.kept_responses.specs.declared.entry.Entry.{Entry}
use Rattle.kept_responses.specs.Entry.{current_for}
use Rattle.resolver_cache.specs.Life.{life_of, moment_after}
use Rattle.resolver_cache.specs.Placing.{giving_way, without, with_entry}
use Rattle.resolver_cache.specs.Cached.{Cached}
use Rattle.resolver_cache.specs.Cache.{no_later_than, new_expiry, written_with, upserted, KeepsNothing}
use Rattle.resolver_cache.specs.Laws.{IsJustWritten, WritesNoOther}

-- what holds of each entry holds of those that stay
All-without : (P : Entry → Type 0) (es : List Entry) (place : Option ℕ) → All P es → All P (without es place)
All-without P es None all = all
All-without P es (Some i) all =
    All-append P (take i es) (drop (suc i) es) (All-take P i es all) (All-drop P (suc i) es all)

All-with : (P : Entry → Type 0) (es : List Entry) (place : Option ℕ) (e : Entry) (b : Bool) → All P es → P e → All P (if b then es else without es place ++ e ∷ [])
All-with P es place e true all new = all
All-with P es place e false all new = All-push P (without es place) e (All-without P es place all) new

no_later : (o : Option Entry) (moment : ℕ) → no_later_than o moment ≤ moment
no_later None moment = omega arith
no_later (Some e) moment = omega arith

clamped_no_later : (clamp : Bool) (o : Option Entry) (moment : ℕ) → (if clamp then no_later_than o moment else moment) ≤ moment
clamped_no_later true o moment = no_later o moment
clamped_no_later false o moment = omega arith

within_its_life : (es : List Entry) (q : Query) (now : ℕ) (clamp : Bool) (life : ℕ) → new_expiry es q now clamp life ≤ now + life * 1000000
within_its_life es q now clamp life =
    let clamped = clamped_no_later clamp (current_for q now es) (moment_after now life) in
    capped _ (now + life * 1000000) clamped
  where
    capped : (expiry whole : ℕ) → expiry ≤ min whole (2 ^ 64 - 1) → expiry ≤ whole
    capped expiry whole h = omega (arith, h)

by_life : (cache : Cached) (q : Query) (response : Result Message NetError) (source : ℕ) (now : ℕ) (clamp : Bool) (entry : Entry) (o : Option ℕ) → life_of cache.config q.query_type response ≡ o → Contains (written_with cache q response source now clamp o).entries entry → Contains cache.entries entry ⊎ IsJustWritten cache q response source now entry
by_life cache q response source now clamp entry None lives h = inl h
by_life cache q response source now clamp entry (Some life) lives h =
    let es = cache.entries in
    let P : Entry → Type 0 = λ e. Contains es e ⊎ IsJustWritten cache q response source now e in
    let expiry = new_expiry es q now clamp life in
    let new : Entry = record { query = q; response = response; written = now; expiry = expiry; source = source } in
    let kept : All P es = All-weaker (Contains es) P (λ e there. inl there) es (All-contains_itself es) in
    let added : IsJustWritten cache q response source now new = record { question = refl; answer = refl; source = refl; written = refl; life = life; lives = lives; no_longer = within_its_life es q now clamp life } in
    All-contains P (with_entry cache.size new es) entry (All-with P es (giving_way cache.size q es) new (cache.size == 0) kept (inr added)) h

config_of_written : (cache : Cached) (q : Query) (response : Result Message NetError) (source : ℕ) (now : ℕ) (clamp : Bool) (o : Option ℕ) → (written_with cache q response source now clamp o).config ≡ cache.config
config_of_written cache q response source now clamp None = refl
config_of_written cache q response source now clamp (Some life) = refl

size_of_written : (cache : Cached) (q : Query) (response : Result Message NetError) (source : ℕ) (now : ℕ) (clamp : Bool) (o : Option ℕ) → (written_with cache q response source now clamp o).size ≡ cache.size
size_of_written cache q response source now clamp None = refl
size_of_written cache q response source now clamp (Some life) = refl

-- a write leaves the bounds of TTLs
pub upserted-config : (cache : Cached) (q : Query) (response : Result Message NetError) (source : ℕ) (now : ℕ) (clamp : Bool) → (upserted cache q response source now clamp).config ≡ cache.config
upserted-config cache q response source now clamp =
    config_of_written cache q response source now clamp (life_of cache.config q.query_type response)

-- and the size
pub upserted-size : (cache : Cached) (q : Query) (response : Result Message NetError) (source : ℕ) (now : ℕ) (clamp : Bool) → (upserted cache q response source now clamp).size ≡ cache.size
upserted-size cache q response source now clamp =
    size_of_written cache q response source now clamp (life_of cache.config q.query_type response)

same_of_none : (cache : Cached) (q : Query) (response : Result Message NetError) (source now : ℕ) (clamp : Bool) (o : Option ℕ) → (cache.size == 0) ≡ true → written_with cache q response source now clamp o ≡ cache
same_of_none cache q response source now clamp None h = refl
same_of_none cache q response source now clamp (Some life) h =
    let e : Entry = record { query = q; response = response; written = now; expiry = new_expiry cache.entries q now clamp life; source = source } in
    ap (λ (b : Bool). record cache { entries = if b then cache.entries else without cache.entries (giving_way cache.size q cache.entries) ++ e ∷ [] }) h

-- a cache of size 0 stays as it is
pub same_of_size_0 : (cache : Cached) → (cache.size == 0) ≡ true → KeepsNothing cache
same_of_size_0 cache h q response source now clamp =
    same_of_none cache q response source now clamp (life_of cache.config q.query_type response) h

-- each entry after a write was there before, or is what was written
pub one_written : (cache : Cached) (q : Query) (response : Result Message NetError) (source : ℕ) (now : ℕ) (clamp : Bool) (entry : Entry) → Contains (upserted cache q response source now clamp).entries entry → Contains cache.entries entry ⊎ IsJustWritten cache q response source now entry
one_written cache q response source now clamp entry h =
    by_life cache q response source now clamp entry (life_of cache.config q.query_type response) refl h

pub writes_no_other : WritesNoOther
writes_no_other = one_written
