-- What is found is of a current entry, with its source.
use Rattle.std.proofs.Common.{◌≡◌, ℕ, Bool, true, false, Option, Some, None, refl, sym, ap}
use Rattle.std.specs.Prelude.{find, if◌then◌else◌}
use Rattle.std.specs.Option.{option_map}
use Rattle.std.proofs.lemmas.Bool.{leb-true}
use Rattle.dns_core.specs.declared.message.Query.{Query}
use Rattle.kept_responses.specs.declared.entry.Entry.{Entry}
use Rattle.kept_responses.specs.declared.entry.CachedResponse.{CachedResponse}
use Rattle.kept_responses.specs.Entry.{is_for, is_current, if_current}
use Rattle.resolver_cache.specs.Life.{seconds_between}
use Rattle.kept_responses.specs.Lowering.{lowered}
use Rattle.resolver_cache.specs.Cached.{Cached}
use Rattle.resolver_cache.specs.Cache.{found_for}
use Rattle.resolver_cache.specs.Laws.{IsFoundIn}
use Rattle.resolver_cache.proofs.CurrentRead.{IsFound, first_found}

abbrev shown : ℕ → Entry → CachedResponse
shown now e = record { response = lowered (seconds_between e.written now) e.response; source = e.source }

by_moment : (cache : Cached) (q : Query) (now : ℕ) (f : CachedResponse) (e : Entry) (b : Bool) → IsFound (is_for q) cache.entries e → is_current now e ≡ b → option_map (shown now) (if b then Some e else None) ≡ Some f → IsFoundIn cache q now f
by_moment cache q now f e true found current h =
    let same : shown now e ≡ f = cc in
    record {
      entry = e;
      kept = found.there;
      question = found.passes;
      current = leb-true now e.expiry current;
      reads = sym (ap (λ (r : CachedResponse). r.response) same);
      source = sym (ap (λ (r : CachedResponse). r.source) same);
    }
by_moment cache q now f e false found current h = cc

by_entry : (cache : Cached) (q : Query) (now : ℕ) (f : CachedResponse) (o : Option Entry) → find (is_for q) cache.entries ≡ o → option_map (shown now) (if_current now o) ≡ Some f → IsFoundIn cache q now f
by_entry cache q now f None found h = cc
by_entry cache q now f (Some e) found h =
    by_moment cache q now f e (is_current now e) (first_found (is_for q) cache.entries e found) refl h

pub found_there : (cache : Cached) (q : Query) (now : ℕ) (f : CachedResponse) → found_for cache q now ≡ Some f → IsFoundIn cache q now f
found_there cache q now f h = by_entry cache q now f (find (is_for q) cache.entries) refl h
