-- What is read is of a current entry.
use Rattle.std.proofs.Common.{◌≡◌, ℕ, ◌≤◌, suc, Bool, true, false, cond, List, [], ◌∷◌, Option, Some, None, Result, All, Contains, refl, sym, ap, ◌∙◌, arith}
use Rattle.std.specs.Prelude.{find, if◌then◌else◌}
use Rattle.std.specs.Option.{option_map}
use Rattle.std.proofs.lemmas.List.Elements.{All-contains}
use Rattle.std.proofs.lemmas.Bool.{leb-true}
use Rattle.dns_core.specs.declared.message.Query.{Query}
use Rattle.dns_core.specs.declared.message.Message.{Message}
use Rattle.dns_core.specs.declared.net_error.NetError.{NetError}
use Rattle.kept_responses.specs.declared.entry.Entry.{Entry}
use Rattle.kept_responses.specs.Entry.{is_for, is_current, if_current}
use Rattle.resolver_cache.specs.Life.{seconds_between}
use Rattle.kept_responses.specs.Lowering.{lowered}
use Rattle.resolver_cache.specs.Cached.{Cached}
use Rattle.resolver_cache.specs.Laws.{IsReadFrom, ReadIsCurrent}

pub record IsFound {X : Type 0} (p : X → Bool) (xs : List X) (x : X) : Type 0 where
  pub there : Contains xs x
  pub passes : p x ≡ true

found_at : {X : Type 0} (p : X → Bool) (x : X) (xs : List X) (e : X) (b : Bool) → p x ≡ b → (find p xs ≡ Some e → IsFound p xs e) → cond b (Some x) (find p xs) ≡ Some e → IsFound p (x ∷ xs) e
found_at p x xs e true passes rest h =
    let same : x ≡ e = cc in
    record { there = (0, omega arith, same); passes = ap p (sym same) ∙ passes }
found_at p x xs e false passes rest h =
    let later = rest h in
    record { there = (suc later.there.0, omega (arith, later.there.1), later.there.2); passes = later.passes }

pub first_found : {X : Type 0} (p : X → Bool) (xs : List X) (e : X) → find p xs ≡ Some e → IsFound p xs e
first_found p [] e h = cc
first_found p (x ∷ xs) e h = found_at p x xs e (p x) refl (first_found p xs e) h

by_moment : (cache : Cached) (q : Query) (now : ℕ) (response : Result Message NetError) (e : Entry) (b : Bool) → All (λ o. o.written ≤ now) cache.entries → IsFound (is_for q) cache.entries e → is_current now e ≡ b → option_map (λ o. lowered (seconds_between o.written now) o.response) (if b then Some e else None) ≡ Some response → IsReadFrom cache q now response
by_moment cache q now response e true begun found current h = record {
  entry = e;
  kept = found.there;
  question = found.passes;
  begun = All-contains (λ o. o.written ≤ now) cache.entries e begun found.there;
  current = leb-true now e.expiry current;
  reads = cc;
}
by_moment cache q now response e false begun found current h = cc

by_entry : (cache : Cached) (q : Query) (now : ℕ) (response : Result Message NetError) (o : Option Entry) → All (λ e. e.written ≤ now) cache.entries → find (is_for q) cache.entries ≡ o → option_map (λ e. lowered (seconds_between e.written now) e.response) (if_current now o) ≡ Some response → IsReadFrom cache q now response
by_entry cache q now response None begun found h = cc
by_entry cache q now response (Some e) begun found h =
    by_moment cache q now response e (is_current now e) begun (first_found (is_for q) cache.entries e found) refl h

pub read_is_current : ReadIsCurrent
read_is_current cache q now response begun h =
    by_entry cache q now response (find (is_for q) cache.entries) begun refl h
