-- A request joins a lookup, or begins one.
use Rattle.std.proofs.Common.{◌≡◌, ℕ, true, List, Option, Some, None, Result, Ok, Err, IfOk, OnOk, subst}
use Rattle.dns_core.specs.declared.request.DnsRequest.{DnsRequest}
use Rattle.server_pool.specs.OpenLookups.{is_for, open_for, under}
use Rattle.server_pool.specs.declared.open_lookups.open_lookup.OpenLookup.{OpenLookup}
use Rattle.server_pool.specs.Sending.{HasBegun, after_join, SentTo, HasSent}
use Rattle.server_pool.specs.Shared.{Shared}

module _ (pool : ℕ) (servers : List ℕ) (request : DnsRequest) (now : ℕ) (old new : Shared) where
  by_number : (o : Option ℕ) (number : ℕ) → o ≡ open_for pool request old.lookups → SentTo o pool servers request now old new number → HasSent pool servers request now old new number
  by_number o number is s = subst (λ (x : Option ℕ). SentTo x pool servers request now old new number) is s

  pub sent_joined : {E : Type 0} (r : Result ℕ E) (lookup : ℕ) → Some lookup ≡ open_for pool request old.lookups → ((l : OpenLookup) × (under lookup old.lookups ≡ Some l) × (is_for pool request l ≡ true)) → IfOk r (λ n. n ≡ lookup)
      → OnOk r (new ≡ after_join lookup old) → IfOk r (HasSent pool servers request now old new)
  sent_joined (Ok number) lookup is its one joined =
      by_number (Some lookup) number is (one, rw one (record { lookup = its.0; there = its.1; same = its.2; is = joined }))
  sent_joined (Err e) lookup is its one joined = tt

  pub sent_begun : {E : Type 0} (r : Result ℕ E) → None ≡ open_for pool request old.lookups → IfOk r (HasBegun pool servers request now old new) → IfOk r (HasSent pool servers request now old new)
  sent_begun (Ok number) is begun = by_number None number is begun
  sent_begun (Err e) is begun = tt
