-- A world of which the check says yes is well served.
use Rattle.std.proofs.Common.{◌≡◌, ℕ, ◌+◌, ◌<◌, Bool, true, false, List, [], ◌∷◌, length, Option, Some, None, inl, inr, refl, sym, ap, subst, ◌∙◌, arith}
use Rattle.std.specs.Prelude.{nat_lt, ◌&&◌, not}
use Rattle.std.specs.List.{list_all}
use Rattle.std.specs.declared.net.IpAddr.{IpAddr}
use Rattle.std.proofs.lemmas.Bool.Decides.{nat_tests}
use Rattle.dns_core.specs.declared.record.Record.{Record}
use Rattle.resolver_settings.specs.Access.{denies}
use Rattle.resolution.specs.Records.{address}
use Rattle.recursor_types.specs.declared.policy.Policy.{Policy}
use Rattle.resolution.proofs.ElementsFiltered.{Has, Has-from_Contains}
use Rattle.zone_rules.specs.declared.world.Zone.{Zone}
use Rattle.zone_rules.specs.declared.world.World.{World}
use Rattle.world_check.specs.Clauses.{clauses, first_failing}
use Rattle.world_check.specs.Serving.{has_served_root}
use Rattle.world_check.specs.Filters.{is_allowed}
use Rattle.world_check.specs.declared.filters.WorldFilters.{WorldFilters}
use Rattle.world_check.specs.declared.verdict.Verdict.TheVariants.{Yes}
use Rattle.world_facts.specs.Served.{IsServed}
use Rattle.world_facts.specs.Checked.{IsGiven, IsOfScenario}
use Rattle.world_facts.proofs.ElementsThatPass.{halves, all_Has}

-- where none fails, each holds
each_holds : (n : ℕ) (bs : List Bool) → first_failing n bs ≡ Yes → (b : Bool) → Has bs b → b ≡ true
each_holds n [] e b h = elim h [ ]
each_holds n (true ∷ bs) e b (inl same) = sym same
each_holds n (true ∷ bs) e b (inr h) = each_holds (n + 1) bs e b h
each_holds n (false ∷ bs) e b h = cc

-- what is not denied
undenied : (b : Bool) → not b ≡ true → b ≡ false
undenied true e = cc
undenied false e = refl

-- neither filter denies an address that a record holds
allowed_by : (filters : WorldFilters) (r : Record) (ip : IpAddr) → is_allowed filters r ≡ true → address r ≡ Some ip → (denies filters.server ip ≡ false) × (denies filters.answer ip ≡ false)
allowed_by filters r ip h e =
    let each : (not (denies filters.server ip) ≡ true) × (not (denies filters.answer ip) ≡ true) = halves (not (denies filters.server ip)) (not (denies filters.answer ip))
    (sym (ap (λ (o : Option IpAddr). elim o [ None ↦ true | Some i ↦ not (denies filters.server i) && not (denies filters.answer i) ]) e) ∙ h) in
    (undenied (denies filters.server ip) each.0, undenied (denies filters.answer ip) each.1)

-- the verdict yes gives each clause
pub well_served : (policy : Policy) (w : World) (roots : List IpAddr) (filters : WorldFilters) (patience : ℕ)
    → first_failing 1 (clauses w roots filters patience) ≡ Yes → IsGiven policy roots filters patience → IsOfScenario w → IsServed policy w
well_served policy w roots filters patience verdict g s = record {
  rooted = subst (λ (ips : List IpAddr). 0 < length ips) (sym g.roots) g.rooted;
  root = ap (λ (ips : List IpAddr). has_served_root w ips) g.roots ∙ holds _ (inl refl);
  laid_out = holds _ (inr (inl refl));
  delegated = holds _ (inr (inr (inl refl)));
  served = holds _ (inr (inr (inr (inl refl))));
  named = holds _ (inr (inr (inr (inr (inl refl)))));
  allowed = λ r ip held at.
      let each = all_Has (λ (z : Zone). list_all (is_allowed filters) z.records) w.zones held.zone (holds _ (inr (inr (inr (inr (inr (inl refl))))))) (Has-from_Contains w.zones held.zone held.has) in
      let free : (denies filters.server ip ≡ false) × (denies filters.answer ip ≡ false)
      = allowed_by filters r ip (all_Has (is_allowed filters) held.zone.records r each (Has-from_Contains held.zone.records r held.within)) at in
      (g.server ip ∙ free.0, g.answer ip ∙ free.1);
  patient = soon (holds _ (inr (inr (inr (inr (inr (inr (inl refl))))))));
  timed = g.timed;
  internet = s.internet;
  apart = s.apart;
}
  where
    holds : (b : Bool) → Has (clauses w roots filters patience) b → b ≡ true
    holds b h = each_holds 1 (clauses w roots filters patience) verdict b h

    soon : nat_lt w.delay patience ≡ true → w.delay < policy.patience
    soon h = let less : w.delay < patience = grind (arith, nat_tests) in let more = g.patience in omega (arith, less, more)
