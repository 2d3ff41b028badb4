-- The world of one zone serves well.
use Rattle.std.proofs.Common.{◌≡◌, ℕ, zero, suc, [], inl, inr, refl, sym, ap, subst, ◌∙◌, arith}
use Rattle.dns_core.specs.declared.record.Record.{Record}
use Rattle.dns_core.specs.declared.log.LogEntry.{LogEntry}
use Rattle.resolution.specs.Telling.{Logged}
use Rattle.resolution.specs.Ending.{waits}
use Rattle.resolution.proofs.ElementsFiltered.{Has, Has-from_Contains}
use Rattle.resolution.proofs.EntriesNumbered.{Has-from_Logged}
use Rattle.zone_rules.specs.declared.world.Zone.{Zone}
use Rattle.world_facts.specs.Told.{TellsLog}
use Rattle.world_facts.specs.Served.{IsServed}
use Rattle.world_facts.specs.Witness as witness

one_zone : (z : Zone) → Has witness.world.zones z → witness.zone ≡ z
one_zone z (inl e) = e
one_zone z (inr h) = elim h [ ]

in_class : (r : Record) → Has witness.zone.records r → r.dns_class.code ≡ 1
in_class r (inl e) = ap (λ (x : Record). x.dns_class.code) (sym e)
in_class r (inr (inl e)) = ap (λ (x : Record). x.dns_class.code) (sym e)
in_class r (inr (inr (inl e))) = ap (λ (x : Record). x.dns_class.code) (sym e)
in_class r (inr (inr (inr h))) = elim h [ ]

pub served : IsServed witness.policy witness.world
served = record {
  rooted = omega arith;
  root = refl;
  laid_out = refl;
  delegated = refl;
  served = refl;
  named = refl;
  allowed = λ r ip h e. (refl, refl);
  patient = omega arith;
  timed = omega arith;
  internet = λ r h. in_class r (subst (λ (z : Zone). Has z.records r) (sym (one_zone h.zone (Has-from_Contains witness.world.zones h.zone h.has))) (Has-from_Contains h.zone.records r h.within));
  apart = λ a b ha hb e. sym (one_zone a (Has-from_Contains witness.world.zones a ha)) ∙ one_zone b (Has-from_Contains witness.world.zones b hb);
}

nothing : (n : ℕ) (e : LogEntry) → Logged witness.log n e → ⊥
nothing n e h = Has-from_Logged [] n e h

no_waits : (k n : ℕ) → waits witness.log k n ≡ 0
no_waits k zero = refl
no_waits k (suc zero) = refl
no_waits k (suc (suc n)) = let before = no_waits k (suc n) in omega (arith, before)

pub tells : TellsLog witness.world witness.log
tells = record {
  opened = λ n ip protocol moment refused h. absurd (nothing n _ h);
  asked = λ n ip protocol q moment refused h. absurd (nothing n _ h);
  connected = λ n k at moment o ip protocol h s. absurd (nothing n _ h);
  told = λ n k at moment o ip protocol q h s. absurd (nothing n _ h);
  patient = λ n k. let none = no_waits k n in omega (arith, none);
}
