-- Which errors have a cause in a well served world.
use Rattle.std.proofs.Common.{◌≡◌, ℕ, zero, suc, ◌+◌, ◌<◌, ◌≤◌, true, false, Err, List, length, inl, inr, refl, sym, ap, subst, ◌∙◌, arith}
use Rattle.std.specs.Prelude.{map}
use Rattle.std.specs.List.{range_with_len}
use Rattle.dns_core.specs.Name.{DomainName}
use Rattle.dns_core.specs.Log.{Log}
use Rattle.dns_core.specs.Classifying.{no_records}
use Rattle.dns_core.specs.declared.message.Query.{Query}
use Rattle.dns_core.specs.declared.request.Question.{Question}
use Rattle.dns_core.specs.declared.net_error.NetError.TheVariants as net
use Rattle.dns_core.specs.declared.net_error.DnsError.TheVariants as dns
use Rattle.resolution.specs.Names.{walk, candidates, last_name, question}
use Rattle.recursor_types.specs.declared.policy.Policy.{Policy}
use Rattle.resolution.specs.Ending.{LookupTiming}
use Rattle.resolution.proofs.ElementsFiltered.{Has, Has-from_Contains}
use Rattle.resolution.proofs.WayDown.{last-length}
use Rattle.recursor_types.specs.declared.error.RecursorError.{RecursorError}
use Rattle.recursor_types.specs.declared.error.RecursorError.TheVariants as error
use Rattle.recursor_types.specs.declared.error.MessageKind.TheVariants as kind
use Rattle.recursor_types.specs.declared.error.WalkCause.{WalkCause}
use Rattle.recursor_types.specs.declared.error.WalkCause.TheVariants as why
use Rattle.resolution.specs.Causes.{is_lookup_error, CauseOf, NoServerFound}
use Rattle.resolution.specs.Theorem.{OutcomeIsSound}
use Rattle.resolution.proofs.NoLinks.{ends-here}
use Rattle.zone_rules.specs.declared.world.World.{World}
use Rattle.world_facts.specs.Told.{TellsLog}
use Rattle.world_facts.specs.Served.{IsServed}
use Rattle.world_facts.specs.Rows.{MayBe}
use Rattle.world_facts.proofs.NoFailure.{ended-denied}
use Rattle.world_facts.proofs.GlueTold.{no_glueless}

-- a candidate has a label
labelled : (n c : DomainName) (a m : ℕ) → 1 ≤ a → a + m ≤ length n.labels + 1 → Has (map (λ (k : ℕ). last_name k n) (range_with_len a m)) c → 0 < length c.labels
labelled n c a zero low high h = elim h [ ]
labelled n c a (suc m) low high (inl e) = subst (λ (x : DomainName). 0 < length x.labels) e (let count = last-length n a (omega (arith, high)) in omega (arith, count, low))
labelled n c a (suc m) low high (inr h) = labelled n c (a + 1) m (omega (arith, low)) (omega (arith, high)) h

module _ (policy : Policy) (w : World) (log : Log) (ok : IsServed policy w) (by_world : TellsLog w log) (known : LookupTiming) (t0 : ℕ) (q : Query) (in_class : q.query_class.code ≡ 1) where
  -- no server is missing
  no_cause : (cause : WalkCause) → NoServerFound policy known log t0 q cause → ⊥
  no_cause why.NoAddress (name, told, has, glueless) = no_glueless policy w log ok by_world t0 name told
      (labelled (walk q) name 1 (length (walk q).labels) (omega arith) (omega arith) (Has-from_Contains (candidates (walk q)) name has)) glueless
  no_cause why.Timeout (name, silent, has, failed) =
      let d = ended-denied policy w log ok by_world known t0 (question name 2) failed.zone silent net.Timeout refl failed.ended in
      let is = d.is in cc
  no_cause why.DepthLimit h = h
  no_cause why.Budget h = h
  no_cause why.ZoneEntries h = h
  no_cause why.Collision h = h

  -- an error with a cause
  left : (g : List ℕ) (e : RecursorError) → CauseOf policy known log t0 q g e → MayBe e
  left g (error.Negative d) h = tt
  left g (error.ForwardNS servers) h = tt
  left g (error.Net e) h =
      let d = ended-denied policy w log ok by_world known t0 q h.zone g e in_class h.ended in
      let no : is_lookup_error (net.Dns (dns.NoRecordsFound (no_records d.message))) ≡ true = sym (ap is_lookup_error d.is) ∙ h.is in cc
  left g (error.NoNameServer zone cause) h = absurd (no_cause cause h.2)
  left g _ h = absurd h

-- an error that is sound for a question that is qualified
pub sound-left : (policy : Policy) (w : World) (log : Log) → IsServed policy w → TellsLog w log → (known : LookupTiming) (t0 : ℕ) (asked : Question) (g : List ℕ)
    → asked.query.query_class.code ≡ 1 → asked.query.name.fqdn ≡ true → (e : RecursorError) → OutcomeIsSound policy known log t0 asked g (Err e) → MayBe e
sound-left policy w log ok by_world known t0 asked g in_class qualified error.NoMemory h = tt
sound-left policy w log ok by_world known t0 asked g in_class qualified (error.Message kind.NotQualified) h =
    let no : asked.query.name.fqdn ≡ false = h.0 in cc
sound-left policy w log ok by_world known t0 asked g in_class qualified e h =
    left policy w log ok by_world known t0 asked.query in_class h.rest e (subst (λ (q : Query). CauseOf policy known log t0 q h.rest e) (ends-here h.leads) h.cause)
