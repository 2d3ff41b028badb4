-- Steps of a run at one moment lead on.
use Rattle.recursor_core.proofs.Names.{◌≡◌, ◌≤◌, ◌∙◌, ℕ, max, refl, subst, arith, Ghosts, Log, Grown-refl, Grown-trans, IsPatient-refl, IsPatient-trans, InFlight, Derived, Leading, Holds, Goes, RecursorCore}
use Rattle.order_carrier.specs.Patience.{IsPatient}
use Rattle.recursor_core.proofs.MachineHoldsOn.{holds_derived, carries_refl, carries_trans}

module _ {P C F E : Type 0} (p : Ghosts P C F E) where
  -- none at all
  pub leads_refl : (most : ℕ) (core : RecursorCore) (r : InFlight P C F E p) → Holds p most core r → Leading p core.moment most most core core r r
  leads_refl most core r holds = record {
    carries_on = carries_refl p r.carrier;
    runs = holds;
    policy = refl;
    patience = refl;
    patient = IsPatient-refl (max 1 most) (p.log r.carrier.provider);
    moment = refl;
    grown = Grown-refl core.moment (p.log r.carrier.provider);
  }

  -- a step of a turn
  pub leads_goes : (now most : ℕ) (core new : RecursorCore) (r later : InFlight P C F E p)
      → Goes p (record { now = now; patience = most }) core new r later → Leading p now most most core new r later
  leads_goes now most core new r later goes = record {
    carries_on = goes.carries_on;
    runs = goes.ready.holds;
    policy = goes.moves.policy;
    patience = refl;
    patient = goes.moves.patient;
    moment = goes.ready.moment;
    grown = goes.moves.grown;
  }

  -- the machine alone changes
  pub leads_alone : (now most : ℕ) (core new : RecursorCore) (r : InFlight P C F E p) → core.moment ≤ now → new.policy ≡ core.policy
      → new.moment ≡ now → ((log : Log) → Derived core log → Derived new log) → Holds p most core r → Leading p now most most core new r r
  leads_alone now most core new r le policy moment derived holds = record {
    carries_on = carries_refl p r.carrier;
    runs = holds_derived p most core new r policy (omega (arith, moment, le)) derived holds;
    policy = policy;
    patience = refl;
    patient = IsPatient-refl (max 1 most) (p.log r.carrier.provider);
    moment = moment;
    grown = Grown-refl now (p.log r.carrier.provider);
  }

  -- steps and more steps are steps
  pub leads_trans : (now i j k : ℕ) (a b c : RecursorCore) (x y z : InFlight P C F E p)
      → Leading p now i j a b x y → Leading p now j k b c y z → Leading p now i k a c x z
  leads_trans now i j k a b c x y z m n = record {
    carries_on = carries_trans p x.carrier y.carrier z.carrier m.carries_on n.carries_on;
    runs = n.runs;
    policy = n.policy ∙ m.policy;
    patience = n.patience ∙ m.patience;
    patient = IsPatient-trans (max 1 i) (p.log x.carrier.provider) (p.log y.carrier.provider) (p.log z.carrier.provider) m.patient
        (subst (λ (most : ℕ). IsPatient (max 1 most) (p.log y.carrier.provider) (p.log z.carrier.provider)) m.patience n.patient);
    moment = n.moment;
    grown = Grown-trans now (p.log x.carrier.provider) (p.log y.carrier.provider) (p.log z.carrier.provider) m.grown n.grown;
  }

  -- steps, and then some at the moment that has come
  pub leads_then : (now i j k : ℕ) (a b c : RecursorCore) (x y z : InFlight P C F E p)
      → Leading p now i j a b x y → Leading p b.moment j k b c y z → Leading p now i k a c x z
  leads_then now i j k a b c x y z m n = leads_trans now i j k a b c x y z m (subst (λ (at : ℕ). Leading p at j k b c y z) m.moment n)
