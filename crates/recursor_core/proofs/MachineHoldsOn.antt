-- What holds of the machine and its provider goes on holding at each step of the two.
use Rattle.recursor_core.proofs.Names.{◌≡◌, ◌≤◌, ◌<◌, ◌+◌, ◌∙◌, ◌⊎◌, ◌++◌, ⊎_elim, inl, inr, ℕ, Bool, true, false, List, [], ◌∷◌, length, All, Option, Some, None, Result, refl, sym, ap, subst, arith, min, max, if◌then◌else◌, Box, Log, log_of, IpAddr, LogEntry, Question, Ghosts, Policy, GoesToServer, seen_at, ReplyHolds, machine_timer, TellsThat, Grown, IsPast, with_entries, seen_by, Derived, Cached, EntryHolds, TablesHold, Begun, begun_at, SameCore, ReplyGiven, StepGives, IsNewCore, TellsTo, Holds, Rests, Moves, Ready, Goes, ReplyTold, TurnedTold, KeepsTo, is_given_up, IsGivenUpIn, LogGoesOnIf, InFlightHolds, InFlightMoves, GoesNowhere, sent_by, still_awaited, IsLast, HasTold, InFlight, Policy, Carrier, RecursorCore, Step, NoMemory, Order, After, Reply, Extends-refl, Grown-refl, Grown-trans, Longer-from_added, Extends-added, Logged-newest, unlogged, IsPast-later, IsPast-grown, IsPatient-refl, IsPatient-trans, later-by, reply-later}
use Rattle.recursor_walk.specs.Way.{CanWalk}
use Rattle.order_carrier.specs.Carrying.{CarriesOn}
use Rattle.walk_lookup.specs.Asking.{connect_of}
use Rattle.dns_core.specs.declared.log.LogEntry.TheVariants.{Opened, Asked, GaveUp}
use Rattle.resolution.specs.Telling.{Logged, MomentsRise}
use Rattle.resolution.specs.Theorem.{OnlyServersAsked}
use Rattle.order_carrier.specs.GivingUp.{give_up_entry}
use Rattle.recursor_types.specs.declared.options.RecursorOptions.{RecursorOptions}
use Rattle.recursor_core.specs.declared.turns.TurnResult.{TurnResult}
use Rattle.server_core.specs.declared.orders.order.Outcome.{Outcome}
use Rattle.server_core.specs.declared.orders.order.Outcome.TheVariants.{Pending, Connected, Told, Failed, Slept}
use Rattle.server_core.specs.declared.orders.order.SentBy.{SentBy}
use Rattle.server_core.specs.declared.orders.order.Tick.{Tick}
use Rattle.order_carrier.proofs.AsksOnlyServers.{OnlyServersAsked-patience, GoesToServer-later}
use Rattle.order_carrier.proofs.CallCountsWaits.{waits-still}
use Rattle.recursor_core.proofs.MachineAdvances.{Derived-extends}
use Rattle.recursor_types.specs.Policy.{with_patience}
use Rattle.recursor_question.specs.declared.steps.Step.TheVariants as step
use Rattle.recursor_core.specs.declared.turns.TurnResult.TheVariants as turned

-- ---- growing logs

-- what was derived is derived from a longer log
Derived-grown : (now : ℕ) (core : RecursorCore) (old new : Option (List LogEntry)) → Grown now old new → TellsThat old (Derived core)
    → TellsThat new (Derived core)
Derived-grown now core old new grown d es t = let l = grown es t in Derived-extends core (log_of l.before) (log_of es) l.extends (d l.before l.was)

-- a reply holds by a longer log
pub ReplyHolds-grown : (now at : ℕ) (policy : Policy) (moment : ℕ) (question : Question) (reply : Reply) (old new : Option (List LogEntry)) → Grown now old new
    → TellsThat old (λ log. ReplyHolds policy (machine_timer at) log moment question reply)
    → TellsThat new (λ log. ReplyHolds policy (machine_timer at) log moment question reply)
ReplyHolds-grown now at policy moment question reply old new grown h es t =
    let l = grown es t in
    reply-later (seen_at policy 0 at (log_of l.before)) (seen_at policy 0 at (log_of es)) (later-by policy 0 0 at at (log_of l.before) (log_of es) (omega arith) (omega arith) l.extends) moment question reply
    (h l.before l.was)

-- ---- moments: each step leaves it as it was, or at this one

-- it is no earlier than before
pub moment_later : (a b now : ℕ) → a ≤ now → (b ≡ a) ⊎ (b ≡ now) → a ≤ b
moment_later a b now le = ⊎_elim (λ same. omega (arith, same)) (λ at. omega (arith, at, le))

-- ---- what a step gives

module _ (core new : RecursorCore) (told : Option (List LogEntry)) where
  -- an order that the machine gives goes to a server by all that is told
  pub step_goes : (r number : ℕ) (next : Step) (order : Box Order) → next ≡ step.Order number order → new.policy ≡ core.policy → TellsThat told (Derived core)
      → ((log : Log) → Derived core log → Derived new log × StepGives core log r next)
      → TellsThat told (λ log. GoesToServer new.policy log log.next order.value)
  step_goes r number next order is policy d gives es t =
      let given = subst (λ (s : Step). StepGives core (log_of es) r s) is (gives (log_of es) (d es t)).1 in
      let b : core.greatest < length es + 1 = (d es t).bound in
      subst (λ (held : Policy). GoesToServer held (log_of es) (length es + 1) order.value) (sym policy)
      (GoesToServer-later core.policy (log_of es) (core.greatest + 1) (length es + 1) order.value (omega arith) given)

  -- a reply that is given to a question that has begun is told
  reply_told : (b : Option Begun) (reply : Reply) → TellsThat told (λ log. ReplyGiven (seen_by core log) b reply)
      → ReplyTold core.policy core.moment told b reply
  reply_told None reply h = h
  reply_told (Some b) reply h = h

  -- a reply that it gives is told
  pub step_replies : (r : ℕ) (next : Step) (reply : Box Reply) → next ≡ step.Done reply → TellsThat told (Derived core)
      → ((log : Log) → Derived core log → Derived new log × StepGives core log r next)
      → ReplyTold core.policy core.moment told (begun_at core r) reply.value
  step_replies r next reply is d gives =
      reply_told (begun_at core r) reply.value (λ es t. subst (λ (s : Step). StepGives core (log_of es) r s) is (gives (log_of es) (d es t)).1)

-- a reply to a question that is under way is one to the same question before
ReplyTold-before : (policy : Policy) (now : ℕ) (told : Option (List LogEntry)) (old new : Option Begun) (reply : Reply) → ((b : Begun) → new ≡ Some b → old ≡ Some b)
    → ReplyTold policy now told new reply → ReplyTold policy now told old reply
ReplyTold-before policy now told old None reply same h = λ es t. absurd (h es t)
ReplyTold-before policy now told old (Some b) reply same h = subst (λ (x : Option Begun). ReplyTold policy now told x reply) (sym (same b refl)) h

-- ---- questions under way

keeps-refl : (core : RecursorCore) → KeepsTo core core
keeps-refl core = record { count = refl; each = λ k b e. e }

keeps-trans : (a b c : RecursorCore) → KeepsTo a b → KeepsTo b c → KeepsTo a c
keeps-trans a b c x y = record { count = y.count ∙ x.count; each = λ k q e. x.each k q (y.each k q e) }

-- where no resolution has changed
keeps-same : (core new : RecursorCore) → new.resolutions ≡ core.resolutions → KeepsTo core new
keeps-same core new same = record {
  count = rw same refl;
  each = λ k b e. rw same at e;
}

-- one that may have ended
still-begun : (k r : ℕ) (old new : Option Begun) (b : Begun) → (new ≡ old) ⊎ ((k ≡ r) × (new ≡ None)) → new ≡ Some b → old ≡ Some b
still-begun k r old new b (inl same) e = sym same ∙ e
still-begun k r old new b (inr ended) e = let none : None ≡ Some b = sym ended.1 ∙ e in cc

keeps-at : (r : ℕ) (core new : RecursorCore) → SameCore r core new → KeepsTo core new
keeps-at r core new same = record { count = same.count; each = λ k b e. still-begun k r (begun_at core k) (begun_at new k) b (same.begun k) e }

-- ---- steps

-- what was given up after an outcome is in the log from then on
pub record IsSettledBy (given_up : Bool) (now : ℕ) (waits : Option SentBy) (o : Outcome) (old : Option (List LogEntry)) (es : List LogEntry) : Type 0 where
  pub before : List LogEntry
  pub was : old ≡ Some before
  pub on : LogGoesOnIf given_up now waits o (log_of before) (log_of es)

-- the log after an outcome whose order is given up, or is not
abbrev pub settled_log : Bool → ℕ → Option SentBy → Option (List LogEntry) → Option (List LogEntry)
settled_log given_up now waits told = if given_up then with_entries (give_up_entry now waits) told else told

settled_by : (given_up : Bool) (now : ℕ) (waits : Option SentBy) (o : Outcome) (old new : Option (List LogEntry)) → new ≡ settled_log given_up now waits old → TellsThat old (HasTold now waits o)
    → (es : List LogEntry) → new ≡ Some es → IsSettledBy given_up now waits o old es
settled_by false now waits o old new is told es t = record { before = es; was = sym is ∙ t; on = refl }
settled_by true now None o old new is told es t = record { before = es; was = sym is ∙ t; on = refl }
settled_by true now (Some s) o old new is told es t =
    let l = Longer-from_added (GaveUp s.of now) old es (sym is ∙ t) in
    let h = told l.before l.was in
    record { before = l.before; was = l.was; on = by_outcome o l.before l.is h.last }
  where
    by_outcome : (o : Outcome) (before : List LogEntry) → es ≡ before ++ GaveUp s.of now ∷ [] → IsLast (log_of before) (Some s) o → LogGoesOnIf true now (Some s) o (log_of before) (log_of es)
    by_outcome (Pending entry of) before is last =
        let after = before ++ GaveUp s.of now ∷ [] in
        let place : length before + 1 ≡ entry + 1 = sym last.1 in
        let logged = subst (λ (n : ℕ). Logged (log_of after) n (GaveUp s.of now)) place (Logged-newest before (GaveUp s.of now)) in
        subst (λ (xs : List LogEntry). IsGivenUpIn s.of entry now (log_of before) (log_of xs)) (sym is)
        (record { extends = Extends-added before (GaveUp s.of now); logged = logged; numbered = last.2 })
    by_outcome (Connected entry sent) before is last = absurd last
    by_outcome (Told entry sent message) before is last = absurd last
    by_outcome (Failed entry sent refused error) before is last = absurd last
    by_outcome Slept before is last = absurd last

-- by what is waited for still after an outcome the log goes on as before
goes-still : (given_up : Bool) (now : ℕ) (s : Option SentBy) (o : Outcome) (told longer : Log) → LogGoesOnIf given_up now s o told longer
    → LogGoesOnIf given_up now (still_awaited o s) o told longer
goes-still false now s o told longer h = h
goes-still true now None (Pending entry of) told longer h = h
goes-still true now None (Connected entry sent) told longer h = h
goes-still true now None (Told entry sent message) told longer h = h
goes-still true now None (Failed entry sent refused error) told longer h = h
goes-still true now None Slept told longer h = h
goes-still true now (Some s) (Pending entry of) told longer h = h
goes-still true now (Some s) (Connected entry sent) told longer h = h
goes-still true now (Some s) (Told entry sent message) told longer h = h
goes-still true now (Some s) (Failed entry sent refused error) told longer h = h
goes-still true now (Some s) Slept told longer h = h

module _ {P C F E : Type 0} (p : Ghosts P C F E) where
  -- a step of the machine alone
  pub holds_derived : (patience : ℕ) (core new : RecursorCore) (r : InFlight P C F E p) → new.policy ≡ core.policy → core.moment ≤ new.moment
      → ((log : Log) → Derived core log → Derived new log) → Holds p patience core r → Holds p patience new r
  holds_derived patience core new r policy later derived h = record {
    runner = h.runner;
    patient = subst (λ (held : Policy). held.patience ≤ patience) (sym policy) h.patient;
    derived = λ es t. derived (log_of es) (h.derived es t);
    asks = subst (λ (held : Policy). TellsThat (p.log r.carrier.provider) (OnlyServersAsked held)) (sym policy) h.asks;
    past = IsPast-later core.moment new.moment (p.log r.carrier.provider) later h.past;
  }

  -- a step of the provider alone, at the moment of the machine
  pub holds_grown : (patience : ℕ) (core : RecursorCore) (r new : InFlight P C F E p) (now : ℕ) (goes : Policy → Type 0) → core.moment ≡ now → InFlightHolds p new
      → InFlightMoves patience now goes (p.log r.carrier.provider) (p.log new.carrier.provider) → goes core.policy → Holds p patience core r → Holds p patience core new
  holds_grown patience core r new now goes at runner moves right h =
      let old_log = p.log r.carrier.provider in
      let new_log = p.log new.carrier.provider in
      record {
        runner = runner;
        patient = h.patient;
        derived = Derived-grown now core old_log new_log moves.grown h.derived;
        asks = moves.asks core.policy right h.asks;
        past = subst (λ m. TellsThat new_log (IsPast m)) (sym at) (IsPast-grown now old_log new_log moves.grown (subst (λ m. TellsThat old_log (IsPast m)) at h.past));
      }

  -- The machine is fed what the provider told, and its order is given up, or is not.
  holds_settled : (number : ℕ) (tick : Tick) (core new : RecursorCore) (r later : InFlight P C F E p) (o : Outcome) (result : Result After NoMemory) → new.policy ≡ core.policy → new.moment ≡ tick.now
      → core.moment ≡ tick.now
      → ((log longer : Log) → Derived core log → TellsTo core log tick (still_awaited o (sent_by r number)) o result longer → Derived new longer)
      → p.log later.carrier.provider ≡ settled_log (is_given_up result) tick.now (sent_by r number) (p.log r.carrier.provider)
      → TellsThat (p.log r.carrier.provider) (HasTold tick.now (sent_by r number) o) → Holds p tick.patience core r → Holds p tick.patience core later → Holds p tick.patience new later
  holds_settled number tick core new r later o result policy moment at derived log told h k = record {
    runner = k.runner;
    patient = subst (λ (held : Policy). held.patience ≤ tick.patience) (sym policy) k.patient;
    derived = λ es t.
        let by = settled_by (is_given_up result) tick.now (sent_by r number) o (p.log r.carrier.provider) (p.log later.carrier.provider) log told es t in
        let heard = told by.before by.was in
        derived (log_of by.before) (log_of es) (h.derived by.before by.was) (record {
          patient = h.patient;
          on = record {
            told = log_of by.before;
            tells = record { later = omega arith; extends = Extends-refl (log_of by.before); fits = heard.fits; waits_by = waits-still (log_of by.before) (sent_by r number) o heard.waits_by };
            goes_on = goes-still (is_given_up result) tick.now (sent_by r number) o (log_of by.before) (log_of es) by.on;
          };
        });
    asks = subst (λ (held : Policy). TellsThat (p.log later.carrier.provider) (OnlyServersAsked held)) (sym policy) k.asks;
    past = IsPast-later core.moment new.moment (p.log later.carrier.provider) (omega arith) k.past;
  }

  -- two steps are one
  pub moves_trans : (patience now : ℕ) (a b c : RecursorCore) (x y z : Carrier P C F E p) → Moves p patience now a b x y → Moves p patience now b c y z
      → Moves p patience now a c x z
  moves_trans patience now a b c x y z m n = record {
    policy = n.policy ∙ m.policy;
    begun = keeps-trans a b c m.begun n.begun;
    grown = Grown-trans now (p.log x.provider) (p.log y.provider) (p.log z.provider) m.grown n.grown;
    patient = IsPatient-trans (max 1 patience) (p.log x.provider) (p.log y.provider) (p.log z.provider) m.patient n.patient;
  }

  -- a step of the machine alone that keeps the questions
  pub moves_core : (patience now : ℕ) (core new : RecursorCore) (c : Carrier P C F E p) → new.policy ≡ core.policy
      → KeepsTo core new → Moves p patience now core new c c
  moves_core patience now core new c policy begun = record {
    policy = policy;
    begun = begun;
    grown = Grown-refl now (p.log c.provider);
    patient = IsPatient-refl (max 1 patience) (p.log c.provider);
  }

  -- a step of the provider alone
  pub moves_grown : (patience now : ℕ) (goes : Policy → Type 0) (core : RecursorCore) (c new : Carrier P C F E p) → InFlightMoves patience now goes (p.log c.provider) (p.log new.provider)
      → Moves p patience now core core c new
  moves_grown patience now goes core c new moves = record { policy = refl; begun = keeps-refl core; grown = moves.grown; patient = moves.patient }

  -- carriers of the same orders
  pub carries_refl : (c : Carrier P C F E p) → CarriesOn p c c
  carries_refl c = record { vouches = λ es h. h; options = refl }

  pub carries_trans : (a b c : Carrier P C F E p) → CarriesOn p a b → CarriesOn p b c → CarriesOn p a c
  carries_trans a b c m n = record { vouches = λ es h. m.vouches es (n.vouches es h); options = n.options ∙ m.options }

  module _ (tick : Tick) where
    -- two steps that go right are one
    pub goes_trans : (a b c : RecursorCore) (x y z : InFlight P C F E p) → Goes p tick a b x y → Goes p tick b c y z → Goes p tick a c x z
    goes_trans a b c x y z m n = record {
      carries_on = carries_trans x.carrier y.carrier z.carrier m.carries_on n.carries_on;
      ready = n.ready;
      moves = moves_trans tick.patience tick.now a b c x.carrier y.carrier z.carrier m.moves n.moves;
    }

    -- a step of the machine alone
    pub goes_core : {k : ℕ} (core new : RecursorCore) (r : InFlight P C F E p) → SameCore k core new → ((log : Log) → Derived core log → Derived new log) → Ready p tick core r → Goes p tick core new r r
    goes_core {k} core new r same derived ready =
        let at = same.moment in
        record {
          carries_on = carries_refl r.carrier;
          ready = record { holds = holds_derived tick.patience core new r same.policy (omega (arith, at)) derived ready.holds; moment = at ∙ ready.moment };
          moves = moves_core tick.patience tick.now core new r.carrier same.policy (keeps-at k core new same);
        }

    -- the moment of the step has come
    pub goes_reached : (core new : RecursorCore) (r : InFlight P C F E p) → new.policy ≡ core.policy → new.resolutions ≡ core.resolutions → core.moment ≤ tick.now
        → new.moment ≡ max core.moment tick.now → ((log : Log) → Derived core log → Derived new log) → Holds p tick.patience core r → Goes p tick core new r r
    goes_reached core new r policy same early at derived holds = record {
      carries_on = carries_refl r.carrier;
      ready = record { holds = holds_derived tick.patience core new r policy (omega (arith, at)) derived holds; moment = omega (arith, at) };
      moves = moves_core tick.patience tick.now core new r.carrier policy (keeps-same core new same);
    }

    -- a step of what carries out the orders alone
    pub goes_run : (core : RecursorCore) (r new : InFlight P C F E p) (goes : Policy → Type 0) → CarriesOn p r.carrier new.carrier
        → InFlightHolds p new → InFlightMoves tick.patience tick.now goes (p.log r.carrier.provider) (p.log new.carrier.provider) → goes core.policy → Ready p tick core r
        → Goes p tick core core r new
    goes_run core r new goes carries_on holds moves right ready = record {
      carries_on = carries_on;
      ready = record { holds = holds_grown tick.patience core r new tick.now goes ready.moment holds moves right ready.holds; moment = ready.moment };
      moves = moves_grown tick.patience tick.now goes core r.carrier new.carrier moves;
    }

    -- nothing at all
    pub goes_nowhere : (core : RecursorCore) (r : InFlight P C F E p) → Ready p tick core r → Goes p tick core core r r
    goes_nowhere core r ready = record { carries_on = carries_refl r.carrier; ready = ready; moves = moves_core tick.patience tick.now core core r.carrier refl (keeps-refl core) }

    -- an order is forgotten
    pub goes_closed : (core : RecursorCore) (r new : InFlight P C F E p) → new.carrier ≡ r.carrier → InFlightHolds p new → Ready p tick core r → Goes p tick core core r new
    goes_closed core r new same holds ready =
        let still : InFlightMoves tick.patience tick.now GoesNowhere (p.log r.carrier.provider) (p.log r.carrier.provider) = record {
          grown = Grown-refl tick.now (p.log r.carrier.provider);
          patient = IsPatient-refl (max 1 tick.patience) (p.log r.carrier.provider);
          asks = λ given right asks. asks;
        } in
        goes_run core r new GoesNowhere (subst (CarriesOn p r.carrier) (sym same) (carries_refl r.carrier)) holds
        (subst (λ (c : Carrier P C F E p). InFlightMoves tick.patience tick.now GoesNowhere (p.log r.carrier.provider) (p.log c.provider)) (sym same) still) tt ready

    -- what a turn comes to after a step is what it comes to with it
    pub told_before : (a b : RecursorCore) (x y : InFlight P C F E p) (told : Option (List LogEntry)) (r : ℕ) (t : TurnResult) → Goes p tick a b x y
        → TurnedTold b.policy tick.now told (begun_at b r) t → TurnedTold a.policy tick.now told (begun_at a r) t
    told_before a b x y told r turned.Pending goes h = tt
    told_before a b x y told r (turned.Done reply) goes h =
        subst (λ (held : Policy). ReplyTold held tick.now told (begun_at a r) reply.value) goes.moves.policy
        (ReplyTold-before b.policy tick.now told (begun_at a r) (begun_at b r) reply.value (goes.moves.begun.each r) h)
    told_before a b x y told r turned.Ended goes h = tt

    -- what the order of the number came to is put, where what carries out the orders has gone on so
    pub goes_settled : (number : ℕ) (core new : RecursorCore) (r later : InFlight P C F E p) (o : Outcome) (result : Result After NoMemory) → new.policy ≡ core.policy
        → (core.moment ≡ tick.now → new.moment ≡ tick.now) → new.resolutions ≡ core.resolutions
        → ((log longer : Log) → Derived core log → TellsTo core log tick (still_awaited o (sent_by r number)) o result longer → Derived new longer)
        → p.log later.carrier.provider ≡ settled_log (is_given_up result) tick.now (sent_by r number) (p.log r.carrier.provider)
        → TellsThat (p.log r.carrier.provider) (HasTold tick.now (sent_by r number) o) → Ready p tick core r → Goes p tick core core r later → Goes p tick core new r later
    goes_settled number core new r later o result policy moment begun derived log told ready run =
        let at = moment ready.moment in
        record {
          carries_on = run.carries_on;
          ready = record { holds = holds_settled number tick core new r later o result policy at ready.moment derived log told ready.holds run.ready.holds; moment = at };
          moves = moves_trans tick.patience tick.now core core new r.carrier later.carrier later.carrier run.moves (moves_core tick.patience tick.now core new later.carrier policy (keeps-same core new begun));
        }

  -- a machine at rest begins a run: its questions are left, and its patience may be less
  pub rests_holds : (patience : ℕ) (core new : RecursorCore) (r : InFlight P C F E p) → new.policy ≡ with_patience (min core.policy.patience patience) core.policy
      → new.moment ≡ core.moment
      → ((log : Log) → core.greatest < log.next → CanWalk core.policy → TablesHold (seen_by core log) core.cache core.pools → Derived new log)
      → Rests p core r → Holds p patience new r
  rests_holds patience core new r policy moment derived h = record {
    runner = h.runner;
    patient = subst (λ (held : Policy). held.patience ≤ patience) (sym policy) (omega arith);
    derived = λ es t. derived (log_of es) (h.bound es t) h.walks (record { cache = h.cache es t; pools = h.pools es t });
    asks = subst (λ (held : Policy). TellsThat (p.log r.carrier.provider) (OnlyServersAsked held)) (sym policy)
        (λ es t. OnlyServersAsked-patience core.policy (min core.policy.patience patience) (log_of es) (h.asks es t));
    past = subst (λ m. TellsThat (p.log r.carrier.provider) (IsPast m)) (sym moment) h.past;
  }

  -- and after it the machine is at rest again
  pub holds_rests : (patience : ℕ) (core : RecursorCore) (r : InFlight P C F E p) → CanWalk core.policy → r.carrier.options ≡ connect_of core.policy.resolver
      → TellsThat (p.log r.carrier.provider) MomentsRise → Holds p patience core r → Rests p core r
  holds_rests patience core r walks connects rises h = record {
    walks = walks;
    runner = h.runner;
    connects = connects;
    bound = λ es t. (h.derived es t).bound;
    cache = λ es t. (h.derived es t).cache;
    pools = λ es t. (h.derived es t).pools;
    asks = h.asks;
    past = h.past;
    rises = rises;
  }

  -- a new machine over a provider whose log is empty is at rest
  pub new_rests : (roots : List IpAddr) (options : RecursorOptions) (core : RecursorCore) (r : InFlight P C F E p) → IsNewCore roots options core
      → 0 < length roots → InFlightHolds p r → r.carrier.options ≡ connect_of core.policy.resolver
      → ((es : List LogEntry) → p.log r.carrier.provider ≡ Some es → es ≡ []) → Rests p core r
  new_rests roots options core r new some holds connects empty = record {
    walks = subst CanWalk (sym new.policy) (record { some = some; strict = refl });
    runner = holds;
    connects = connects;
    bound = λ es t. let zero = new.greatest in omega arith;
    cache = λ es t. record {
      size = ap (λ (kept : Cached). kept.size) new.cache ∙ sym (ap (λ (held : Policy). held.response_cache_size) new.policy);
      ttl_bounds = ap (λ (kept : Cached). kept.config) new.cache ∙ sym (ap (λ (held : Policy). held.ttl_bounds) new.policy);
      entries = subst (λ (kept : Cached). All (EntryHolds (seen_by core (log_of es))) kept.entries) (sym new.cache)
          (λ k d low. absurd (omega (arith, low)));
    };
    pools = λ es t. new.pools (seen_by core (log_of es)) new.policy;
    asks = λ es t. record {
      opened = λ n ip protocol moment refused at. absurd (unlogged n (Opened ip protocol moment refused)
          (subst (λ (xs : List LogEntry). Logged (log_of xs) n (Opened ip protocol moment refused)) (empty es t) at));
      asked = λ n ip protocol q moment refused at. absurd (unlogged n (Asked ip protocol q moment refused)
          (subst (λ (xs : List LogEntry). Logged (log_of xs) n (Asked ip protocol q moment refused)) (empty es t) at));
    };
    past = λ es t i moment e logged is. absurd (unlogged i e (subst (λ (xs : List LogEntry). Logged (log_of xs) i e) (empty es t) logged));
    rises = λ es t i j earlier later e f low logged after is later_is. absurd (unlogged i e (subst (λ (xs : List LogEntry). Logged (log_of xs) i e) (empty es t) logged));
  }
