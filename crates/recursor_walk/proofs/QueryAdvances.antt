-- What holds of a question at the servers of its name, and of a reply, goes on holding as a machine comes further.
use Rattle.recursor_walk.proofs.QueryWords.{ℕ, IsTrue, List, subst, Result, Err, DomainName, Query, Message, Question, ForwardNsData, NetError, Base, LookupTiming, Verdict, LogView, Advances, ReachesName, machine_timer, RecursorError, Reply, Policy, with_patience, given-is, walked-on, for-on, concluded-later, asked-kept, AuthorityData, WalkCause, Replied, AnswerIsSound, OutcomeIsSound, IsNegative, IsReferral, LookupFailed, NoServerFound, CauseOf, RestsOn, itself, on_the_way, received, made, referred, outcome-carried, leads-anywhere}
use Rattle.recursor_walk.specs.ZoneQuery.{LastHolds}
use Rattle.resolution.proofs.LongerLogs.{Base-extend}
use Rattle.resolution.proofs.AnswersKept.{ReachesName-extend, IsOwn-extend}
use Rattle.resolution.proofs.FailuresKept.{Walked-extend, Glueless-extend}
use Rattle.resolution.specs.Causes.{IsAnsweredBy}
use Rattle.walk_tables.proofs.PoolsAdvance.{lookup-later}
use Rattle.resolution.specs.Failing.{Glueless}
use Rattle.resolution.specs.Names.{question as question_for}
use Rattle.recursor_walk.specs.declared.zone_query.asking.ZoneQuery.{ZoneQuery}
use Rattle.dns_core.specs.declared.net_error.NetError.TheVariants as net
use Rattle.recursor_types.specs.declared.error.WalkCause.TheVariants as why
use Rattle.recursor_types.specs.declared.error.RecursorError.TheVariants as error

module _ (old new : LogView) (later : Advances old new) where
  abbrev before : Policy
  before = old.policy

  abbrev after : Policy
  after = new.policy

  abbrev less : ℕ
  less = new.policy.patience

  -- what is derived by what was given, with less patience, is derived by what is given now
  as-given : (P : Policy → Type 0) → P (with_patience less before) → P after
  as-given P h = subst P (given-is old new later) h

  -- the question itself at the servers of its name
  pub last-later : (t0 : ℕ) (q : Query) (a : ZoneQuery) → LastHolds old t0 q a → LastHolds new t0 q a
  last-later t0 q a h = record {
    asks = h.asks;
    own = as-given (λ (given : Policy). ReachesName given new.log a.lookup.query a.zone)
        (ReachesName-extend before less later.patience old.log new.log later.extends a.lookup.query a.zone h.own);
    holds = record {
      site = for-on old new later a.lookup.query a.zone a.servers h.holds.site;
      lookup = lookup-later old new later t0 a.zone a.lookup h.holds.lookup;
    };
  }

  -- what counts of one entry
  based : {t0 : ℕ} {q : Query} {i : ℕ} {z : DomainName} {v : Verdict} → Base before old.log t0 q i z v → Base after new.log t0 q i z v
  based {t0} {q} {i} {z} {v} b = as-given (λ (g : Policy). Base g new.log t0 q i z v) (Base-extend before less old.log new.log later.extends b)

  -- an answer
  answer-later : (t0 : ℕ) (question : Question) (g : List ℕ) (r : Message) → AnswerIsSound before old.log t0 question g r → AnswerIsSound after new.log t0 question g r
  answer-later t0 question g r a =
      as-given (λ (given : Policy). AnswerIsSound given new.log t0 question g r) (record {
        links = a.links;
        last = a.last;
        entry = a.entry;
        zone = a.zone;
        kept = a.kept;
        leads = leads-anywhere a.leads;
        rest = a.rest;
        base = Base-extend before less old.log new.log later.extends a.base;
        deepest = Walked-extend before less later.patience old.log new.log later.extends a.last a.zone a.deepest;
        own = IsOwn-extend before less later.patience old.log new.log later.extends t0 a.last a.zone a.base.moment a.kept a.own;
        same = a.same;
      })

  -- what an entry tells by which a question is answered
  rests-later : {t0 : ℕ} {q : Query} {i : ℕ} {z : DomainName} {v : Verdict} → RestsOn before old.log t0 q i z v → RestsOn after new.log t0 q i z v
  rests-later {q = q} {z = z} r = record { base = based r.base; walked = walked-on old new later q z r.walked }

  answered-later : {q asked : Query} {v : Verdict} → IsAnsweredBy before q asked v → IsAnsweredBy after q asked v
  answered-later itself = itself
  answered-later (on_the_way strict has ends) = on_the_way (as-given (λ (policy : Policy). IsTrue policy.strict) strict) has ends

  -- a negative response
  negative-later : (t0 : ℕ) (q : Query) (g : List ℕ) (d : AuthorityData) → IsNegative before old.log t0 q g d → IsNegative after new.log t0 q g d
  negative-later t0 q _ d (received by r n s) = received (answered-later by) (rests-later r) n s
  negative-later t0 q _ _ (made {entry = i} {shown = p} by r m a) = made (answered-later by) (rests-later r) m (asked-kept old.log new.log later.extends i p a)

  -- a referral
  referral-later : (t0 : ℕ) (q : Query) (g : List ℕ) (servers : List ForwardNsData) → IsReferral before old.log t0 q g servers → IsReferral after new.log t0 q g servers
  referral-later t0 q _ servers (referred r n s) = referred (rests-later r) n s

  -- what is known of moments
  abbrev knew : ℕ → LookupTiming
  knew t0 = machine_timer old.moment old.log t0

  abbrev knows : ℕ → LookupTiming
  knows t0 = machine_timer new.moment new.log t0

  -- a failed lookup
  failed-later : (t0 : ℕ) (q : Query) (g : List ℕ) (e : NetError) → LookupFailed before (knew t0) old.log t0 q g e → LookupFailed after (knows t0) new.log t0 q g e
  failed-later t0 q g e h = record {
    zone = h.zone;
    is = h.is;
    ended = concluded-later old new later t0 q h.zone g (Err e) h.ended;
    walked = walked-on old new later q h.zone h.walked;
  }

  -- why no server was found
  server-later : (t0 : ℕ) (q : Query) (cause : WalkCause) → NoServerFound before (knew t0) old.log t0 q cause → NoServerFound after (knows t0) new.log t0 q cause
  server-later t0 q why.NoAddress (name, told, has, glueless) =
      (name, told, has, as-given (λ (g : Policy). Glueless g new.log t0 name told) (Glueless-extend before less later.patience old.log new.log later.extends glueless))
  server-later t0 q why.Timeout (name, silent, has, failed) = (name, silent, has, failed-later t0 (question_for name 2) silent net.Timeout failed)
  server-later t0 q _ h = h

  -- the cause of an error
  cause-later : (t0 : ℕ) (q : Query) (g : List ℕ) (e : RecursorError) → CauseOf before (knew t0) old.log t0 q g e → CauseOf after (knows t0) new.log t0 q g e
  cause-later t0 q g (error.Negative d) h = negative-later t0 q g d h
  cause-later t0 q g (error.ForwardNS servers) h = referral-later t0 q g servers h
  cause-later t0 q g (error.Net e) h = failed-later t0 q g e h
  cause-later t0 q g (error.NoNameServer zone cause) h = (h.0, h.1, server-later t0 q cause h.2)
  cause-later t0 q g _ h = h

  -- what is answered
  outcome-later : (t0 : ℕ) (question : Question) (g : List ℕ) (o : Result Message RecursorError) → OutcomeIsSound before (knew t0) old.log t0 question g o
      → OutcomeIsSound after (knows t0) new.log t0 question g o
  outcome-later t0 question g o h =
      outcome-carried before after (knew t0) (knows t0) old.log new.log t0 t0 question g (answer-later t0 question g) (cause-later t0) o h

  -- a reply
  pub reply-later : (t0 : ℕ) (question : Question) (reply : Reply) → Replied old t0 question reply → Replied new t0 question reply
  reply-later t0 question reply h = outcome-later t0 question reply.grounds reply.outcome h
