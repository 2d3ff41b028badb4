-- The questions of a run, as their turns are played.
use Rattle.recursor_core.proofs.Names.{◌≡◌, ◌≢◌, ◌≤◌, ◌<◌, ◌+◌, ◌-◌, ◌∙◌, ◌⊎◌, ⊎_elim, inl, inr, ℕ, zero, suc, max, List, [], ◌∷◌, length, Option, Some, None, Err, refl, sym, ap, subst, arith, slice_get, if◌then◌else◌, eq-eqb, All, Contains, Box, set, same_Some, slice_get_within, get_or_from_slice_get, All-get_or, Log, log_of, LogEntry, Question, Turn, Ghosts, Timer, machine_timer, ReplyHolds, TellsThat, Grown, Begun, begun_at, begun_of, kept_in, IsOneMore, Moves, ReplyTold, IsDue, begin_moment, run_moments, run_timer, PlayHolds, PlaysHold, RepliesHold, ReplyFor, BeginsIf, BeginsAt, IsRefused, ReplyOf, Policy, Carrier, RecursorCore, Reply, QuestionState, reply-earlier, Grown-refl, seen_at, Resolution, option_map}
use Rattle.std.specs.Prelude.{◌==◌}
use Rattle.std.proofs.lemmas.Bool.{ne_eqb}
use Rattle.recursor_core.proofs.OnePlaceIsSet.{slice_get-set_same, slice_get-set_other}
use Rattle.recursor_core.proofs.MachineHoldsOn.{ReplyHolds-grown}
use Rattle.recursor_core.proofs.Timed.{reply-timed, run_first}
use Rattle.recursor_types.specs.declared.error.RecursorError.TheVariants as error
use Rattle.recursor_core.specs.declared.machine.plays.QuestionState.TheVariants as played

-- two numbers are equal, or not
same_or_not : (k n : ℕ) → (k ≡ n) ⊎ (k ≢ n)
same_or_not zero zero = inl refl
same_or_not zero (suc n) = inr (λ e. omega arith)
same_or_not (suc k) zero = inr (λ e. omega arith)
same_or_not (suc k) (suc n) = ⊎_elim (λ e. inl (ap suc e)) (λ ne. inr (λ e. ne (omega arith))) (same_or_not k n)

-- the question of the next turn begins in it
pub begin_named : (moment : ℕ) (t : Turn) (rest : List Turn) (q : ℕ) → t.question ≡ q + 1 → begin_moment moment (t ∷ rest) q ≡ max moment t.moment
begin_named moment t rest q e = ap (λ b. if b then max moment t.moment else begin_moment (max moment t.moment) rest q) (eq-eqb t.question (q + 1) e)

-- another one begins later
pub begin_other : (moment : ℕ) (t : Turn) (rest : List Turn) (q : ℕ) → t.question ≢ q + 1 → begin_moment moment (t ∷ rest) q ≡ begin_moment (max moment t.moment) rest q
begin_other moment t rest q ne = ap (λ b. if b then max moment t.moment else begin_moment (max moment t.moment) rest q) (ne_eqb t.question (q + 1) ne)

-- where the moment of the turn has come
begin_after : (moment : ℕ) (t : Turn) (rest : List Turn) (q : ℕ) → t.moment ≤ moment → t.question ≢ q + 1 → begin_moment moment (t ∷ rest) q ≡ begin_moment moment rest q
begin_after moment t rest q le ne =
    let same : max moment t.moment ≡ moment = omega (arith, le) in
    begin_other moment t rest q ne ∙ ap (λ m. begin_moment m rest q) same

-- that it comes changes nothing
begin_reached : (moment new : ℕ) (t : Turn) (rest : List Turn) (q : ℕ) → new ≡ max moment t.moment → begin_moment moment (t ∷ rest) q ≡ begin_moment new (t ∷ rest) q
begin_reached moment new t rest q is =
    let same : max moment t.moment ≡ max new t.moment = omega (arith, is) in
    ap (λ m. if t.question == q + 1 then m else begin_moment m rest q) same

-- a question is due at its turn
pub turn_due : (moment : ℕ) (t : Turn) (rest : List Turn) (q : ℕ) → t.question ≡ q + 1 → t.moment ≤ moment → IsDue moment (t ∷ rest) rest q
turn_due moment t rest q names le = record {
  others = λ k ne. begin_after moment t rest k le (λ named. ne (omega arith));
  now = let is = begin_named moment t rest q names in omega (arith, is, le);
}

-- and behind the turns
pub last_due : (moment q : ℕ) → IsDue moment [] [] q
last_due moment q = record { others = λ k ne. refl; now = omega arith }

-- out of memory may always be answered, with no grounds
memory_holds : (policy : Policy) (timer : Timer) (log : Log) (moment : ℕ) (question : Question) (reply : Reply) → reply.outcome ≡ Err error.NoMemory
    → reply.grounds ≡ [] → ReplyHolds policy timer log moment question reply
memory_holds policy timer log moment question reply h none = rw h none

-- a question is refused for its cause
refused_holds : (policy : Policy) (timer : Timer) (log : Log) (moment : ℕ) (question : Question) (reply : Reply) → IsRefused question reply
    → ReplyHolds policy timer log moment question reply
refused_holds policy timer log moment question reply r = ⊎_elim (λ h. memory_holds policy timer log moment question reply h r.0) (λ h. rw h.0 (h.1, r.0)) r.1

-- a question that goes on as it was, where no place is gone and what is under way at its own was so before
play_on : (now : ℕ) (core new : RecursorCore) (told later : Option (List LogEntry)) (start : ℕ) (turns rest left : List Turn) (q : ℕ)
    (question : Question) (p : QuestionState)
    → new.policy ≡ core.policy → length core.resolutions.items ≤ length new.resolutions.items
    → ((k : ℕ) (b : Begun) → k < length core.resolutions.items → begun_at new k ≡ Some b → begun_at core k ≡ Some b) → Grown now told later
    → (p ≡ played.Waiting → begin_moment core.moment rest q ≡ begin_moment new.moment left q)
    → PlayHolds core told start turns rest q question p → PlayHolds new later start turns left q question p
play_on now core new told later start turns rest left q question played.Waiting policy count begun grown same h = h ∙ same refl
play_on now core new told later start turns rest left q question (played.Begun r) policy count begun grown same h =
    record { within = let low = h.within in omega (arith, low, count); is = λ b e. h.is b (begun r b h.within e) }
play_on now core new told later start turns rest left q question (played.Answered reply) policy count begun grown same h =
    record {
      now = h.now;
      in_run = h.in_run;
      holds = subst (λ (held : Policy). TellsThat later (λ log. ReplyHolds held (machine_timer h.now) log
          (begin_moment start turns q) question reply.value)) (sym policy)
          (ReplyHolds-grown now h.now core.policy (begin_moment start turns q) question reply.value told later grown h.holds);
    }
play_on now core new told later start turns rest left q question played.Unanswered policy count begun grown same h = tt

-- so it is where one more question may have begun
play_more : (core new : RecursorCore) (told : Option (List LogEntry)) (start : ℕ) (turns rest left : List Turn) (q : ℕ) (question : Question) (p : QuestionState)
    → new.policy ≡ core.policy → IsOneMore core new → (p ≡ played.Waiting → begin_moment core.moment rest q ≡ begin_moment new.moment left q)
    → PlayHolds core told start turns rest q question p → PlayHolds new told start turns left q question p
play_more core new told start turns rest left q question p policy more same h =
    play_on 0 core new told told start turns rest left q question p policy more.count (λ k b low e. sym (more.before k low) ∙ e) (Grown-refl 0 told) same h

-- a place at which a question is under way is one of the machine's
place_of_begun : (xs : List (Option (Box Resolution))) (r : ℕ) (b : Begun) → option_map begun_of (kept_in (slice_get xs r)) ≡ Some b → r < length xs
place_of_begun [] r b e = cc
place_of_begun (x ∷ xs) zero b e = omega arith
place_of_begun (x ∷ xs) (suc r) b e = omega (arith, place_of_begun xs r b e)

-- a question at the place where one begins
begin_here : (core new : RecursorCore) (told : Option (List LogEntry)) (start : ℕ) (turns rest left : List Turn) (q now : ℕ)
    (question : Question) (old : Option QuestionState) (p : QuestionState)
    → new.policy ≡ core.policy → IsOneMore core new
    → (begin_moment start turns q ≡ begin_moment core.moment rest q → begin_moment start turns q ≤ now)
    → BeginsIf (Some question) now new old (Some p) → ((was : QuestionState) → old ≡ Some was → PlayHolds core told start turns rest q question was)
    → PlayHolds new told start turns left q question p
begin_here core new told start turns rest left q now question None p policy begun due begins h = cc
begin_here core new told start turns rest left q now question (Some played.Waiting) played.Waiting policy begun due begins h = absurd begins
begin_here core new told start turns rest left q now question (Some played.Waiting) (played.Begun r) policy begun due begins h =
    record {
      within = place_of_begun new.resolutions.items r (record { question = question; moment = now }) begins;
      is = λ b e. let same : record { question = question; moment = now } ≡ b = same_Some _ _ (sym begins ∙ e) in
          (ap (λ (x : Begun). x.question) (sym same), subst (λ (x : Begun). begin_moment start turns q ≤ x.moment) same (due (h played.Waiting refl)));
    }
begin_here core new told start turns rest left q now question (Some played.Waiting) (played.Answered reply) policy begun due begins h =
    record { now = start; in_run = run_first start turns; holds = λ es t. refused_holds new.policy (machine_timer start) (log_of es) (begin_moment start turns q) question reply.value begins }
begin_here core new told start turns rest left q now question (Some played.Waiting) played.Unanswered policy begun due begins h = tt
begin_here core new told start turns rest left q now question (Some (played.Begun r)) p policy begun due begins h =
    subst (λ (x : QuestionState). PlayHolds new told start turns left q question x) (sym (same_Some _ _ begins))
    (play_more core new told start turns rest left q question (played.Begun r) policy begun (λ e. cc) (h (played.Begun r) refl))
begin_here core new told start turns rest left q now question (Some (played.Answered reply)) p policy begun due begins h =
    subst (λ (x : QuestionState). PlayHolds new told start turns left q question x) (sym (same_Some _ _ begins))
    (play_more core new told start turns rest left q question (played.Answered reply) policy begun (λ e. cc) (h (played.Answered reply) refl))
begin_here core new told start turns rest left q now question (Some played.Unanswered) p policy begun due begins h =
    subst (λ (x : QuestionState). PlayHolds new told start turns left q question x) (sym (same_Some _ _ begins)) tt

-- Where a question waits at the place it begins, if its moment has come; the others go on.
pub begins_hold : (core new : RecursorCore) (told : Option (List LogEntry)) (start : ℕ) (turns rest left : List Turn) (questions : List Question)
    (old plays : List QuestionState) (q now : ℕ)
    → new.policy ≡ core.policy → IsOneMore core new
    → ((k : ℕ) → k ≢ q → slice_get plays k ≡ slice_get old k)
    → BeginsAt questions q now new (slice_get old q) (slice_get plays q)
    → ((k : ℕ) → k ≢ q → begin_moment core.moment rest k ≡ begin_moment new.moment left k)
    → (begin_moment start turns q ≡ begin_moment core.moment rest q → begin_moment start turns q ≤ now)
    → PlaysHold core told start turns rest questions old → PlaysHold new told start turns left questions plays
begins_hold core new told start turns rest left questions old plays q now policy begun others begins after due h k question p asks plays_p = ⊎_elim
    (λ (same : k ≡ q).
    let asks_q : slice_get questions q ≡ Some question = subst (λ i. slice_get questions i ≡ Some question) same asks in
    let plays_q : slice_get plays q ≡ Some p = subst (λ i. slice_get plays i ≡ Some p) same plays_p in
    let at_q : BeginsIf (Some question) now new (slice_get old q) (Some p) = rw (asks_q, plays_q) at begins in
    subst (λ i. PlayHolds new told start turns left i question p) (sym same)
    (begin_here core new told start turns rest left q now question (slice_get old q) p policy begun due at_q (λ was e. h q question was asks_q e)))
    (λ ne. play_more core new told start turns rest left k question p policy begun (λ e. after k ne)
    (h k question p asks (sym (others k ne) ∙ plays_p)))
    (same_or_not k q)

-- the reply of a question that is under way is one of a question that began no earlier
reply_for : (policy : Policy) (now t0 : ℕ) (begun : Option Begun) (question : Question) (reply : Reply) (log : Log)
    → ((b : Begun) → begun ≡ Some b → (b.question ≡ question) × (t0 ≤ b.moment)) → ReplyFor policy now begun reply log → ReplyHolds policy (machine_timer now) log t0 question reply
reply_for policy now t0 None question reply log is h = absurd h
reply_for policy now t0 (Some b) question reply log is h =
    let of = is b refl in
    reply-earlier (seen_at policy 0 now log) t0 b.moment question reply of.1 (subst (λ (x : Question). ReplyHolds policy (machine_timer now) log b.moment x reply) of.0 h)

module _ {P C F E : Type 0} (p : Ghosts P C F E) (patience now : ℕ) (core new : RecursorCore) (c later : Carrier P C F E p)
    (moves : Moves p patience now core new c later) (moment : new.moment ≡ core.moment) where
  -- the questions go on while the machine and the provider do
  pub plays_moved : (start : ℕ) (turns rest : List Turn) (questions : List Question) (plays : List QuestionState)
      → PlaysHold core (p.log c.provider) start turns rest questions plays → PlaysHold new (p.log later.provider) start turns rest questions plays
  plays_moved start turns rest questions plays h q question play asks at =
      play_on now core new (p.log c.provider) (p.log later.provider) start turns rest rest q question play moves.policy
      (let same = moves.begun.count in omega (arith, same)) (λ k b low e. moves.begun.each k b e) moves.grown
      (λ e. ap (λ m. begin_moment m rest q) (sym moment)) (h q question play asks at)

  -- one has its reply
  pub plays_answered : (start : ℕ) (turns rest : List Turn) (questions : List Question) (plays : List QuestionState) (q r : ℕ) (reply : Box Reply)
      → slice_get plays q ≡ Some (played.Begun r) → Contains (run_moments start turns) now → ReplyTold core.policy now (p.log later.provider) (begun_at core r) reply.value
      → PlaysHold core (p.log c.provider) start turns rest questions plays
      → PlaysHold new (p.log later.provider) start turns rest questions (set plays q (played.Answered reply))
  plays_answered start turns rest questions plays q r reply at here told h k question play asks play_k = ⊎_elim
      (λ (same : k ≡ q).
      let told_now = p.log later.provider in
      let asks_q : slice_get questions q ≡ Some question = subst (λ i. slice_get questions i ≡ Some question) same asks in
      let is : play ≡ played.Answered reply = same_Some _ _ (sym play_k ∙
      (ap (slice_get (set plays q (played.Answered reply))) same ∙ slice_get-set_same plays q (played.Answered reply) (slice_get_within plays q _ at))) in
      let f = h q question (played.Begun r) asks_q at in
      let given : PlayHolds new told_now start turns rest q question (played.Answered reply) = record {
        now = now;
        in_run = here;
        holds = λ es t.
            subst (λ (held : Policy). ReplyHolds held (machine_timer now) (log_of es) (begin_moment start turns q) question reply.value) (sym moves.policy)
            (reply_for core.policy now (begin_moment start turns q) (begun_at core r) question reply.value (log_of es) f.is (told es t));
      } in
      subst (λ i. PlayHolds new told_now start turns rest i question play) (sym same)
      (subst (λ (x : QuestionState). PlayHolds new told_now start turns rest q question x) (sym is) given))
      (λ ne. plays_moved start turns rest questions plays h k question play asks (sym (slice_get-set_other plays q k (played.Answered reply) ne) ∙ play_k))
      (same_or_not k q)

  -- memory ran out for one
  pub plays_unanswered : (start : ℕ) (turns rest : List Turn) (questions : List Question) (plays : List QuestionState) (q r : ℕ)
      → slice_get plays q ≡ Some (played.Begun r)
      → PlaysHold core (p.log c.provider) start turns rest questions plays
      → PlaysHold new (p.log later.provider) start turns rest questions (set plays q played.Unanswered)
  plays_unanswered start turns rest questions plays q r at h k question play asks play_k = ⊎_elim
      (λ (same : k ≡ q).
      let is : play ≡ played.Unanswered = same_Some _ _ (sym play_k ∙
      (ap (slice_get (set plays q played.Unanswered)) same ∙ slice_get-set_same plays q played.Unanswered (slice_get_within plays q _ at))) in
      subst (λ (x : QuestionState). PlayHolds new (p.log later.provider) start turns rest k question x) (sym is) tt)
      (λ ne. plays_moved start turns rest questions plays h k question play asks (sym (slice_get-set_other plays q k played.Unanswered ne) ∙ play_k))
      (same_or_not k q)

-- the reply that a question is given at last
reply_of_play : (core : RecursorCore) (told : Option (List LogEntry)) (start : ℕ) (turns rest : List Turn) (q : ℕ) (question : Question)
    (found : Option QuestionState) (reply : Reply) (es : List LogEntry)
    → told ≡ Some es → ReplyOf found reply
    → ((p : QuestionState) → found ≡ Some p → PlayHolds core told start turns rest q question p)
    → ReplyHolds core.policy (run_timer start turns) (log_of es) (begin_moment start turns q) question reply
reply_of_play core told start turns rest q question None reply es t of h =
    memory_holds core.policy (run_timer start turns) (log_of es) (begin_moment start turns q) question reply of.0 of.1
reply_of_play core told start turns rest q question (Some played.Waiting) reply es t of h =
    memory_holds core.policy (run_timer start turns) (log_of es) (begin_moment start turns q) question reply of.0 of.1
reply_of_play core told start turns rest q question (Some (played.Begun r)) reply es t of h =
    memory_holds core.policy (run_timer start turns) (log_of es) (begin_moment start turns q) question reply of.0 of.1
reply_of_play core told start turns rest q question (Some (played.Answered a)) reply es t of h =
    subst (λ (x : Reply). ReplyHolds core.policy (run_timer start turns) (log_of es) (begin_moment start turns q) question x) (sym of)
    (let given = h (played.Answered a) refl in
    reply-timed core.policy given.now (log_of es) start turns (begin_moment start turns q) question a.value given.in_run (given.holds es t))
reply_of_play core told start turns rest q question (Some played.Unanswered) reply es t of h =
    memory_holds core.policy (run_timer start turns) (log_of es) (begin_moment start turns q) question reply of.0 of.1

-- the replies that are given hold
pub replies_hold : (core : RecursorCore) (told : Option (List LogEntry)) (start : ℕ) (turns rest : List Turn) (questions : List Question)
    (plays : List QuestionState) (replies : List Reply)
    → PlaysHold core told start turns rest questions plays
    → ((q : ℕ) (reply : Reply) → slice_get replies q ≡ Some reply → ReplyOf (slice_get plays q) reply)
    → TellsThat told (λ log. RepliesHold core.policy log start turns questions replies)
replies_hold core told start turns rest questions plays replies h of es t q question reply asks at =
    reply_of_play core told start turns rest q question (slice_get plays q) reply es t (of q reply at) (λ p e. h q question p asks e)

-- before the first turn each question waits
pub plays_wait : (core : RecursorCore) (told : Option (List LogEntry)) (turns : List Turn) (questions : List Question)
    (plays : List QuestionState)
    → All (λ p. p ≡ played.Waiting) plays → PlaysHold core told core.moment turns turns questions plays
plays_wait core told turns questions plays waits q question p asks at =
    let read = get_or_from_slice_get plays q p p at in
    let is : p ≡ played.Waiting = sym read ∙ All-get_or (λ x. x ≡ played.Waiting) plays q p (slice_get_within plays q p at) waits in
    subst (λ (x : QuestionState). PlayHolds core told core.moment turns turns q question x) (sym is) refl

-- a turn whose moment has come, and that names no question, changes none
pub plays_skip : (core : RecursorCore) (told : Option (List LogEntry)) (start : ℕ) (turns rest : List Turn) (t : Turn)
    (questions : List Question) (plays : List QuestionState) → t.question ≡ 0 → t.moment ≤ core.moment
    → PlaysHold core told start turns (t ∷ rest) questions plays → PlaysHold core told start turns rest questions plays
plays_skip core told start turns rest t questions plays none le h q question p asks at =
    play_on 0 core core told told start turns (t ∷ rest) rest q question p refl (omega arith) (λ k b low e. e) (Grown-refl 0 told)
    (λ e. begin_after core.moment t rest q le (λ named. omega (arith, none, named))) (h q question p asks at)

-- that the moment of a turn comes changes none
pub plays_reach : (core new : RecursorCore) (told : Option (List LogEntry)) (start : ℕ) (turns rest : List Turn) (t : Turn)
    (questions : List Question) (plays : List QuestionState) → new.policy ≡ core.policy → new.resolutions ≡ core.resolutions → new.moment ≡ max core.moment t.moment
    → PlaysHold core told start turns (t ∷ rest) questions plays → PlaysHold new told start turns (t ∷ rest) questions plays
plays_reach core new told start turns rest t questions plays policy same moment h q question p asks at =
    play_on 0 core new told told start turns (t ∷ rest) (t ∷ rest) q question p policy (rw same (omega arith)) (λ k b low e. rw same at e) (Grown-refl 0 told)
    (λ e. begin_reached core.moment new.moment t rest q moment) (h q question p asks at)
