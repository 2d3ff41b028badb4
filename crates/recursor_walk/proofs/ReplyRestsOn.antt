-- What a reply rests on.
use Rattle.recursor_walk.proofs.QueryWords.{◌≡◌, ℕ, IsTrue, Bool, true, false, cond, List, [], ◌∷◌, ◌++◌, Option, Some, None, Contains, refl, sym, ap, subst, ◌∙◌, ◌≤◌, arith, inl, inr, Result, Ok, Err, IfOk, ◌&&◌, ◌==◌, not, is_some, find, filter, if◌then◌else◌, is_none, same_Some, none-some, filter-append, second_so, IpAddr, DomainName, Log, Query, Message, Record, Question, NoRecords, ForwardNsData, NetError, candidates, walk, question, is_delegation, glue, allowed, Base, FinishedLookup, Pos, Neg, Made, Verdict, Filter, Zone, Same-is_delegation, Same-glue, Same-strip, Same, LogView, AnswerIsSound, OutcomeCame, CameTo, ErrorCame, HadMemory, RepliesSo, Concluded, machine_timer, IsNegative, LookupFailed, NoServerFound, Walked, Same-refl, itself, on_the_way, received, made, referred, error-sound, outcome-sound, leads-here, IsUsableFor, Answers, IsOwnVerdict, ReachesName, AskedAs, SameIfAny, SameReferrals, SameNoRecords, SameVerdict, ShowsAsked, IsMadeFor, IsShown, nothing_left_for, left_of_class, received_negative, told_negative, made_negative, ends_walk, outcome_of, RecursorError, Negative, ForwardNS, Reply, same_query-refl, answer_whole}
use Rattle.dns_core.specs.declared.errors.NoMemory.{NoMemory}
use Rattle.std.specs.Global.{Box}
use Rattle.std.proofs.lemmas.Result.{IfOk-weaker}
use Rattle.dns_core.specs.Stripping.{strip_of}
use Rattle.dns_core.specs.declared.net_error.DnsError.{DnsError}
use Rattle.resolution.specs.Records.{records, only}
use Rattle.resolution.specs.Class.{class_of, class_of_classified, is_foreign}
use Rattle.resolution.specs.Verdict.{is_all_denied, without_denied, holds_denied}
use Rattle.resolution.specs.declared.class.Class.{Class}
use Rattle.resolution.specs.declared.class.Class.TheVariants.{Error, Code, Truncated, Negative as NoData, Foreign, Positive}
use Rattle.resolution.specs.declared.verdict.Cause.{Cause}
use Rattle.walk_response.specs.Response.{error_of}
use Rattle.walk_lookup.specs.LookupResult.{IsToldAs}
use Rattle.dns_core.specs.declared.log.ToldOutcome.{ToldOutcome}
use Rattle.resolution.specs.Causes.{is_lookup_error}
use Rattle.recursor_types.specs.declared.error.WalkCause.TheVariants as why
use Rattle.recursor_types.specs.declared.error.RecursorError.TheVariants as error
use Rattle.walk_lookup.proofs.ResponseCounts.{Counts, counts-of}
use Rattle.recursor_walk.proofs.SameButTtls.{negative_same, data_same}
use Rattle.resolver_settings.specs.Access.{denies as access_denies}
use Rattle.dns_core.specs.declared.net_error.DnsError.TheVariants as dns
use Rattle.resolution.specs.Failing as failing

-- ---- what counts

-- it was told of the question, since it began
abbrev base-of : (view : LogView) (t0 : ℕ) (zone : DomainName) (q : Query) (entry at : ℕ) (v : Verdict)
    → (h : Counts view t0 zone q entry at v) → Base view.policy view.log t0 q entry zone h.whole
base-of view t0 zone q entry at v h =
    record { told = h.outcome; moment = at; heard = h.heard; counts = h.counts; fresh = inl h.late }

-- what counts was told at or after t0, and for NS records by the name's own servers
own-of : (view : LogView) (t0 : ℕ) (q : Query) (zone : DomainName) (moment : ℕ) (v : Verdict) → t0 ≤ moment
    → ReachesName view.policy view.log q zone → IsOwnVerdict view t0 q zone moment v
own-of view t0 q zone moment (Pos kept) late reaches = inr (late, reaches)
own-of view t0 q zone moment (Neg n) late reaches = tt
own-of view t0 q zone moment (Made cause) late reaches = tt

-- what is shown so is the same
shown-same : (q : Query) (v whole : Verdict) → IsShown q v whole → SameVerdict q v whole
shown-same q (Pos a) (Pos b) h = subst (Same a) h (Same-refl a)
shown-same q (Neg a) (Neg b) h = subst (SameNoRecords a) h (negative_same a)
shown-same q (Neg a) (Made Filter) h = record { first = q; same = same_query-refl q; is = h }
shown-same q (Made a) (Made b) h = h
shown-same q _ _ h = absurd h

-- what is shown so for the question as it was asked shows that
shown-asked : (log : Log) (i : ℕ) (q : Query) (v whole : Verdict) → AskedAs log i q → IsShown q v whole → ShowsAsked log i q v whole
shown-asked log i q (Neg a) (Made Filter) asked h = subst (λ (n : NoRecords). AskedAs log i n.query) (sym h) asked
shown-asked log i q (Neg a) (Made Zone) asked h = absurd h
shown-asked log i q (Made a) whole asked h = asked
shown-asked log i q _ _ asked h = tt

-- what counts, of a server of the zone to which a walk went down, stands
abbrev stands-of : (view : LogView) (t0 : ℕ) (zone : DomainName) (q : Query) (entry at : ℕ) (v : Verdict)
    → Counts view t0 zone q entry at v → Walked view.policy view.log q zone → IsUsableFor view t0 q entry v
stands-of view t0 zone q entry at v h walked = record {
  zone = zone;
  whole = h.whole;
  early = h.early;
  base = base-of view t0 zone q entry at v h;
  walked = walked;
  same = shown-same q v h.whole h.shown;
  asked = shown-asked view.log entry q v h.whole h.asked h.shown;
}

-- and it may be answered
answers-of : (view : LogView) (t0 : ℕ) (zone : DomainName) (q : Query) (entry at : ℕ) (v : Verdict)
    → Counts view t0 zone q entry at v → Walked view.policy view.log q zone → ReachesName view.policy view.log q zone
    → Answers view t0 q entry v
answers-of view t0 zone q entry at v h walked reaches =
    record { stands = stands-of view t0 zone q entry at v h walked; own = own-of view t0 q zone at h.whole h.late reaches }

-- what is not found is not found where less is left
not_found_in : {X : Type 0} (p f : X → Bool) (xs : List X) → find p xs ≡ None → find p (filter f xs) ≡ None
not_found_in p f [] e = refl
not_found_in {X} p f (x ∷ xs) e = at_head (f x) (p x) refl e (not_found_in p f xs)
  where
    at_head : (b c : Bool) → p x ≡ c → cond c (Some x) (find p xs) ≡ None → (find p xs ≡ None → find p (filter f xs) ≡ None) → find p (cond b (x ∷ filter f xs) (filter f xs)) ≡ None
    at_head b true same h next = cc
    at_head true false same h next = ap (λ (t : Bool). cond t (Some x) (find p (filter f xs))) same ∙ next h
    at_head false false same h next = next h

-- the records that are left of a message
records-left : (f : Record → Bool) (m : Message) → records (only f m) ≡ filter f (records m)
records-left f m =
    ap (λ (rs : List Record). rs ++ filter f m.additionals) (sym (filter-append f m.answers m.authorities)) ∙ sym (filter-append f (m.answers ++ m.authorities) m.additionals)

left-message-fails : (q : Query) (kept : Message) (cut : Bool) (o : Option Record) (e : NetError) → cut ≡ false → o ≡ None
    → error_of (cond cut Truncated (elim o [ Some r ↦ Foreign r | None ↦ Positive kept ])) ≡ Some e → ⊥
left-message-fails q kept true o e whole none fails = cc
left-message-fails q kept false (Some r) e whole none fails = cc
left-message-fails q kept false None e whole none fails = cc

left-fails : (denied : IpAddr → Bool) (q : Query) (m : Message) (e : NetError) (all : Bool) → m.truncation ≡ false → find (is_foreign q) (records m) ≡ None
    → error_of (class_of_classified q (if all then Err (dns.NoRecordsFound (nothing_left_for q)) else Ok (without_denied denied m))) ≡ Some e → ⊥
left-fails denied q m e true whole none fails = cc
left-fails denied q m e false whole none fails =
    let f : Record → Bool = λ r. not (holds_denied denied r) in
    let kept = without_denied denied m in
    let left : find (is_foreign q) (records kept) ≡ None = ap (find (is_foreign q)) (records-left f m) ∙ not_found_in (is_foreign q) f (records m) none in
    left-message-fails q kept kept.truncation (find (is_foreign q) (records kept)) e whole left fails

-- what is left of a response has a verdict
left-no-error : (denied : IpAddr → Bool) (outcome : ToldOutcome) (q : Query) (response : Class) (class : Result Message DnsError) (e : NetError) → class_of outcome q ≡ Some response
    → left_of_class denied q response ≡ Some class → error_of (class_of_classified q class) ≡ Some e → ⊥
left-no-error denied outcome q (Positive m) class e is left fails =
    let whole = answer_whole outcome q m is in
    left-fails denied q m e (is_all_denied denied m) whole.0 whole.1
    (subst (λ (c : Result Message DnsError). error_of (class_of_classified q c) ≡ Some e) (sym (same_Some _ _ left)) fails)
left-no-error denied outcome q (NoData n) class e is left fails =
    absurd (none-some e (subst (λ (c : Result Message DnsError). error_of (class_of_classified q c) ≡ Some e) (sym (same_Some _ _ left)) fails))
left-no-error denied outcome q (Error f) class e is left fails = cc
left-no-error denied outcome q (Code c) class e is left fails = cc
left-no-error denied outcome q Truncated class e is left fails = cc
left-no-error denied outcome q (Foreign r) class e is left fails = cc

-- so has what was told to a lookup
pub told-no-error : (view : LogView) (t0 : ℕ) (zone : DomainName) (q : Query) (entry : ℕ) (e : NetError) → IsToldAs view t0 zone q entry (Err e) → ⊥
told-no-error view t0 zone q entry e h = left-no-error (access_denies view.policy.answer_filter) h.told.outcome q h.told.response h.class e h.told.is h.told.left h.counts

-- what was told to a lookup of the zone to which a walk went down stands
pub told-stands : (view : LogView) (t0 : ℕ) (zone : DomainName) (q : Query) (entry : ℕ) (v : Verdict)
    → IsToldAs view t0 zone q entry (Ok v) → Walked view.policy view.log q zone → IsUsableFor view t0 q entry v
told-stands view t0 zone q entry v h walked = stands-of view t0 zone q entry h.at v (counts-of view t0 zone q entry h.at h.class v h.told h.counts) walked

-- and may be answered
pub told-answers : (view : LogView) (t0 : ℕ) (zone : DomainName) (q : Query) (entry : ℕ) (v : Verdict)
    → IsToldAs view t0 zone q entry (Ok v) → Walked view.policy view.log q zone → ReachesName view.policy view.log q zone
    → Answers view t0 q entry v
told-answers view t0 zone q entry v h walked reaches =
    answers-of view t0 zone q entry h.at v (counts-of view t0 zone q entry h.at h.class v h.told h.counts) walked reaches

-- ---- replies

-- a response that stands is the answer, less what was not asked for
told-by : (view : LogView) (t0 : ℕ) (asked : Question) (entry : ℕ) (zone : DomainName) (kept : Message) (whole : Verdict)
    → (base : Base view.policy view.log t0 asked.query entry zone whole) → IsOwnVerdict view t0 asked.query zone base.moment whole → Walked view.policy view.log asked.query zone
    → SameVerdict asked.query (Pos kept) whole → AnswerIsSound view.policy view.log t0 asked (entry ∷ []) (strip_of kept asked.dnssec_ok)
told-by view t0 asked entry zone kept (Pos before) base own walked same = record {
  links = [];
  last = asked.query;
  entry = entry;
  zone = zone;
  kept = before;
  leads = leads-here;
  rest = refl;
  base = base;
  deepest = walked;
  own = own;
  same = Same-strip kept before asked.dnssec_ok same;
}
told-by view t0 asked entry zone kept _ base own walked same = absurd same

pub told-answer : (view : LogView) (t0 : ℕ) (asked : Question) (entry : ℕ) (kept : Message)
    → Answers view t0 asked.query entry (Pos kept) → AnswerIsSound view.policy view.log t0 asked (entry ∷ []) (strip_of kept asked.dnssec_ok)
told-answer view t0 asked entry kept h =
    told-by view t0 asked entry h.stands.zone kept h.stands.whole h.stands.base h.own h.stands.walked h.stands.same

-- an error that has a cause in the log is not out of memory
had-memory : (view : LogView) (t0 : ℕ) (q : Query) (g : List ℕ) (e : RecursorError) → ErrorCame view t0 q g e → HadMemory (Err e)
had-memory view t0 q g error.NoMemory h = absurd h.cause
had-memory view t0 q g _ h = tt

-- a question comes to an error by its cause
pub error-came : (view : LogView) (t0 : ℕ) (asked : Question) (g : List ℕ) (e : RecursorError) → ErrorCame view t0 asked.query g e → OutcomeCame view t0 asked g (Err e)
error-came view t0 asked g e h =
    (outcome-sound view.policy (machine_timer view.moment view.log t0) view.log t0 asked g e h, had-memory view t0 asked.query g e h)

-- a reply with what a question has come to
pub replies : (view : LogView) (t0 : ℕ) (asked : Question) (r : Result (Box Reply) NoMemory) (outcome : Result Message RecursorError) (g : List ℕ)
    → IfOk r (λ reply. reply.value ≡ record { outcome = outcome; grounds = g }) → OutcomeCame view t0 asked g outcome → RepliesSo view t0 asked r
replies view t0 asked r outcome g is came =
    IfOk-weaker r _ (λ reply. CameTo view t0 asked reply.value) (λ reply e. subst (CameTo view t0 asked) (sym e) came) is

-- a lookup for a question at the servers of the zone to which its walk went down failed
pub lookup-failed : (view : LogView) (t0 : ℕ) (zone : DomainName) (asked q : Query) (g : List ℕ) (e : NetError)
    → IsTrue (is_lookup_error e) → asked ≡ q → Concluded view t0 zone asked g (Err e) → Walked view.policy view.log q zone
    → LookupFailed view.policy (machine_timer view.moment view.log t0) view.log t0 q g e
lookup-failed view t0 zone asked q g e is same ended walked = record {
  zone = zone;
  is = is;
  ended = subst (λ (p : Query). FinishedLookup view.policy (machine_timer view.moment view.log t0) view.log t0 p zone g (Err e)) same ended;
  walked = walked;
}

-- ---- negatives

-- where the filter leaves nothing for a question, that question was asked
first-asked : (log : Log) (i : ℕ) (n : NoRecords) (first : Query) → n ≡ nothing_left_for first → AskedAs log i n.query → AskedAs log i first
first-asked log i n first is a = subst (AskedAs log i) (ap (λ (m : NoRecords). m.query) is) a

-- a negative that is answered at last: itself, or a referral
negative-by : (view : LogView) (t0 : ℕ) (q : Query) (entry : ℕ) (zone : DomainName) (n : NoRecords) (whole : Verdict)
    → Base view.policy view.log t0 q entry zone whole → Walked view.policy view.log q zone → SameVerdict q (Neg n) whole → ShowsAsked view.log entry q (Neg n) whole
    → ErrorCame view t0 q (entry ∷ []) (told_negative n)
negative-by view t0 q entry zone n (Made Filter) base walked same asked =
    subst (λ (m : NoRecords). ErrorCame view t0 q (entry ∷ []) (told_negative m)) (sym same.is)
    (error-sound (made {shown = same.first} {cause = Filter} itself (record { base = base; walked = walked }) same.same (first-asked view.log entry n same.first same.is asked)))
negative-by view t0 q entry zone n (Neg before) base walked same asked = by n.ns before.ns refl same.ns
  where
    by : (o p : Option (List ForwardNsData)) → before.ns ≡ p → SameIfAny SameReferrals o p
        → ErrorCame view t0 q (entry ∷ []) (elim o [ Some forward ↦ ForwardNS forward | None ↦ Negative (received_negative n) ])
    by None None e alike = error-sound (received itself (record { base = base; walked = walked }) e (data_same n before same))
    by (Some forward) (Some servers) e alike = error-sound (referred (record { base = base; walked = walked }) e alike)
    by _ _ e alike = absurd alike
negative-by view t0 q entry zone n _ base walked same asked = absurd same

answers-negative : (view : LogView) (t0 : ℕ) (q : Query) (entry : ℕ) (n : NoRecords)
    → IsUsableFor view t0 q entry (Neg n)
    → ErrorCame view t0 q (entry ∷ []) (told_negative n)
answers-negative view t0 q entry n h = negative-by view t0 q entry h.zone n h.whole h.base h.walked h.same h.asked

-- a question is the same as itself, in any case
made-for : (cause : Cause) (q : Query) → IsMadeFor cause q q
made-for Filter q = same_query-refl q
made-for Zone q = refl

-- a negative that the recursor makes, where one that it made before is a denial
made-by : (view : LogView) (t0 : ℕ) (q p : Query) (entry : ℕ) (zone : DomainName) (cause : Cause) (whole : Verdict)
    → ((before : Cause) → Base view.policy view.log t0 p entry zone (Made before) → IsMadeFor before p p → IsNegative view.policy view.log t0 q (entry ∷ []) (made_negative p before))
    → Base view.policy view.log t0 p entry zone whole → SameVerdict p (Made cause) whole → ErrorCame view t0 q (entry ∷ []) (Negative (made_negative p cause))
made-by view t0 q p entry zone cause (Made before) denies base same =
    subst (λ (x : Cause). ErrorCame view t0 q (entry ∷ []) (Negative (made_negative p x))) (sym same) (error-sound (denies before base (made-for before p)))
made-by view t0 q p entry zone cause _ denies base same = absurd same

answers-made : (view : LogView) (t0 : ℕ) (q : Query) (entry : ℕ) (cause : Cause)
    → IsUsableFor view t0 q entry (Made cause)
    → ErrorCame view t0 q (entry ∷ []) (Negative (made_negative q cause))
answers-made view t0 q entry cause h =
    made-by view t0 q q entry h.zone cause h.whole (λ before base same. made itself (record { base = base; walked = h.walked }) same h.asked) h.base h.same

-- what counts for the question and may be answered is the cause of what is answered with it
pub answered-by : (view : LogView) (t0 : ℕ) (asked : Question) (entry : ℕ) (v : Verdict)
    → Answers view t0 asked.query entry v
    → OutcomeCame view t0 asked (entry ∷ []) (outcome_of asked v)
answered-by view t0 asked entry (Pos kept) h = (told-answer view t0 asked entry kept h, tt)
answered-by view t0 asked entry (Neg n) h = error-came view t0 asked (entry ∷ []) (told_negative n) (answers-negative view t0 asked.query entry n h.stands)
answered-by view t0 asked entry (Made cause) h = error-came view t0 asked (entry ∷ []) (Negative (made_negative asked.query cause)) (answers-made view t0 asked.query entry cause h.stands)

-- a negative that ends a walk names no servers
ends-none : (n : NoRecords) → ends_walk n ≡ true → n.ns ≡ None
ends-none n e = by n.ns (second_so (n.response_code.code == 3) (is_none n.ns) e)
  where
    by : (o : Option (List ForwardNsData)) → is_none o ≡ true → o ≡ None
    by None h = refl
    by (Some forward) h = cc

-- nor does the verdict that was told
names-none : (before : NoRecords) → failing.ends_walk (Neg before) ≡ true → before.ns ≡ None
names-none before e = by before.ns (second_so (before.response_code.code == 3) (not (is_some before.ns)) e)
  where
    by : (o : Option (List ForwardNsData)) → not (is_some o) ≡ true → o ≡ None
    by None h = refl
    by (Some forward) h = cc

-- the same test of the verdict that was told
ends-verdict : (n before : NoRecords) → SameNoRecords n before → ends_walk n ≡ true → failing.ends_walk (Neg before) ≡ true
ends-verdict n before same e =
    sym (ap (λ (m : NoRecords). m.response_code.code == 3 && is_none n.ns) same.rest
    ∙ ap (λ (b : Bool). before.response_code.code == 3 && b) (both-none n.ns before.ns same.ns)) ∙ e
  where
    both-none : (o p : Option (List ForwardNsData)) → SameIfAny SameReferrals o p → is_none o ≡ is_none p
    both-none None None alike = refl
    both-none (Some forward) (Some servers) alike = refl
    both-none _ _ alike = absurd alike

-- a negative that ends a walk at a candidate
way-negative-by : (view : LogView) (t0 : ℕ) (q : Query) (entry : ℕ) (zone c : DomainName) (n : NoRecords) (whole : Verdict)
    → IsTrue view.policy.strict → Contains (candidates (walk q)) c → Base view.policy view.log t0 (question c 2) entry zone whole
    → Walked view.policy view.log (question c 2) zone → SameVerdict (question c 2) (Neg n) whole → ShowsAsked view.log entry (question c 2) (Neg n) whole → ends_walk n ≡ true
    → ErrorCame view t0 q (entry ∷ []) (told_negative n)
way-negative-by view t0 q entry zone c n (Made Filter) strict has base walked same asked ends =
    subst (λ (m : NoRecords). ErrorCame view t0 q (entry ∷ []) (told_negative m)) (sym same.is)
    (error-sound (made {shown = same.first} {cause = Filter} (on_the_way strict has refl) (record { base = base; walked = walked }) same.same (first-asked view.log entry n same.first same.is asked)))
way-negative-by view t0 q entry zone c n (Neg before) strict has base walked same asked ends =
    let ends_before = ends-verdict n before same ends in
    rw (ends-none n ends) (error-sound (received (on_the_way strict has ends_before) (record { base = base; walked = walked }) (names-none before ends_before) (data_same n before same)))
way-negative-by view t0 q entry zone c n _ strict has base walked same asked ends = absurd same

pub answers-on-the-way : (view : LogView) (t0 : ℕ) (q : Query) (entry : ℕ) (c : DomainName) (n : NoRecords)
    → IsTrue view.policy.strict → Contains (candidates (walk q)) c → IsUsableFor view t0 (question c 2) entry (Neg n) → ends_walk n ≡ true
    → ErrorCame view t0 q (entry ∷ []) (told_negative n)
answers-on-the-way view t0 q entry c n strict has h ends =
    way-negative-by view t0 q entry h.zone c n h.whole strict has h.base h.walked h.same h.asked ends

-- one that it makes at a candidate
pub made-on-the-way : (view : LogView) (t0 : ℕ) (q : Query) (entry : ℕ) (c : DomainName) (cause : Cause)
    → IsTrue view.policy.strict → Contains (candidates (walk q)) c → IsUsableFor view t0 (question c 2) entry (Made cause)
    → ErrorCame view t0 q (entry ∷ []) (Negative (made_negative (question c 2) cause))
made-on-the-way view t0 q entry c cause strict has h =
    made-by view t0 q (question c 2) entry h.zone cause h.whole (λ before base same. made (on_the_way strict has refl) (record { base = base; walked = h.walked }) same h.asked) h.base h.same

-- ---- delegations without addresses

-- a list in which nothing is has no elements
none-in : {X : Type 0} (xs : List X) → ((x : X) → Contains xs x → ⊥) → xs ≡ []
none-in [] h = refl
none-in (x ∷ xs) h = absurd (h x (0, omega arith, refl))

-- a delegation that stands and gives no address that may be asked
glueless-by : (view : LogView) (t0 : ℕ) (q : Query) (zone c : DomainName) (entry : ℕ) (kept : Message) (whole : Verdict)
    → Contains (candidates (walk q)) c → Base view.policy view.log t0 (question c 2) entry zone whole → SameVerdict (question c 2) (Pos kept) whole
    → is_delegation kept c ≡ true → allowed (access_denies view.policy.server_filter) (glue kept c) ≡ [] → NoServerFound view.policy (machine_timer view.moment view.log t0) view.log t0 q why.NoAddress
glueless-by view t0 q zone c entry kept (Pos before) has base same delegates none = (
  c,
  before,
  has,
  record {
    i = entry;
    z = zone;
    base = base;
    delegates = sym (Same-is_delegation kept before c same) ∙ delegates;
    none = subst (λ (ips : List IpAddr). allowed (access_denies view.policy.server_filter) ips ≡ []) (Same-glue kept before c same) none;
  },
)
glueless-by view t0 q zone c entry kept _ has base same delegates none = absurd same

pub glueless-of : (view : LogView) (t0 : ℕ) (q : Query) (c : DomainName) (asked : Query) (entry : ℕ) (kept : Message)
    → Contains (candidates (walk q)) c → IsUsableFor view t0 asked entry (Pos kept) → asked ≡ question c 2 → is_delegation kept c ≡ true
    → ((ip : IpAddr) → Contains (allowed (access_denies view.policy.server_filter) (glue kept c)) ip → ⊥)
    → NoServerFound view.policy (machine_timer view.moment view.log t0) view.log t0 q why.NoAddress
glueless-of view t0 q c asked entry kept has h is delegates none =
    let now = subst (λ (p : Query). IsUsableFor view t0 p entry (Pos kept)) is h in
    glueless-by view t0 q now.zone c entry kept now.whole has now.base now.same delegates
    (none-in (allowed (access_denies view.policy.server_filter) (glue kept c)) none)
