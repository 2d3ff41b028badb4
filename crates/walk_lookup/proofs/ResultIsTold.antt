-- What a lookup came to is told and written as what it was answered.
use Rattle.walk_lookup.proofs.Names.{◌≡◌, ℕ, Bool, true, false, List, Option, Some, None, IfSome, Result, Ok, Err, refl, sym, ap, subst, ◌∙◌, arith, unwrap_or, if◌then◌else◌, option_and_then, false_from_ne_true, same_Some, none-some, DomainName, Query, Message, DnsError, NetError, Cached, Answered, Verdict, Walked, out_of_memory, closed_by, Shared, lookup_at, kept_of, last_of, classified, ComesTo, with_came, PendingHolds, Telling, telling, with_response, remembered, answer_at, telling_by, ComesBy, with_found, with_sought, LogView, LookupResult, PendingLookup}
use Rattle.std.specs.Option.{option_map}
use Rattle.walk_response.proofs.NotKept.{not-kept}
use Rattle.walk_lookup.proofs.AnswerInLog.{ClassHolds, class-holds}
use Rattle.walk_lookup.proofs.CacheIsDerived.{TellingHolds}
use Rattle.dns_core.specs.declared.net_error.NetError.TheVariants as net
use Rattle.walk_lookup.specs.declared.lookup_result.LookupResult.TheVariants as found

-- the moment of the last end
pub at-more : (b c : Bool) (now at : ℕ) → b ≡ c → unwrap_or (if b then Some now else None) at ≡ (if c then now else at)
at-more true c now at is = ap (λ (d : Bool). if d then now else at) is
at-more false c now at is = ap (λ (d : Bool). if d then now else at) is

-- what a lookup was told
class-tells : (view : LogView) (t0 : ℕ) (zone : DomainName) (q : Query) (g : List ℕ) (at : ℕ) (class : Result (Result Message DnsError) NetError) (t : Telling)
    → Walked view.policy view.log q zone → telling zone q (last_of g) at class ≡ Some t → ClassHolds view t0 zone q g at class → TellingHolds view t
class-tells view t0 zone q g at (Err error) t walked is h = cc
class-tells view t0 zone q g at (Ok class) t walked is h =
    subst (TellingHolds view) (same_Some _ _ is) (record { t0 = t0; told = h; walked = walked })

-- out of memory tells no response
pub memory-none : (zone : DomainName) (q : Query) (entry at : ℕ) (told : Answered) → out_of_memory told ≡ true → telling zone q entry at (classified told) ≡ None
memory-none zone q entry at (Err net.NoMemory) out = refl
memory-none zone q entry at _ out = cc

-- What a lookup was answered that is sought so was told by a server of the zone to which a walk went down for its question.
pub sought-tells : (view : LogView) (shared : Shared) (n : ℕ) (s : PendingLookup) → PendingHolds view shared n s → (told : Option Answered) → answer_at shared n ≡ told → (t : Telling)
    → option_and_then (λ told. telling s.zone s.query (last_of (closed_by (lookup_at shared n))) s.at (classified told)) told ≡ Some t → TellingHolds view t
sought-tells view shared n s h None answers t is = cc
sought-tells view shared n s h (Some told) answers t is =
    let ends = closed_by (lookup_at shared n) in
    let kept = false_from_ne_true (out_of_memory told) (λ out. none-some t (sym (memory-none s.zone s.query (last_of ends) s.at told out) ∙ is)) in
    class-tells view s.start s.zone s.query ends s.at (classified told) t h.served.walked is
    (class-holds view shared n s h s.start told (omega arith) answers kept)

-- what it tells does not rest on what is known of it
pub telling-came : (shared : Shared) (n : ℕ) (came : Option LookupResult) (o : Option PendingLookup) → option_and_then (telling_by shared n) (option_map (with_came came) o) ≡ option_and_then (telling_by shared n) o
telling-came shared n came None = refl
telling-came shared n came (Some s) = refl

-- what is written of it is what it tells
found-writes : (cache : Cached) (s : PendingLookup) (entry : ℕ) (class : Result (Result Message DnsError) NetError) (came : LookupResult)
    → ComesTo s.zone s.query entry class came → with_found cache (Some came) s ≡ remembered cache (telling s.zone s.query entry s.at class)
found-writes cache s entry (Ok class) (found.Told told (Ok v)) comes =
    ap (λ (k : ℕ). with_response cache s.query k s.at (kept_of v)) comes.0
    ∙ sym (ap (λ (o : Option Verdict). with_response cache s.query entry s.at (option_and_then kept_of o)) comes.1)
found-writes cache s entry (Ok class) (found.Told told (Err e)) comes = ap (with_response cache s.query entry s.at) (not-kept s.query class s.zone e comes.1)
found-writes cache s entry (Err error) (found.Error failed) comes = refl
found-writes cache s entry _ _ comes = absurd comes

pub comes-writes : (cache : Cached) (shared : Shared) (n : ℕ) (came : Option LookupResult) (o : Option PendingLookup)
    → IfSome o (ComesBy shared n came) → with_sought cache o came ≡ remembered cache (option_and_then (telling_by shared n) o)
comes-writes cache shared n came None comes = refl
comes-writes cache shared n None (Some s) comes = sym (ap (remembered cache) comes)
comes-writes cache shared n (Some came) (Some s) has =
    let entry = last_of (closed_by (lookup_at shared n)) in
    found-writes cache s entry (classified has.told) came has.comes
    ∙ sym (ap (λ (o : Option Answered). remembered cache (option_and_then (λ told. telling s.zone s.query entry s.at (classified told)) o)) has.answered)
