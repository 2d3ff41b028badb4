-- A filter that denies nothing leaves a message as it is.
use Rattle.std.proofs.Common.{◌≡◌, Bool, true, false, cond, refl, ap, sym, ◌∙◌, List, [], ◌∷◌, Option, Some, None, length}
use Rattle.std.specs.Prelude.{not, ◌&&◌, ◌||◌, ◌==◌, filter, if◌then◌else◌}
use Rattle.std.specs.declared.net.ip_addr.IpAddr.{IpAddr}
use Rattle.dns_core.specs.declared.record.Record.{Record}
use Rattle.dns_core.specs.declared.message.Message.{Message}
use Rattle.dns_core.specs.Name.{DomainName}
use Rattle.resolution.specs.Verdict.{allows_all}
use Rattle.resolution.specs.Records.{address}
use Rattle.resolution.specs.Verdict.{holds_denied, without_denied, in_bailiwick, is_emptied, verdict_of_message}
use Rattle.resolution.specs.declared.verdict.Verdict.{Verdict}
use Rattle.resolution.specs.declared.verdict.Verdict.TheVariants.{Pos, Made}
use Rattle.resolution.specs.declared.verdict.Cause.TheVariants.{Filter, Zone}

filter-true : {X : Type 0} (p : X → Bool) (xs : List X) → ((x : X) → p x ≡ true) → filter p xs ≡ xs
filter-true p [] f = refl
filter-true p (x ∷ xs) f = ap (λ b. cond b (x ∷ filter p xs) (filter p xs)) (f x) ∙ ap (λ l. x ∷ l) (filter-true p xs f)

allowed : (o : Option IpAddr) → (elim o [ None ↦ false | Some ip ↦ allows_all ip ]) ≡ false
allowed None = refl
allowed (Some ip) = refl

stays : (r : Record) → not (holds_denied allows_all r) ≡ true
stays r = ap not (allowed (address r))

all_stay : (rs : List Record) → filter (λ r. not (holds_denied allows_all r)) rs ≡ rs
all_stay rs = filter-true (λ r. not (holds_denied allows_all r)) rs stays

pub none_denied : (m : Message) → without_denied allows_all m ≡ m
none_denied m =
    let p : Record → Bool = λ r. not (holds_denied allows_all r) in
    ap (λ (rs : List Record). record m { answers = rs; authorities = filter p m.authorities; additionals = filter p m.additionals }) (all_stay m.answers)
    ∙ ap (λ (rs : List Record). record m { answers = m.answers; authorities = rs; additionals = filter p m.additionals }) (all_stay m.authorities)
    ∙ ap (λ (rs : List Record). record m { answers = m.answers; authorities = m.authorities; additionals = rs }) (all_stay m.additionals)

nothing_left_out : (a b : Bool) → ((not a && a) || (a && not b && b)) ≡ false
nothing_left_out true true = refl
nothing_left_out true false = refl
nothing_left_out false b = refl

-- what a message counts for where no address is denied
pub verdict_allowed : (m : Message) (z : DomainName) → verdict_of_message allows_all m z ≡ (if is_emptied m (in_bailiwick z m) then Made Zone else Pos (in_bailiwick z m))
verdict_allowed m z =
    let rest : Message → Verdict = λ k. if is_emptied k (in_bailiwick z k) then Made Zone else Pos (in_bailiwick z k) in
    ap (λ (k : Message). if is_emptied m k then Made Filter else rest k) (none_denied m)
    ∙ ap (λ (b : Bool). if b then Made Filter else rest m) (nothing_left_out (length m.answers == 0) (length m.authorities == 0))

-- what four tests say of what was left out
pub emptied_by : (m kept : Message) (a n d u r : Bool) → a ≡ (length m.answers == 0) → n ≡ (length kept.answers == 0) → d ≡ (length m.authorities == 0) → u ≡ (length kept.authorities == 0)
    → r ≡ ((not a && n) || (n && not d && u)) → is_emptied m kept ≡ r
emptied_by m kept a n d u r ea en ed eu er =
    let A = length m.answers == 0 in
    let N = length kept.answers == 0 in
    let D = length m.authorities == 0 in
    sym (er
    ∙ ap (λ (x : Bool). (not x && n) || (n && not d && u)) ea
    ∙ ap (λ (x : Bool). (not A && x) || (x && not d && u)) en
    ∙ ap (λ (x : Bool). (not A && N) || (N && not x && u)) ed
    ∙ ap (λ (x : Bool). (not A && N) || (N && not D && x)) eu)

pub made_of : (m kept : Message) (z : DomainName) → kept ≡ in_bailiwick z m → is_emptied m kept ≡ true → Made Zone ≡ verdict_of_message allows_all m z
made_of m kept z k e =
    sym (verdict_allowed m z
    ∙ ap (λ (x : Message). if is_emptied m x then Made Zone else Pos (in_bailiwick z m)) (sym k)
    ∙ ap (λ (b : Bool). if b then Made Zone else Pos (in_bailiwick z m)) e)

pub pos_of : (m kept : Message) (z : DomainName) → kept ≡ in_bailiwick z m → is_emptied m kept ≡ false → Pos kept ≡ verdict_of_message allows_all m z
pos_of m kept z k e =
    ap Pos k ∙ sym (verdict_allowed m z
    ∙ ap (λ (x : Message). if is_emptied m x then Made Zone else Pos (in_bailiwick z m)) (sym k)
    ∙ ap (λ (b : Bool). if b then Made Zone else Pos (in_bailiwick z m)) e)
