-- An answer where no address is denied.
use Rattle.std.proofs.Common.{◌≡◌, Bool, true, false, cond, refl, ap, sym, subst, ◌∙◌, List, [], ◌∷◌, Option, Some, None, Ok, Err, length}
use Rattle.std.specs.Prelude.{not, ◌&&◌, ◌||◌, ◌==◌, filter, find, if◌then◌else◌}
use Rattle.std.specs.declared.net.ip_addr.IpAddr.{IpAddr}
use Rattle.dns_core.specs.declared.record.Record.{Record}
use Rattle.dns_core.specs.declared.message.Message.{Message}
use Rattle.dns_core.specs.declared.message.Query.{Query}
use Rattle.resolution.specs.Verdict.{allows_all}
use Rattle.resolution.specs.Class.{is_foreign}
use Rattle.resolution.specs.Records.{address, records}
use Rattle.resolution.specs.Lookups.{Answered}
use Rattle.resolution.specs.Verdict.{holds_denied, without_denied, is_emptied, is_all_denied}
use Rattle.pool_rules.specs.AnswerFilter.{filtered, foreign_class, nothing_left}

filter-true : {X : Type 0} (p : X → Bool) (xs : List X) → ((x : X) → p x ≡ true) → filter p xs ≡ xs
filter-true p [] f = refl
filter-true p (x ∷ xs) f = ap (λ b. cond b (x ∷ filter p xs) (filter p xs)) (f x) ∙ ap (λ l. x ∷ l) (filter-true p xs f)

allowed : (o : Option IpAddr) → (elim o [ None ↦ false | Some ip ↦ allows_all ip ]) ≡ false
allowed None = refl
allowed (Some ip) = refl

all_stay : (rs : List Record) → filter (λ r. not (holds_denied allows_all r)) rs ≡ rs
all_stay rs = filter-true (λ r. not (holds_denied allows_all r)) rs (λ r. ap not (allowed (address r)))

none_denied : (m : Message) → without_denied allows_all m ≡ m
none_denied m =
    let p : Record → Bool = λ r. not (holds_denied allows_all r) in
    ap (λ (rs : List Record). record m { answers = rs; authorities = filter p m.authorities; additionals = filter p m.additionals }) (all_stay m.answers)
    ∙ ap (λ (rs : List Record). record m { answers = m.answers; authorities = rs; additionals = filter p m.additionals }) (all_stay m.authorities)
    ∙ ap (λ (rs : List Record). record m { answers = m.answers; authorities = m.authorities; additionals = rs }) (all_stay m.additionals)

nothing_left_out : (a b : Bool) → ((not a && a) || (a && not b && b)) ≡ false
nothing_left_out true true = refl
nothing_left_out true false = refl
nothing_left_out false b = refl

-- the answer itself
allowed_whole : (q : Query) (m : Message) → (if is_all_denied allows_all m then Err (nothing_left q) else Ok (without_denied allows_all m)) ≡ Ok m
allowed_whole q m =
    ap (λ (k : Message). if is_emptied m k then Err (nothing_left q) else Ok k) (none_denied m)
    ∙ ap (λ (b : Bool). if b then Err (nothing_left q) else Ok m) (nothing_left_out (length m.answers == 0) (length m.authorities == 0))

-- where no record is of another class, what the addresses leave
pub of_one_class : (q : Query) (denied : IpAddr → Bool) (m : Message) → find (is_foreign q) (records m) ≡ None
    → filtered q denied m ≡ (if is_all_denied denied m then Err (nothing_left q) else Ok (without_denied denied m))
of_one_class q denied m h =
    let P : Option Record → Type 0 = λ o. (elim o as (λ _. Answered) [ Some r ↦ Err (foreign_class r) | None ↦ if is_all_denied denied m then Err (nothing_left q) else Ok (without_denied denied m) ])
    ≡ (if is_all_denied denied m then Err (nothing_left q) else Ok (without_denied denied m)) in
    subst P (sym h) refl

pub unfiltered : (q : Query) (m : Message) → find (is_foreign q) (records m) ≡ None → filtered q allows_all m ≡ Ok m
unfiltered q m h = of_one_class q allows_all m h ∙ allowed_whole q m
