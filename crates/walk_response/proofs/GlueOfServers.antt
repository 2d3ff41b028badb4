-- Lists with the same addresses, and what the servers of a delegation lend.
use Rattle.std.proofs.Common.{◌≡◌, ℕ, ◌+◌, ◌<◌, ◌≤◌, inl, inr, Bool, true, false, cond, List, [], ◌∷◌, ◌++◌, take, length, get_or, Option, Some, None, refl, ap, sym, ◌∙◌, subst, append_assoc}
use Rattle.std.specs.Prelude.{Contains, filter, not, if◌then◌else◌}
use Rattle.std.specs.List.{list_any, filter_map, flat_map, cons_option}
use Rattle.std.specs.declared.net.ip_addr.IpAddr.{IpAddr}
use Rattle.std.proofs.lemmas.List.{take_all, take_more, append-nil}
use Rattle.std.proofs.lemmas.List.Elements.{Contains-append_left, Contains-append_right, Contains-append_cases, filter_map-append}
use Rattle.std.proofs.lemmas.Grind.{flat_map-append}
use Rattle.dns_core.specs.Name.{DomainName, same_names}
use Rattle.dns_core.specs.declared.record.Record.{Record}
use Rattle.dns_core.specs.declared.message.Message.{Message}
use Rattle.resolution.specs.Names.{base}
use Rattle.resolution.specs.Records.{address, records}
use Rattle.resolution.specs.Serving.{address_under, target_below, targets, glue, allowed}
use Rattle.resolution.proofs.ElementsFiltered.{Has, Has-from_Contains, Contains-from_Has, Has-filter, Has-passes, Has-filter_map, filter_map-Has, flat_map-Has, Has-append_cases}
use Rattle.resolution.proofs.ElementsFiltered.{any_Has, Has_any}
use Rattle.walk_response.specs.Lending.{SameElements, glue_of, lent_by, lent_for}

pub same-trans : (xs ys zs : List IpAddr) → SameElements xs ys → SameElements ys zs → SameElements xs zs
same-trans xs ys zs a b ip = ((λ h. (b ip).0 ((a ip).0 h)), (λ h. (a ip).1 ((b ip).1 h)))

same-equal : (xs ys zs : List IpAddr) → ys ≡ zs → SameElements xs ys → SameElements xs zs
same-equal xs ys zs e a = subst (λ (l : List IpAddr). SameElements xs l) e a

append-more : (xs ys zs : List IpAddr) → ((ip : IpAddr) → Contains xs ip → Contains ys ip) → (ip : IpAddr) → Contains (xs ++ zs) ip → Contains (ys ++ zs) ip
append-more xs ys zs a ip h = elim (Contains-append_cases xs zs ip h) [ inl k ↦ Contains-append_left ys zs ip (a ip k) | inr k ↦ Contains-append_right ys zs ip k ]

same-append : (xs ys zs : List IpAddr) → SameElements xs ys → SameElements (xs ++ zs) (ys ++ zs)
same-append xs ys zs a ip = (append-more xs ys zs (λ x h. (a x).0 h) ip, append-more ys xs zs (λ x h. (a x).1 h) ip)

-- what two steps add, one after the other
same-after : (old mid new xs ys : List IpAddr) → SameElements mid (old ++ xs) → SameElements new (mid ++ ys) → SameElements new (old ++ (xs ++ ys))
same-after old mid new xs ys a b =
    same-equal new ((old ++ xs) ++ ys) (old ++ (xs ++ ys)) (append_assoc old xs ys)
    (same-trans new (mid ++ ys) ((old ++ xs) ++ ys) b (same-append mid (old ++ xs) ys a))

-- the next record of a section, where joined lists of records lend one after the other
pub same-next : (lend : List Record → List IpAddr) → ((xs ys : List Record) → lend (xs ++ ys) ≡ lend xs ++ lend ys) → (old mid new : List IpAddr) (rs : List Record) (i : ℕ) (r : Record)
    → i < length rs → r ≡ get_or rs i r → SameElements mid (old ++ lend (take i rs)) → SameElements new (mid ++ lend (r ∷ [])) → SameElements new (old ++ lend (take (i + 1) rs))
same-next lend joins old mid new rs i r below here before now =
    let more : take i rs ++ r ∷ [] ≡ take (i + 1) rs = ap (λ (x : Record). take i rs ++ x ∷ []) here ∙ sym (take_more rs i r below) in
    same-equal new (old ++ (lend (take i rs) ++ lend (r ∷ []))) (old ++ lend (take (i + 1) rs))
    (ap (λ (l : List IpAddr). old ++ l) (sym (joins (take i rs) (r ∷ [])) ∙ ap lend more))
    (same-after old mid new (lend (take i rs)) (lend (r ∷ [])) before now)

-- after the last record of a section
pub same-last : (lend : List Record → List IpAddr) (old new : List IpAddr) (rs : List Record) (i : ℕ) → length rs ≤ i → SameElements new (old ++ lend (take i rs)) → SameElements new (old ++ lend rs)
same-last lend old new rs i over a = same-equal new (old ++ lend (take i rs)) (old ++ lend rs) (ap (λ (l : List Record). old ++ lend l) (take_all i rs over)) a

-- three sections, one after the other
pub same-sections : (lend : List Record → List IpAddr) → ((xs ys : List Record) → lend (xs ++ ys) ≡ lend xs ++ lend ys) → (m : Message) (old first second new : List IpAddr) (a b d : List Record)
    → a ≡ m.answers → b ≡ m.authorities → d ≡ m.additionals
    → SameElements first (old ++ lend a) → SameElements second (first ++ lend b) → SameElements new (second ++ lend d) → SameElements new (old ++ lend (records m))
same-sections lend joins m old first second new a b d ea eb ed f s t =
    same-equal new (old ++ ((lend a ++ lend b) ++ lend d)) (old ++ lend (records m))
    (ap (λ (l : List IpAddr). old ++ l) (ap (λ (l : List IpAddr). l ++ lend d) (sym (joins a b)) ∙ sym (joins (a ++ b) d))
    ∙ ap (λ (l : List Record). old ++ lend (l ++ b ++ d)) ea ∙ ap (λ (l : List Record). old ++ lend (m.answers ++ l ++ d)) eb ∙ ap (λ (l : List Record). old ++ lend (m.answers ++ m.authorities ++ l)) ed)
    (same-after old second new (lend a ++ lend b) (lend d) (same-after old first second (lend a) (lend b) f s) t)

pub lent_by-append : (target : DomainName) (xs ys : List Record) → lent_by target (xs ++ ys) ≡ lent_by target xs ++ lent_by target ys
lent_by-append target xs ys = filter_map-append (glue_of target) xs ys

pub lent_for-append : (rs : List Record) (zone : DomainName) (xs ys : List Record) → lent_for rs zone (xs ++ ys) ≡ lent_for rs zone xs ++ lent_for rs zone ys
lent_for-append rs zone xs ys =
    let each : DomainName → List IpAddr = λ target. lent_by target rs in
    ap (flat_map each) (filter_map-append (target_below zone) xs ys)
    ∙ flat_map-append each (filter_map (target_below zone) xs) (filter_map (target_below zone) ys)

pub lent-named : (rs : List Record) (zone target : DomainName) (r : Record) → Some target ≡ target_below zone r → lent_by target rs ≡ lent_for rs zone (r ∷ [])
lent-named rs zone target r e =
    sym (append-nil (lent_by target rs)) ∙ ap (λ (o : Option DomainName). flat_map (λ t. lent_by t rs) (cons_option o [])) e

lent-chosen : (b : Bool) (o : Option IpAddr) (ip : IpAddr) → (if b then o else None) ≡ Some ip → (b ≡ true) × (o ≡ Some ip)
lent-chosen true o ip e = (refl, e)
lent-chosen false o ip e = cc

from_flat_map : {X Y : Type 0} (f : X → List Y) (xs : List X) (y : Y) → Has (flat_map f xs) y → (x : X) × Has xs x × Has (f x) y
from_flat_map f [] y h = elim h [ ]
from_flat_map {X} {Y} f (x ∷ xs) y h = elim (Has-append_cases (f x) (flat_map f xs) y h) [
  | inl k ↦ (x, inl refl, k)
  | inr k ↦ let r : (w : X) × Has xs w × Has (f w) y = from_flat_map f xs y k in (r.0, inr r.1, r.2)
]

lent-glue : (names : List DomainName) (rs : List Record) (ip : IpAddr) → Has (flat_map (λ target. lent_by target rs) names) ip → Has (filter_map (address_under names) rs) ip
lent-glue names rs ip h =
    let t : (t : DomainName) × Has names t × Has (lent_by t rs) ip = from_flat_map (λ target. lent_by target rs) names ip h in
    let r : (r : Record) × Has rs r × (glue_of (t.0) r ≡ Some ip) = Has-filter_map (glue_of (t.0)) rs ip (t.2) in
    let both = lent-chosen (same_names (r.0).name (t.0)) (address (r.0)) ip (r.2) in
    let under : list_any (same_names (r.0).name) names ≡ true = any_Has (same_names (r.0).name) names (t.0) (t.1) (both.0) in
    filter_map-Has (address_under names) rs (r.0) ip (r.1) (ap (λ (b : Bool). if b then address (r.0) else None) under ∙ both.1)

glue-lent : (names : List DomainName) (rs : List Record) (ip : IpAddr) → Has (filter_map (address_under names) rs) ip → Has (flat_map (λ target. lent_by target rs) names) ip
glue-lent names rs ip h =
    let r : (r : Record) × Has rs r × (address_under names r ≡ Some ip) = Has-filter_map (address_under names) rs ip h in
    let both = lent-chosen (list_any (same_names (r.0).name) names) (address (r.0)) ip (r.2) in
    let t : (t : DomainName) × Has names t × (same_names (r.0).name t ≡ true) = Has_any (same_names (r.0).name) names (both.0) in
    flat_map-Has (λ target. lent_by target rs) names (t.0) ip (t.1)
    (filter_map-Has (glue_of (t.0)) rs (r.0) ip (r.1) (ap (λ (b : Bool). if b then address (r.0) else None) (t.2) ∙ both.1))

-- what the targets lend, one by one, is the glue
pub same-glue : (m : Message) (name : DomainName) → SameElements (lent_for (records m) (base name) (records m)) (glue m name)
same-glue m name ip =
    let names = targets m name in
    let one = lent_for (records m) (base name) (records m) in (
      (λ h. Contains-from_Has (glue m name) ip (lent-glue names (records m) ip (Has-from_Contains one ip h))),
      (λ h. Contains-from_Has one ip (glue-lent names (records m) ip (Has-from_Contains (glue m name) ip h))),
    )

-- an element that passes the test is kept
Has-kept : {X : Type 0} (p : X → Bool) (xs : List X) (y : X) → Has xs y → p y ≡ true → Has (filter p xs) y
Has-kept p [] y h e = elim h [ ]
Has-kept p (x ∷ xs) y (inl s) e = rw (ap p s ∙ e) (inl s)
Has-kept {X} p (x ∷ xs) y (inr h) e = at_head (p x) (Has-kept p xs y h e)
  where
    at_head : (b : Bool) → Has (filter p xs) y → Has (cond b (x ∷ filter p xs) (filter p xs)) y
    at_head true k = inr k
    at_head false k = k

-- an address that may be asked and is in one list is in what may be asked of another that has it
allowed-more : (denied : IpAddr → Bool) (xs ys : List IpAddr) → ((ip : IpAddr) → Contains xs ip → Contains ys ip) → (ip : IpAddr) → Contains (allowed denied xs) ip → Contains (allowed denied ys) ip
allowed-more denied xs ys a ip h =
    let may : IpAddr → Bool = λ x. not (denied x) in
    let there = Has-from_Contains (allowed denied xs) ip h in
    Contains-from_Has (allowed denied ys) ip
    (Has-kept may ys ip (Has-from_Contains ys ip (a ip (Contains-from_Has xs ip (Has-filter may xs ip there)))) (Has-passes may xs ip there))

-- the same may be asked of lists with the same addresses
pub same-allowed : (denied : IpAddr → Bool) (xs ys : List IpAddr) → SameElements xs ys → SameElements (allowed denied xs) (allowed denied ys)
same-allowed denied xs ys a ip = (allowed-more denied xs ys (λ x h. (a x).0 h) ip, allowed-more denied ys xs (λ x h. (a x).1 h) ip)
