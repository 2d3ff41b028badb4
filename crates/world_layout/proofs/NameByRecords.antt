-- What a world says of a name by its records alone.
use Rattle.std.proofs.Common.{◌≡◌, ℕ, ◌+◌, ◌≤◌, Bool, true, false, cond, ◌&&◌, List, [], ◌∷◌, length, refl, sym, ap, ◌∙◌, length-append, arith}
use Rattle.std.specs.Prelude.{filter, nat_le, ◌==◌, ◌||◌}
use Rattle.std.specs.List.{list_any, list_all}
use Rattle.std.specs.Cmp.{second_so}
use Rattle.std.proofs.lemmas.Bool.Decides.{nat_tests}
use Rattle.std.proofs.lemmas.List.Elements.{filter-append}
use Rattle.std.proofs.lemmas.List.Folds.{list_any-append, list_all-append}
use Rattle.dns_core.specs.Name.{DomainName, same_names}
use Rattle.dns_core.specs.declared.record.Record.{Record}
use Rattle.zone_rules.specs.Choosing.{is_alias}
use Rattle.zone_worlds.specs.Index.{all_records}
use Rattle.zone_rules.specs.declared.world.Zone.{Zone}
use Rattle.zone_rules.specs.declared.world.World.{World}
use Rattle.world_layout.specs.Naming.{is_aliased, owns_one}

-- ---- zone by zone or all at once

any_flat : (p : Record → Bool) (zones : List Zone) → list_any (λ z. list_any p z.records) zones ≡ list_any p (all_records zones)
any_flat p [] = refl
any_flat p (z ∷ zs) = ap (λ (b : Bool). list_any p z.records || b) (any_flat p zs) ∙ sym (list_any-append p z.records (all_records zs))

pub all_flat : (p : Record → Bool) (zones : List Zone) → list_all (λ z. list_all p z.records) zones ≡ list_all p (all_records zones)
all_flat p [] = refl
all_flat p (z ∷ zs) = ap (λ (b : Bool). list_all p z.records && b) (all_flat p zs) ∙ sym (list_all-append p z.records (all_records zs))

any_kept : (p q : Record → Bool) → ((r : Record) → p r ≡ true → q r ≡ true) → (rs : List Record) → list_any p (filter q rs) ≡ list_any p rs
any_kept p q h [] = refl
any_kept p q h (r ∷ rs) = at (p r) refl (q r) refl (any_kept p q h rs)
  where
    at : (a : Bool) → p r ≡ a → (b : Bool) → q r ≡ b → list_any p (filter q rs) ≡ list_any p rs → list_any p (cond b (r ∷ filter q rs) (filter q rs)) ≡ (p r || list_any p rs)
    at a e true f rest = ap (λ (x : Bool). p r || x) rest
    at true e false f rest = let yes : q r ≡ true = h r e in cc
    at false e false f rest = rest ∙ sym (ap (λ (x : Bool). x || list_any p rs) e)

pub all_kept : (p q : Record → Bool) → ((r : Record) → q r ≡ false → p r ≡ true) → (rs : List Record) → list_all p (filter q rs) ≡ list_all p rs
all_kept p q h [] = refl
all_kept p q h (r ∷ rs) = at (q r) refl (all_kept p q h rs)
  where
    at : (b : Bool) → q r ≡ b → list_all p (filter q rs) ≡ list_all p rs → list_all p (cond b (r ∷ filter q rs) (filter q rs)) ≡ (p r && list_all p rs)
    at true f rest = ap (λ (x : Bool). p r && x) rest
    at false f rest = rest ∙ sym (ap (λ (x : Bool). x && list_all p rs) (h r f))

-- ---- aliases

pub aliased_named : (world : World) (n : DomainName) → list_any (is_alias n) (filter (λ r. same_names r.name n) (all_records world.zones)) ≡ is_aliased world n
aliased_named world n = any_kept (is_alias n) (λ r. same_names r.name n) (λ r e. second_so _ (same_names r.name n) e) (all_records world.zones) ∙ sym (any_flat (is_alias n) world.zones)

-- ---- one record of a name

any_some : (p : Record → Bool) (xs : List Record) → list_any p xs ≡ true → 1 ≤ length (filter p xs)
any_some p [] h = cc
any_some p (x ∷ xs) h = at (p x) h (any_some p xs)
  where
    at : (b : Bool) → (b || list_any p xs) ≡ true → (list_any p xs ≡ true → 1 ≤ length (filter p xs)) → 1 ≤ length (cond b (x ∷ filter p xs) (filter p xs))
    at true h next = omega arith
    at false h next = next h

any_none : (p : Record → Bool) (xs : List Record) → list_any p xs ≡ false → length (filter p xs) ≡ 0
any_none p [] h = refl
any_none p (x ∷ xs) h = at (p x) h (any_none p xs)
  where
    at : (b : Bool) → (b || list_any p xs) ≡ false → (list_any p xs ≡ false → length (filter p xs) ≡ 0) → length (cond b (x ∷ filter p xs) (filter p xs)) ≡ 0
    at true h next = cc
    at false h next = next h

at_most_one : (n : ℕ) → n ≤ 1 → nat_le n 1 ≡ true
at_most_one n h = grind (arith, nat_tests)

sum_of : (p : Record → Bool) (z : Zone) (zs : List Zone) → length (filter p (all_records (z ∷ zs))) ≡ length (filter p z.records) + length (filter p (all_records zs))
sum_of p z zs = ap (λ (rs : List Record). length rs) (filter-append p z.records (all_records zs)) ∙ length-append (filter p z.records) (filter p (all_records zs))

fits : (p : Record → Bool) (z : Zone) (zs : List Zone) → length (filter p (all_records (z ∷ zs))) ≤ 1 → length (filter p (all_records zs)) ≤ 1
fits p z zs h = let s = sum_of p z zs in omega arith

-- as many zones own records of the name as there are, where there is one at most
record Owned (p : Record → Bool) (zones : List Zone) : Type 0 where
  pub owners : length (filter (λ z. list_any p z.records) zones) ≡ length (filter p (all_records zones))
  pub single : list_all (λ z. nat_le (length (filter p z.records)) 1) zones ≡ true

owned_more : (p : Record → Bool) (z : Zone) (zs : List Zone) → Owned p zs → length (filter p (all_records (z ∷ zs))) ≤ 1 → Owned p (z ∷ zs)
owned_more p z zs rest h = record {
  owners = at (list_any p z.records) refl ∙ sym (sum_of p z zs);
  single = let s = sum_of p z zs in ap (λ (b : Bool). b && list_all (λ y. nat_le (length (filter p y.records)) 1) zs) (at_most_one (length (filter p z.records)) (omega arith)) ∙ rest.single;
}
  where
    at : (b : Bool) → list_any p z.records ≡ b → length (cond b (z ∷ filter (λ y. list_any p y.records) zs) (filter (λ y. list_any p y.records) zs)) ≡ length (filter p z.records) + length (filter p (all_records zs))
    at true e = let some = any_some p z.records e in let more = rest.owners in let s = sum_of p z zs in omega arith
    at false e = let none = any_none p z.records e in let more = rest.owners in omega arith

owned : (p : Record → Bool) (zones : List Zone) → length (filter p (all_records zones)) ≤ 1 → Owned p zones
owned p [] h = record { owners = refl; single = refl }
owned p (z ∷ zs) h = owned_more p z zs (owned p zs (fits p z zs h)) h

is_one : (n : ℕ) → (n == 1) ≡ true → n ≡ 1
is_one n h = grind (arith, nat_tests)

pub one_owner : (world : World) (n : DomainName) → (length (filter (λ r. same_names r.name n) (all_records world.zones)) == 1) ≡ true → owns_one world n ≡ true
one_owner world n single =
    let q = λ (r : Record). same_names r.name n in
    let one : length (filter q (all_records world.zones)) ≡ 1 = is_one (length (filter q (all_records world.zones))) single in
    let o = owned q world.zones (omega arith) in
    ap (λ (k : ℕ). (k == 1) && list_all (λ zone. nat_le (length (filter q zone.records)) 1) world.zones) (o.owners ∙ one) ∙ o.single
