-- The records under each name after one more.
use Rattle.std.proofs.Common.{◌≡◌, ℕ, ◌+◌, ◌<◌, Bool, true, false, cond, List, [], ◌∷◌, ◌++◌, length, take, get_or, Option, Some, append_assoc, refl, sym, ap, subst, ◌∙◌}
use Rattle.std.specs.Prelude.{filter}
use Rattle.std.specs.Option.{option_map_or}
use Rattle.std.specs.HashMap.{HashMap}
use Rattle.std.specs.HashMap.Eq.{lookup_congr}
use Rattle.std.proofs.lemmas.List.{append-nil, take_more}
use Rattle.std.proofs.lemmas.Grind.{flat_map-append}
use Rattle.std.proofs.lemmas.List.Elements.{filter-append}
use Rattle.dns_core.specs.Name.{DomainName, same_names}
use Rattle.dns_core.specs.NameLaws.{same_names_equiv}
use Rattle.dns_core.specs.declared.record.Record.{Record}
use Rattle.zone_rules.specs.declared.world.Zone.{Zone}
use Rattle.zone_worlds.specs.Index.{all_records, held, FindsRecords}

abbrev pub records_in : Option (List Record) → List Record
records_in o = option_map_or (λ rs. rs) o []

-- equal names have the same records
pub same_held : {S : Type 0} (m : HashMap DomainName (List Record) S) (k q : DomainName) → same_names k q ≡ true → held m k ≡ held m q
same_held m k q h = ap (λ (o : Option (List Record)). records_in o) (lookup_congr same_names same_names_equiv.congr m.entries k q h)

-- at its name it stands last, and other names have what they had
pub put_last : (new mid old : Option (List Record)) (b : Bool) (rs ps : List Record) → new ≡ cond b (Some rs) mid → (b ≡ true → rs ≡ ps) → (b ≡ false → mid ≡ old) → records_in new ≡ cond b ps (records_in old)
put_last new mid old true rs ps e here apart = ap (λ (o : Option (List Record)). records_in o) e ∙ here refl
put_last new mid old false rs ps e here apart = ap (λ (o : Option (List Record)). records_in o) (e ∙ apart refl)

filter_last : (b : Bool) (r : Record) (old fs : List Record) → old ≡ fs → cond b (old ++ r ∷ []) old ≡ fs ++ cond b (r ∷ []) []
filter_last true r old fs e = ap (λ (xs : List Record). xs ++ r ∷ []) e
filter_last false r old fs e = e ∙ sym (append-nil fs)

pub records_more : {S : Type 0} (seen : List Record) (old new : HashMap DomainName (List Record) S) (r : Record) → FindsRecords seen old
    → ((n : DomainName) → held new n ≡ cond (same_names r.name n) (held old n ++ r ∷ []) (held old n)) → FindsRecords (seen ++ r ∷ []) new
records_more seen old new r h adds = λ n. adds n ∙ filter_last (same_names r.name n) r (held old n) (filter (λ x. same_names x.name n) seen) (h n) ∙ sym (filter-append (λ x. same_names x.name n) seen (r ∷ []))

pub records_next : {S : Type 0} (seen items : List Record) (i : ℕ) (old new : HashMap DomainName (List Record) S) (x r : Record) (name : DomainName) → i < length items → x ≡ get_or items i x → r ≡ x → name ≡ x.name
    → FindsRecords (seen ++ take i items) old → ((n : DomainName) → held new n ≡ cond (same_names name n) (held old n ++ r ∷ []) (held old n)) → FindsRecords (seen ++ take (i + 1) items) new
records_next seen items i old new x r name below is same called h adds =
    let put = λ (n : DomainName).
    adds n ∙ ap (λ (k : DomainName). cond (same_names k n) (held old n ++ r ∷ []) (held old n)) called
    ∙ ap (λ (y : Record). cond (same_names x.name n) (held old n ++ y ∷ []) (held old n)) same in
    subst (λ (rs : List Record). FindsRecords (seen ++ rs) new) (sym (take_more items i x below ∙ ap (λ (y : Record). take i items ++ y ∷ []) (sym is)))
    (subst (λ (rs : List Record). FindsRecords rs new) (append_assoc seen (take i items) (x ∷ [])) (records_more (seen ++ take i items) old new x h put))

pub zones_next : (zones : List Zone) (i : ℕ) (z : Zone) → i < length zones → z ≡ get_or zones i z → all_records (take (i + 1) zones) ≡ all_records (take i zones) ++ z.records
zones_next zones i z below is =
    ap (λ (zs : List Zone). all_records zs) (take_more zones i z below ∙ ap (λ (y : Zone). take i zones ++ y ∷ []) (sym is)) ∙ flat_map-append (λ (y : Zone). y.records) (take i zones) (z ∷ [])
    ∙ ap (λ (rs : List Record). all_records (take i zones) ++ rs) (append-nil z.records)
