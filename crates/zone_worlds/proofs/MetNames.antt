-- Names that are met on the way of aliases: each alias that is followed leaves fewer records whose owners were not.
use Rattle.std.proofs.Common.{◌≡◌, ◌<◌, Bool, true, false, List, [], ◌∷◌, ◌++◌, length, refl, sym, ap, ◌∙◌}
use Rattle.std.specs.Prelude.{not, ◌||◌, filter}
use Rattle.std.specs.List.{list_any}
use Rattle.std.proofs.lemmas.List.Folds.{list_any-append}
use Rattle.dns_core.specs.Name.{DomainName, same_names}
use Rattle.dns_core.specs.NameLaws.{same_names_equiv}
use Rattle.dns_core.specs.declared.record.Record.{Record}
use Rattle.resolution.proofs.ElementsFiltered.{Has}
use Rattle.zone_worlds.proofs.FoundInLists.{length_filter-lt}

abbrev pub unmet : List DomainName → Record → Bool
unmet met r = not (list_any (same_names r.name) met)

neither : (a b : Bool) → not (a || b) ≡ true → not a ≡ true
neither true b h = h
neither false b h = refl

there : (a b : Bool) → b ≡ true → not (a || (b || false)) ≡ false
there true b h = refl
there false true h = refl
there false false h = cc

pub fewer_unmet : (met : List DomainName) (n : DomainName) (rs : List Record) (c : Record) → Has rs c → same_names c.name n ≡ true → list_any (same_names n) met ≡ false → length (filter (unmet (met ++ n ∷ [])) rs) < length (filter (unmet met) rs)
fewer_unmet met n rs c has same new =
    length_filter-lt (unmet (met ++ n ∷ [])) (unmet met)
    (λ r e. neither (list_any (same_names r.name) met) (list_any (same_names r.name) (n ∷ [])) (sym (ap not (list_any-append (same_names r.name) met (n ∷ []))) ∙ e))
    rs c has
    (ap not (list_any-append (same_names c.name) met (n ∷ [])) ∙ there (list_any (same_names c.name) met) (same_names c.name n) same)
    (let tests : same_names c.name ≡ same_names n = λ i x. same_names_equiv.congr c.name n x same i in
    ap (λ (p : DomainName → Bool). not (list_any p met)) tests ∙ ap not new)
