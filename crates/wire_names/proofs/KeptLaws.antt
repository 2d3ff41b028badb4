-- What is kept, as it is found, added and replaced.
use Rattle.std.proofs.Common.{◌≡◌, ℕ, ◌<◌, List, [], ◌∷◌, ◌++◌, length, get_or, set, sym, subst}
use Rattle.std.proofs.lemmas.List.Elements.{All-get_or, All-push, All-same, All-set}
use Rattle.dns_core.specs.Name.{DomainName}
use Rattle.wire_names.specs.declared.kept.KeptName.{KeptName}
use Rattle.wire_names.specs.Kept.{IsReadAt, AreRead, Kept, AreKept}

abbrev IsKept : List ℕ → KeptName → Type 0
IsKept message kept = IsReadAt message kept.place kept.name

pub kept_as : (message : List ℕ) (before after : Kept) → after ≡ before → AreKept message before → AreKept message after
kept_as message before after same kept = subst (AreKept message) (sym same) kept

pub name_at : (message : List ℕ) (names : List KeptName) (index place : ℕ) (kept : KeptName) → index < length names → kept ≡ get_or names index kept → kept.place ≡ place → AreRead message names → IsReadAt message place kept.name
name_at message names index place kept within is there all =
    let here = subst (IsKept message) (sym is) (All-get_or (IsKept message) names index kept within all) in
    subst (λ (p : ℕ). IsReadAt message p kept.name) there here

abbrev made : ℕ → DomainName → KeptName
made place name = record { place = place; name = name }

pub names_same : (message : List ℕ) (before after : List KeptName) → after ≡ before → AreRead message before → AreRead message after
names_same message before after same all = All-same (IsKept message) after before same all

pub name_pushed : (message : List ℕ) (names : List KeptName) (place : ℕ) (copy name : DomainName) → copy ≡ name → AreRead message names → IsReadAt message place name → AreRead message (names ++ made place copy ∷ [])
name_pushed message names place copy name same all here = All-push (IsKept message) names (made place copy) all (subst (IsReadAt message place) (sym same) here)

pub name_set : (message : List ℕ) (names : List KeptName) (index place : ℕ) (copy name : DomainName) → copy ≡ name → AreRead message names → IsReadAt message place name → AreRead message (set names index (made place copy))
name_set message names index place copy name same all here = All-set (IsKept message) names index (made place copy) (subst (IsReadAt message place) (sym same) here) all
