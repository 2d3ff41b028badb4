-- The way of aliases, step by step.
use Rattle.std.proofs.Common.{◌≡◌, ◌<◌, Bool, true, false, cond, List, [], ◌∷◌, ◌++◌, length, Some, None, refl, sym, subst, append_assoc}
use Rattle.std.specs.Prelude.{◌&&◌, not, filter}
use Rattle.std.specs.List.{list_any}
use Rattle.std.proofs.lemmas.List.{append-nil}
use Rattle.dns_core.specs.Name.{DomainName, same_names}
use Rattle.dns_core.specs.declared.message.Query.{Query}
use Rattle.dns_core.specs.declared.record.Record.{Record}
use Rattle.resolution.specs.Names.{is_above}
use Rattle.resolution.specs.Records.{cname_target}
use Rattle.resolution.specs.Answering.{with_name}
use Rattle.zone_rules.specs.Choosing.{alias_in}
use Rattle.zone_rules.specs.Aliases.{next_alias}
use Rattle.zone_worlds.specs.Telling.{Follows}
use Rattle.zone_worlds.specs.Telling.Follows.{ends, leads}
use Rattle.zone_worlds.specs.Answer.{alias_for, next_alias_for, Leads, NoWay}
use Rattle.zone_worlds.specs.Answer.Leads.{arrives, goes_on}
use Rattle.zone_rules.specs.declared.world.Zone.{Zone}
use Rattle.zone_rules.specs.declared.world.World.{World}
use Rattle.zone_worlds.proofs.MetNames.{unmet, fewer_unmet}
use Rattle.zone_worlds.proofs.ZonesFound.{alias_in_Has, alias_in_owner, all_records, alias_for_Has, alias_for_owner}

-- ---- inside a zone

-- what follows from here follows from the start
pub record OnWay (z : Zone) (from : DomainName) (met : List DomainName) (n : DomainName) (aliases : List Record) : Type 0 where
  pub on : (cs : List Record) (last : DomainName) → Follows z met n cs last → Follows z [] from (aliases ++ cs) last

pub way-begins : {z : Zone} {from n : DomainName} {met : List DomainName} {aliases : List Record} → n ≡ from → met ≡ [] → aliases ≡ [] → OnWay z from met n aliases
way-begins {z} {from} {n} {met} {aliases} e m a = record {
  on = λ cs last f. subst (λ (rs : List Record). Follows z [] from (rs ++ cs) last) (sym a) (subst (λ (x : DomainName). Follows z [] x cs last) e (subst (λ (xs : List DomainName). Follows z xs n cs last) m f));
}

pub way-goes_on : {z : Zone} {from n t : DomainName} {met : List DomainName} {aliases : List Record} {c : Record}
    → OnWay z from met n aliases → next_alias z met n ≡ Some c → cname_target c ≡ Some t → OnWay z from (met ++ n ∷ []) t (aliases ++ c ∷ [])
way-goes_on {z} {from} {n} {t} {met} {aliases} {c} on next target = record {
  on = λ cs last f. subst (λ (rs : List Record). Follows z [] from rs last) (sym (append_assoc aliases (c ∷ []) cs)) (on.on (c ∷ cs) last (leads next target f));
}

pub way-kept : {z : Zone} {from n t t' : DomainName} {met met' : List DomainName} {aliases aliases' : List Record} {c : Record}
    → OnWay z from met n aliases → next_alias z met n ≡ Some c → cname_target c ≡ Some t → met' ≡ met ++ n ∷ [] → t' ≡ t → aliases' ≡ aliases ++ c ∷ [] → OnWay z from met' t' aliases'
way-kept {z} {from} {n} {t} {t'} {met} {met'} {aliases} {aliases'} {c} on next target m e a =
    subst (λ (xs : List DomainName). OnWay z from xs t' aliases') (sym m) (subst (λ (x : DomainName). OnWay z from (met ++ n ∷ []) x aliases') (sym e) (subst (λ (rs : List Record). OnWay z from (met ++ n ∷ []) t rs) (sym a) (way-goes_on on next target)))

pub way-ends : {z : Zone} {from n : DomainName} {met : List DomainName} {aliases : List Record} → OnWay z from met n aliases → next_alias z met n ≡ None → Follows z [] from aliases n
way-ends {z} {from} {n} {met} {aliases} on none = subst (λ (rs : List Record). Follows z [] from rs n) (append-nil aliases) (on.on [] n (ends none))

next_alias-alias : (z : Zone) (met : List DomainName) (n : DomainName) (c : Record) → next_alias z met n ≡ Some c → alias_in z n ≡ Some c
next_alias-alias z met n c e = at_test (is_above z.apex n && not (list_any (same_names n) met)) e
  where
    at_test : (b : Bool) → cond b (alias_in z n) None ≡ Some c → alias_in z n ≡ Some c
    at_test true e = e
    at_test false e = cc

next_alias-new : (z : Zone) (met : List DomainName) (n : DomainName) (c : Record) → next_alias z met n ≡ Some c → list_any (same_names n) met ≡ false
next_alias-new z met n c e = at_tests (is_above z.apex n) (list_any (same_names n) met) e
  where
    at_tests : (a b : Bool) → cond (a && not b) (alias_in z n) None ≡ Some c → b ≡ false
    at_tests true true e = cc
    at_tests true false e = refl
    at_tests false b e = cc

pub way-falls : (z : Zone) (n : DomainName) (met met' : List DomainName) (c : Record) → next_alias z met n ≡ Some c → met' ≡ met ++ n ∷ [] → length (filter (unmet met') z.records) < length (filter (unmet met) z.records)
way-falls z n met met' c e m =
    let alias = next_alias-alias z met n c e in
    subst (λ (xs : List DomainName). length (filter (unmet xs) z.records) < length (filter (unmet met) z.records)) (sym m)
    (fewer_unmet met n z.records c (alias_in_Has z n c alias) (alias_in_owner z n c alias) (next_alias-new z met n c e))

-- ---- in the world

abbrev pub IsOnPath : World → Query → List DomainName → DomainName → List Record → Type 0
IsOnPath w q met n aliases = (cs : List Record) (names : List DomainName) (last : DomainName) → Leads w q met n cs names last → Leads w q [] q.name (aliases ++ cs) names last

pub record Reached (w : World) (q : Query) (met : List DomainName) (n : DomainName) (aliases : List Record) : Type 0 where
  pub on : IsOnPath w q met n aliases
  pub back : NoWay w q met n → NoWay w q [] q.name

pub path-begins : (w : World) (q : Query) (n : DomainName) (met : List DomainName) (aliases : List Record) → n ≡ q.name → met ≡ [] → aliases ≡ [] → Reached w q met n aliases
path-begins w q n met aliases e m a = record {
  on = λ cs names last f. subst (λ (rs : List Record). Leads w q [] q.name (rs ++ cs) names last) (sym a) (subst (λ (x : DomainName). Leads w q [] x cs names last) e (subst (λ (xs : List DomainName). Leads w q xs n cs names last) m f));
  back = λ none. subst (λ (x : DomainName). NoWay w q [] x) e (subst (λ (xs : List DomainName). NoWay w q xs n) m none);
}

next-new : (w : World) (q : Query) (met : List DomainName) (n : DomainName) (c : Record) → next_alias_for w q met n ≡ Some c → list_any (same_names n) met ≡ false
next-new w q met n c e = at_test (list_any (same_names n) met) e
  where
    at_test : (b : Bool) → cond b None (alias_for w (with_name n q)) ≡ Some c → b ≡ false
    at_test true e = cc
    at_test false e = refl

next-alias : (w : World) (q : Query) (met : List DomainName) (n : DomainName) (c : Record) → next_alias_for w q met n ≡ Some c → alias_for w (with_name n q) ≡ Some c
next-alias w q met n c e = at_test (list_any (same_names n) met) e
  where
    at_test : (b : Bool) → cond b None (alias_for w (with_name n q)) ≡ Some c → alias_for w (with_name n q) ≡ Some c
    at_test true e = cc
    at_test false e = e

none-behind : (w : World) (q : Query) (met : List DomainName) (n t : DomainName) (c : Record) → alias_for w (with_name n q) ≡ Some c → cname_target c ≡ Some t → NoWay w q (met ++ n ∷ []) t → NoWay w q met n
none-behind w q met n t c a e none cs names last f = behind f
  where
    behind : {ds : List Record} {xs : List DomainName} {m : DomainName} → Leads w q met n ds xs m → ⊥
    behind (arrives new h) = cc
    behind {xs = xs} {m = m} (goes_on {t = s} {cs = ds} new h g more) =
        let same : s ≡ t = cc in none ds xs m (subst (λ (x : DomainName). Leads w q (met ++ n ∷ []) x ds xs m) same more)

pub path-goes_on : (w : World) (q : Query) (n t : DomainName) (met : List DomainName) (aliases : List Record) (c : Record)
    → Reached w q met n aliases → next_alias_for w q met n ≡ Some c → cname_target c ≡ Some t → Reached w q (met ++ n ∷ []) t (aliases ++ c ∷ [])
path-goes_on w q n t met aliases c r next target = record {
  on = λ cs names last f. subst (λ (rs : List Record). Leads w q [] q.name rs names last) (sym (append_assoc aliases (c ∷ []) cs)) (r.on (c ∷ cs) names last (goes_on (next-new w q met n c next) (next-alias w q met n c next) target f));
  back = λ none. r.back (none-behind w q met n t c (next-alias w q met n c next) target none);
}

pub path-falls : (w : World) (q : Query) (n : DomainName) (met met' : List DomainName) (c : Record) → next_alias_for w q met n ≡ Some c → met' ≡ met ++ n ∷ [] → length (filter (unmet met') (all_records w)) < length (filter (unmet met) (all_records w))
path-falls w q n met met' c e m =
    let alias = next-alias w q met n c e in
    subst (λ (xs : List DomainName). length (filter (unmet xs) (all_records w)) < length (filter (unmet met) (all_records w))) (sym m)
    (fewer_unmet met n (all_records w) c (alias_for_Has w (with_name n q) c alias) (alias_for_owner w (with_name n q) c alias) (next-new w q met n c e))

pub path-kept : {w : World} {q : Query} {n t t' : DomainName} {met met' : List DomainName} {aliases aliases' : List Record} {c : Record}
    → Reached w q met n aliases → next_alias_for w q met n ≡ Some c → cname_target c ≡ Some t → met' ≡ met ++ n ∷ [] → t' ≡ t → aliases' ≡ aliases ++ c ∷ [] → Reached w q met' t' aliases'
path-kept {w} {q} {n} {t} {t'} {met} {met'} {aliases} {aliases'} {c} r next target m e a =
    subst (λ (xs : List DomainName). Reached w q xs t' aliases') (sym m) (subst (λ (x : DomainName). Reached w q (met ++ n ∷ []) x aliases') (sym e) (subst (λ (rs : List Record). Reached w q (met ++ n ∷ []) t rs) (sym a) (path-goes_on w q n t met aliases c r next target)))

-- a name that repeats leads nowhere
pub path-repeats : (w : World) (q : Query) (n : DomainName) (met : List DomainName) (aliases : List Record) → Reached w q met n aliases → list_any (same_names n) met ≡ true → NoWay w q [] q.name
path-repeats w q n met aliases r again = r.back (λ cs names last f. repeated f)
  where
    repeated : {ds : List Record} {xs : List DomainName} {m : DomainName} → Leads w q met n ds xs m → ⊥
    repeated (arrives new h) = cc
    repeated (goes_on new h g more) = cc

pub path-ends : (w : World) (q : Query) (n : DomainName) (met : List DomainName) (aliases : List Record) → Reached w q met n aliases → list_any (same_names n) met ≡ false → next_alias_for w q met n ≡ None → Leads w q [] q.name aliases (met ++ n ∷ []) n
path-ends w q n met aliases r new none =
    subst (λ (rs : List Record). Leads w q [] q.name rs (met ++ n ∷ []) n) (append-nil aliases) (r.on [] (met ++ n ∷ []) n (arrives new (at_test (list_any (same_names n) met) new none)))
  where
    at_test : (b : Bool) → b ≡ false → cond b None (alias_for w (with_name n q)) ≡ None → alias_for w (with_name n q) ≡ None
    at_test true h e = cc
    at_test false h e = e
