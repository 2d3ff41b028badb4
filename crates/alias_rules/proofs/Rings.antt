-- Aliases that are followed without a list of the names that were met: a ring goes on to the last step, and comes to nothing there either.
use Rattle.std.proofs.Common.{◌≡◌, ◌∙◌, sym, ap, refl, ℕ, zero, suc, Bool, true, false, List, [], ◌∷◌, ◌++◌, Option, Some, None}
use Rattle.std.specs.Prelude.{◌||◌, ◌&&◌, ◌==◌, if◌then◌else◌}
use Rattle.std.specs.List.{list_any}
use Rattle.std.proofs.lemmas.List.Folds.{list_any-append}
use Rattle.dns_core.specs.Name.{DomainName, same_names}
use Rattle.dns_core.specs.NameLaws.{same_names_equiv}
use Rattle.dns_core.specs.declared.codes.RecordType.{RecordType}
use Rattle.dns_core.specs.declared.record.Record.{Record}
use Rattle.resolution.specs.Records.{cname_target}
use Rattle.resolution.specs.Following.{is_owned, owns, alias_of, alias_at, follow_from}
use Rattle.resolution.specs.declared.following.Follow.{Follow}
use Rattle.resolution.specs.declared.following.Follow.TheVariants.{Done, Restart}
use Rattle.resolution.proofs.Caseless.{alike}

-- Names that differ in case alone own the same records, and have the same alias.
module _ (a b : DomainName) (same : same_names a b ≡ true) where
  owned-same : (t : RecordType) → is_owned t a ≡ is_owned t b
  owned-same t i r = (ap (λ (named : Bool). named && r.record_type.code == t.code) (alike same_names same_names_equiv a b r.name same)) i

  owns-same : (answers : List Record) (t : RecordType) → owns answers t a ≡ owns answers t b
  owns-same answers t = ap (λ (test : Record → Bool). list_any test answers) (owned-same t)

  alias_of-same : (r : Record) → alias_of a r ≡ alias_of b r
  alias_of-same r = ap (λ (named : Bool). if named then cname_target r else None) (alike same_names same_names_equiv a b r.name same)

  or_else : Option DomainName → Option DomainName → Option DomainName
  or_else first rest = elim first [ None ↦ rest | Some target ↦ Some target ]

  alias_at-same : (answers : List Record) → alias_at answers a ≡ alias_at answers b
  unfolding or_else
  alias_at-same [] = refl
  alias_at-same (r ∷ answers) = ap (λ first. or_else first (alias_at answers a)) (alias_of-same r) ∙ ap (or_else (alias_of b r)) (alias_at-same answers)

module _ (answers : List Record) (t : RecordType) where
  -- as follow_from, without the names that were met
  abbrev pub steps_from : ℕ → DomainName → Follow
  steps_from zero n = Done
  steps_from (suc steps) n = if owns answers t n then Done else elim (alias_at answers n) [ None ↦ Restart n | Some target ↦ steps_from steps target ]

  -- The name has an alias among these names, and nothing of the asked type.
  record LeadsInto (names : List DomainName) (n : DomainName) : Type 0 where
    not_owned : owns answers t n ≡ false
    target : DomainName
    leads : alias_at answers n ≡ Some target
    inside : list_any (same_names target) names ≡ true

  -- So has each of these names.
  abbrev AllLeadInto : List DomainName → List DomainName → Type 0
  AllLeadInto met names = (n : DomainName) → list_any (same_names n) met ≡ true → LeadsInto names n

  ring_ends : (met : List DomainName) → AllLeadInto met met → (steps : ℕ) (n : DomainName) → list_any (same_names n) met ≡ true → steps_from steps n ≡ Done
  ring_ends met all zero n h = refl
  ring_ends met all (suc steps) n h = let step = all n h in rw (step.not_owned, step.leads) (ring_ends met all steps step.target step.inside)

  here_too : (m n target : DomainName) (names : List DomainName) → owns answers t n ≡ false → alias_at answers n ≡ Some target → list_any (same_names target) names ≡ true
      → same_names m n ≡ true → LeadsInto names m
  here_too m n target names unowned leads inside same = record {
    not_owned = owns-same m n same answers t ∙ unowned;
    target = target;
    leads = alias_at-same m n same answers ∙ leads;
    inside = inside;
  }

  -- One name more, which has an alias among the names.
  all_more : (met names : List DomainName) (n target : DomainName) → AllLeadInto met (met ++ n ∷ []) → owns answers t n ≡ false → alias_at answers n ≡ Some target
      → ((x : DomainName) → list_any (same_names x) (met ++ n ∷ []) ≡ true → list_any (same_names x) names ≡ true) → list_any (same_names target) names ≡ true
      → AllLeadInto (met ++ n ∷ []) names
  all_more met names n target all unowned leads wider inside m h = (elim (list_any (same_names m) met) as (λ b. list_any (same_names m) met ≡ b → LeadsInto names m) [
    | true ↦ λ e. let old = all m e in record { not_owned = old.not_owned; target = old.target; leads = old.leads; inside = wider old.target old.inside }
    | false ↦ λ e. here_too m n target names unowned leads inside (last_one e)
  ]) refl
    where
      last_one : list_any (same_names m) met ≡ false → same_names m n ≡ true
      last_one e = let h' = rw (list_any-append (same_names m) met (n ∷ []), e) at h in or_false (same_names m n) h'
        where
          or_false : (b : Bool) → (b || false) ≡ true → b ≡ true
          or_false true k = refl
          or_false false k = k

  among_more : (names : List DomainName) (last x : DomainName) → list_any (same_names x) names ≡ true → list_any (same_names x) (names ++ last ∷ []) ≡ true
  among_more names last x h = rw (list_any-append (same_names x) names (last ∷ []), h) refl

  among_last : (names : List DomainName) (last : DomainName) → list_any (same_names last) (names ++ last ∷ []) ≡ true
  among_last names last = rw (list_any-append (same_names last) names (last ∷ []), same_names_equiv.refl last) (or_true (list_any (same_names last) names))
    where
      or_true : (b : Bool) → (b || true) ≡ true
      or_true true = refl
      or_true false = refl

  at_target : (steps : ℕ) (met : List DomainName) (n target : DomainName) → AllLeadInto met (met ++ n ∷ []) → owns answers t n ≡ false → alias_at answers n ≡ Some target
      → ((met : List DomainName) (n : DomainName) → AllLeadInto met (met ++ n ∷ []) → follow_from steps answers t met n ≡ steps_from steps n)
      → (b : Bool) → list_any (same_names target) (met ++ n ∷ []) ≡ b → (if b then Done else follow_from steps answers t (met ++ n ∷ []) target) ≡ steps_from steps target
  at_target steps met n target all unowned leads on true e = sym (ring_ends (met ++ n ∷ []) (all_more met (met ++ n ∷ []) n target all unowned leads (λ x h. h) e) steps target e)
  at_target steps met n target all unowned leads on false e = on (met ++ n ∷ []) target
      (all_more met ((met ++ n ∷ []) ++ target ∷ []) n target all unowned leads (among_more (met ++ n ∷ []) target) (among_last (met ++ n ∷ []) target))

  -- What both ways come to at a name, by its alias.
  abbrev followed : ℕ → List DomainName → DomainName → Option DomainName → Follow
  followed steps met n first = elim first [ None ↦ Restart n | Some target ↦ (if list_any (same_names target) (met ++ n ∷ []) then Done else follow_from steps answers t (met ++ n ∷ []) target) ]

  abbrev stepped : ℕ → DomainName → Option DomainName → Follow
  stepped steps n first = elim first [ None ↦ Restart n | Some target ↦ steps_from steps target ]

  at_alias : (steps : ℕ) (met : List DomainName) (n : DomainName) → AllLeadInto met (met ++ n ∷ []) → owns answers t n ≡ false
      → ((met : List DomainName) (n : DomainName) → AllLeadInto met (met ++ n ∷ []) → follow_from steps answers t met n ≡ steps_from steps n)
      → (first : Option DomainName) → alias_at answers n ≡ first → followed steps met n first ≡ stepped steps n first
  at_alias steps met n all unowned on None leads = refl
  at_alias steps met n all unowned on (Some target) leads = at_target steps met n target all unowned leads on (list_any (same_names target) (met ++ n ∷ [])) refl

  at_name : (steps : ℕ) (met : List DomainName) (n : DomainName) → AllLeadInto met (met ++ n ∷ [])
      → ((met : List DomainName) (n : DomainName) → AllLeadInto met (met ++ n ∷ []) → follow_from steps answers t met n ≡ steps_from steps n)
      → (owned : Bool) → owns answers t n ≡ owned → (if owned then Done else followed steps met n (alias_at answers n)) ≡ (if owned then Done else stepped steps n (alias_at answers n))
  at_name steps met n all on true e = refl
  at_name steps met n all on false e = at_alias steps met n all e on (alias_at answers n) refl

  -- Where each name that was met, and the name that is reached, has its alias among them, both ways come to the same.
  same_steps : (steps : ℕ) (met : List DomainName) (n : DomainName) → AllLeadInto met (met ++ n ∷ []) → follow_from steps answers t met n ≡ steps_from steps n
  same_steps zero met n all = refl
  same_steps (suc steps) met n all = at_name steps met n all (same_steps steps) (owns answers t n) refl

  none_met : (n : DomainName) → AllLeadInto [] (n ∷ [])
  none_met n m h = cc

  -- From the first name on.
  pub follow_by_steps : (steps : ℕ) (n : DomainName) → follow_from steps answers t [] n ≡ steps_from steps n
  follow_by_steps steps n = same_steps steps [] n (none_met n)

  -- A step at a name that owns the asked type, at one of which nothing is said, and at one with an alias.
  pub step_at_owner : (steps : ℕ) (n : DomainName) → owns answers t n ≡ true → steps_from (suc steps) n ≡ Done
  step_at_owner steps n e = rw e refl

  pub step_at_end : (steps : ℕ) (n : DomainName) → owns answers t n ≡ false → alias_at answers n ≡ None → steps_from (suc steps) n ≡ Restart n
  step_at_end steps n e leads = rw (e, leads) refl

  pub step_at_alias : (steps : ℕ) (n target : DomainName) → owns answers t n ≡ false → alias_at answers n ≡ Some target → steps_from (suc steps) n ≡ steps_from steps target
  step_at_alias steps n target e leads = rw (e, leads) refl
