-- Where the way down to a name meets no zone, no zone below has the name.
use Rattle.std.proofs.Common.{◌≡◌, ℕ, suc, ◌-◌, ◌<◌, ◌≤◌, Bool, true, false, cond, ◌&&◌, List, [], ◌∷◌, drop, length, Option, Some, None, inl, inr, refl, sym, ap, ◌∙◌, arith}
use Rattle.std.specs.Prelude.{find, nat_le, ◌==◌, ◌||◌, not}
use Rattle.std.specs.Option.{option_or}
use Rattle.std.specs.Bool.{beq}
use Rattle.std.specs.List.{list_all}
use Rattle.std.specs.Cmp.{first_so, second_so}
use Rattle.std.proofs.lemmas.Bool.Decides.{nat_tests}
use Rattle.dns_core.specs.Name.{DomainName, same_labels, same_names, is_suffix}
use Rattle.dns_core.specs.declared.record.Record.{Record}
use Rattle.resolution.specs.Names.{is_above}
use Rattle.resolution.proofs.AboveIsAnOrder.{labels_equiv}
use Rattle.resolution.proofs.ElementsFiltered.{Has}
use Rattle.zone_rules.specs.Tree.{qualified, zone_at, first_cut}
use Rattle.zone_rules.specs.declared.world.Zone.{Zone}
use Rattle.zone_worlds.proofs.IndexOfOneMore.{suffix_step}
use Rattle.world_layout.specs.Layout.{left_name, is_below, is_ds_at, is_left_by}

-- ---- lists and truths

all_pass : {X : Type 0} (p : X → Bool) (xs : List X) → ((x : X) → Has xs x → p x ≡ true) → list_all p xs ≡ true
all_pass p [] h = refl
all_pass p (x ∷ xs) h = ap (λ (b : Bool). b && list_all p xs) (h x (inl refl)) ∙ all_pass p xs (λ y i. h y (inr i))

none_found : {X : Type 0} (p : X → Bool) (xs : List X) (x : X) → find p xs ≡ None → Has xs x → p x ≡ true → ⊥
none_found p [] x e i h = elim i [ ]
none_found {X} p (y ∷ xs) x e i h = at_head (p y) refl e i (λ f j. none_found p xs x f j h)
  where
    at_head : (b : Bool) → p y ≡ b → cond b (Some y) (find p xs) ≡ None → Has (y ∷ xs) x → (find p xs ≡ None → Has xs x → ⊥) → ⊥
    at_head true t e i next = cc
    at_head false t e (inl same) next = let no : p x ≡ false = ap p (sym same) ∙ t in cc
    at_head false t e (inr j) next = next e j

second_none : {X : Type 0} (o p : Option X) → option_or o p ≡ None → p ≡ None
second_none None p e = e
second_none (Some x) p e = cc

first_none : {X : Type 0} (o p : Option X) → option_or o p ≡ None → o ≡ None
first_none None p e = refl
first_none (Some x) p e = cc

is_le : (m n : ℕ) → nat_le m n ≡ true → m ≤ n
is_le m n h = grind (arith, nat_tests)

-- ---- the way down

suffix_short : (a ls : List (List ℕ)) → is_suffix a ls ≡ true → length a ≤ length ls
suffix_short a ls h = is_le (length a) (length ls) (first_so (nat_le (length a) (length ls)) _ h)

apex_here : (d : Zone) (ls : List (List ℕ)) → (d.apex).fqdn ≡ true → same_labels ls (d.apex).labels ≡ true → same_names d.apex (qualified ls) ≡ true
apex_here d ls f h = ap (λ (b : Bool). b && beq (d.apex).fqdn true) (labels_equiv.symm (d.apex).labels ls ∙ h) ∙ ap (λ (b : Bool). beq b true) f

none_cut : (zones : List Zone) (apex : ℕ) (ls : List (List ℕ)) (d : Zone) → first_cut zones apex ls ≡ None → Has zones d → (d.apex).fqdn ≡ true → apex < length (d.apex).labels → is_suffix (d.apex).labels ls ≡ true → ⊥
none_cut zones apex [] d e i f low h = let short : length (d.apex).labels ≤ 0 = suffix_short (d.apex).labels [] h in absurd (omega arith)
none_cut zones apex (l ∷ ls) d e i f low h = at_length (nat_le (suc (length ls)) apex) refl e (λ c s. none_cut zones apex ls d c i f low s)
  where
    at_length : (b : Bool) → nat_le (suc (length ls)) apex ≡ b → cond b None (option_or (first_cut zones apex ls) (zone_at zones (l ∷ ls))) ≡ None
        → (first_cut zones apex ls ≡ None → is_suffix (d.apex).labels ls ≡ true → ⊥) → ⊥
    at_length true t e next =
        let short : length (d.apex).labels ≤ suc (length ls) = suffix_short (d.apex).labels (l ∷ ls) h in
        let over : suc (length ls) ≤ apex = is_le (suc (length ls)) apex t in
        absurd (omega arith)
    at_length false t e next = at_step (same_labels (l ∷ ls) (d.apex).labels) refl (sym (suffix_step (d.apex).labels l ls) ∙ h)
      where
        at_step : (b : Bool) → same_labels (l ∷ ls) (d.apex).labels ≡ b → (b || is_suffix (d.apex).labels ls) ≡ true → ⊥
        at_step true t s = none_found (λ (z : Zone). same_names z.apex (qualified (l ∷ ls))) zones d (second_none (first_cut zones apex ls) (zone_at zones (l ∷ ls)) e) i (apex_here d (l ∷ ls) f t)
        at_step false t s = next (first_none (first_cut zones apex ls) (zone_at zones (l ∷ ls)) e) s

-- ---- a zone below

-- what a name above another says
top_flag : (z n : DomainName) → is_above z n ≡ true → z.fqdn ≡ true
top_flag z n h = first_so z.fqdn n.fqdn (first_so (z.fqdn && n.fqdn) _ h)

low_flag : (z n : DomainName) → is_above z n ≡ true → n.fqdn ≡ true
low_flag z n h = second_so z.fqdn n.fqdn (first_so (z.fqdn && n.fqdn) _ h)

last_of : (z n : DomainName) → is_above z n ≡ true → is_suffix z.labels n.labels ≡ true
last_of z n h = second_so (z.fqdn && n.fqdn) (is_suffix z.labels n.labels) h

deeper : (z d : DomainName) → is_above z d ≡ true → same_names z d ≡ false → length z.labels < length d.labels
deeper z d above apart = at (nat_le (suc (length z.labels)) (length d.labels)) refl
  where
    suffix : is_suffix z.labels d.labels ≡ true
    suffix = last_of z d above

    alike : z.fqdn ≡ true → d.fqdn ≡ true → same_labels z.labels d.labels ≡ true → ⊥
    alike f g s =
        let flags : beq z.fqdn d.fqdn ≡ true = ap (λ (b : Bool). beq b d.fqdn) f ∙ ap (λ (b : Bool). beq true b) g in
        let same : same_names z d ≡ true = ap (λ (b : Bool). b && beq z.fqdn d.fqdn) s ∙ flags in
        cc

    at : (b : Bool) → nat_le (suc (length z.labels)) (length d.labels) ≡ b → length z.labels < length d.labels
    at true t = let more = is_le (suc (length z.labels)) (length d.labels) t in omega arith
    at false t =
        let short = suffix_short z.labels d.labels suffix in
        let over : length d.labels < suc (length z.labels) = grind (arith, nat_tests) in
        let none : length d.labels - length z.labels ≡ 0 = omega arith in
        let labels : same_labels z.labels d.labels ≡ true = sym (ap (λ (k : ℕ). same_labels z.labels (drop k d.labels)) none) ∙ second_so (nat_le (length z.labels) (length d.labels)) _ suffix in
        absurd (alike (top_flag z d above) (low_flag z d above) labels)

-- of a name without its first label
suffix_left : (a ls : List (List ℕ)) → 0 < length a → same_labels ls a ≡ false → is_suffix a ls ≡ true → is_suffix a (drop 1 ls) ≡ true
suffix_left a [] low apart h = let short = suffix_short a [] h in absurd (omega arith)
suffix_left a (l ∷ ls) low apart h = sym (ap (λ (b : Bool). b || is_suffix a ls) apart) ∙ sym (suffix_step a l ls) ∙ h

apart_labels : (n d : DomainName) → n.fqdn ≡ true → d.fqdn ≡ true → same_names n d ≡ false → same_labels n.labels d.labels ≡ false
apart_labels n d f g h = at (same_labels n.labels d.labels) refl
  where
    at : (b : Bool) → same_labels n.labels d.labels ≡ b → same_labels n.labels d.labels ≡ false
    at false t = t
    at true t =
        let flags : beq n.fqdn d.fqdn ≡ true = ap (λ (b : Bool). beq b d.fqdn) f ∙ ap (λ (b : Bool). beq true b) g in
        let same : same_names n d ≡ true = ap (λ (b : Bool). b && beq n.fqdn d.fqdn) t ∙ flags in
        cc

suffix_named : (r : Record) (d : DomainName) → 0 < length d.labels → is_above d (r.name) ≡ true → is_ds_at d r ≡ false → is_suffix d.labels (left_name r).labels ≡ true
suffix_named r d low above apart = at (r.record_type.code == 43) refl apart
  where
    suffix : is_suffix d.labels (r.name).labels ≡ true
    suffix = last_of d r.name above

    at : (b : Bool) → (r.record_type.code == 43) ≡ b → (b && same_names r.name d) ≡ false → is_suffix d.labels (cond b (record { labels = drop 1 (r.name).labels; fqdn = (r.name).fqdn }) r.name).labels ≡ true
    at true t e = suffix_left d.labels (r.name).labels low (apart_labels r.name d (low_flag d r.name above) (top_flag d r.name above) e) suffix
    at false t e = suffix

or_true : (x : Bool) → (x || true) ≡ true
or_true true = refl
or_true false = refl

not_so : (b : Bool) → not b ≡ true → b ≡ false
not_so true h = sym h
not_so false h = refl

left_by : (z : Zone) (r : Record) (zones : List Zone) (d : Zone) → first_cut zones (length (z.apex).labels) (left_name r).labels ≡ None → Has zones d
    → (a : Bool) → is_below z d ≡ a → (b : Bool) → is_above d.apex r.name ≡ b → (c : Bool) → is_ds_at d.apex r ≡ c → is_left_by z r d ≡ true
left_by z r zones d e i true below true above false apart =
    let low : length (z.apex).labels < length (d.apex).labels = deeper z.apex d.apex (first_so (is_above z.apex d.apex) _ below) (not_so (same_names z.apex d.apex) (second_so (is_above z.apex d.apex) _ below)) in
    absurd (none_cut zones (length (z.apex).labels) (left_name r).labels d e i (top_flag d.apex r.name above) low (suffix_named r d.apex (omega arith) above apart))
left_by z r zones d e i true below true above true ds = ap (λ (x : Bool). not (is_below z d && is_above d.apex r.name) || x) ds ∙ or_true (not (is_below z d && is_above d.apex r.name))
left_by z r zones d e i true below false above c ds = ap (λ (x : Bool). not (is_below z d && x) || is_ds_at d.apex r) above ∙ ap (λ (x : Bool). not (x && false) || is_ds_at d.apex r) below
left_by z r zones d e i false below b above c ds = ap (λ (x : Bool). not (x && is_above d.apex r.name) || is_ds_at d.apex r) below

pub left_by_all : (z : Zone) (r : Record) (zones : List Zone) → first_cut zones (length (z.apex).labels) (left_name r).labels ≡ None → list_all (is_left_by z r) zones ≡ true
left_by_all z r zones e = all_pass (is_left_by z r) zones (λ d i. left_by z r zones d e i (is_below z d) refl (is_above d.apex r.name) refl (is_ds_at d.apex r) refl)
