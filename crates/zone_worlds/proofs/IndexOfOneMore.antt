-- What an index finds after one thing more was put in.
use Rattle.std.proofs.Common.{◌≡◌, ℕ, suc, ◌-◌, ◌<◌, ◌≤◌, Bool, true, false, cond, List, [], ◌∷◌, ◌++◌, length, drop, Option, Some, None, slice_get, refl, ap, ◌∙◌, sym, arith}
use Rattle.std.specs.Prelude.{Result, Ok, Err, OnOk, find, nat_le, ◌==◌, ◌&&◌, ◌||◌}
use Rattle.std.specs.Option.{option_map, option_or, is_some}
use Rattle.std.specs.Bool.{beq}
use Rattle.std.specs.List.{list_any}
use Rattle.std.specs.Cmp.Lexicographic.{pointwise}
use Rattle.std.specs.Cmp.{IsEquivalence}
use Rattle.std.specs.declared.net.IpAddr.{IpAddr}
use Rattle.std.specs.contracts.net.ip_addr.IpAddrPartialEq.TheImpl as address
use Rattle.std.specs.HashMap.{HashMap, get}
use Rattle.std.specs.HashMap.Eq.{lookup_congr}
use Rattle.std.proofs.lemmas.Bool.Decides.{nat_tests}
use Rattle.std.proofs.lemmas.List.Folds.{find-append}
use Rattle.dns_core.specs.Letters.{same_letter}
use Rattle.dns_core.specs.Name.{DomainName, same_labels, same_names, is_suffix, last_labels}
use Rattle.resolution.specs.Names.{is_above, base}
use Rattle.resolution.proofs.AboveIsAnOrder.{labels_equiv}
use Rattle.resolution.proofs.Caseless.{length-same}
use Rattle.zone_worlds.specs.Index.{FindsZones, FindsHosts}
use Rattle.zone_rules.specs.Tree.{exists_in}
use Rattle.zone_rules.specs.declared.world.Zone.{Zone}
use Rattle.zone_rules.specs.declared.world.Host.{Host}
use Rattle.zone_rules.specs.declared.world.World.{World}

-- ---- a name is that name or lies above its base

not_le : (m n : ℕ) → n < m → nat_le m n ≡ false
not_le m n h = grind (arith, nat_tests)

is_le : (m n : ℕ) → m ≤ n → nat_le m n ≡ true
is_le m n h = grind (arith, nat_tests)

above : (m n : ℕ) → nat_le m n ≡ false → n < m
above m n h = grind (arith, nat_tests)

below : (m n : ℕ) → nat_le m n ≡ true → m ≤ n
below m n h = grind (arith, nat_tests)

differ : (xs ys : List (List ℕ)) → (length xs ≡ length ys → ⊥) → same_labels xs ys ≡ false
differ xs ys h = at (same_labels xs ys) refl
  where
    at : (b : Bool) → same_labels xs ys ≡ b → same_labels xs ys ≡ false
    at true e = absurd (h (length-same (pointwise same_letter) xs ys e))
    at false e = e

abbrev Step : List (List ℕ) → List ℕ → List (List ℕ) → Type 0
Step a l ls = is_suffix a (l ∷ ls) ≡ (same_labels (l ∷ ls) a || is_suffix a ls)

shorter : (a : List (List ℕ)) (l : List ℕ) (ls : List (List ℕ)) → length a ≤ length ls → Step a l ls
shorter a l ls h =
    let minus : suc (length ls) - length a ≡ suc (length ls - length a) = omega arith in
    let apart : same_labels (l ∷ ls) a ≡ false = differ (l ∷ ls) a (λ e. omega (arith, h, e)) in
    ap (λ (b : Bool). b && same_labels a (last_labels (length a) (l ∷ ls))) (is_le (length a) (suc (length ls)) (omega arith))
    ∙ ap (λ (k : ℕ). same_labels a (drop k (l ∷ ls))) minus
    ∙ sym (ap (λ (b : Bool). b && same_labels a (last_labels (length a) ls)) (is_le (length a) (length ls) h))
    ∙ sym (ap (λ (b : Bool). b || is_suffix a ls) apart)

as_long : (a : List (List ℕ)) (l : List ℕ) (ls : List (List ℕ)) → length a ≡ suc (length ls) → Step a l ls
as_long a l ls h =
    let none : suc (length ls) - length a ≡ 0 = omega arith in
    let no : is_suffix a ls ≡ false = ap (λ (b : Bool). b && same_labels a (last_labels (length a) ls)) (not_le (length a) (length ls) (omega arith)) in
    ap (λ (b : Bool). b && same_labels a (last_labels (length a) (l ∷ ls))) (is_le (length a) (suc (length ls)) (omega arith))
    ∙ ap (λ (k : ℕ). same_labels a (drop k (l ∷ ls))) none ∙ labels_equiv.symm a (l ∷ ls) ∙ or_false (same_labels (l ∷ ls) a)
    ∙ sym (ap (λ (b : Bool). same_labels (l ∷ ls) a || b) no)
  where
    or_false : (b : Bool) → b ≡ (b || false)
    or_false true = refl
    or_false false = refl

longer : (a : List (List ℕ)) (l : List ℕ) (ls : List (List ℕ)) → suc (length ls) < length a → Step a l ls
longer a l ls h =
    let no : is_suffix a ls ≡ false = ap (λ (b : Bool). b && same_labels a (last_labels (length a) ls)) (not_le (length a) (length ls) (omega arith)) in
    let apart : same_labels (l ∷ ls) a ≡ false = differ (l ∷ ls) a (λ e. omega (arith, h, e)) in
    ap (λ (b : Bool). b && same_labels a (last_labels (length a) (l ∷ ls))) (not_le (length a) (suc (length ls)) h)
    ∙ sym no ∙ sym (ap (λ (b : Bool). b || is_suffix a ls) apart)

pub suffix_step : (a : List (List ℕ)) (l : List ℕ) (ls : List (List ℕ)) → Step a l ls
suffix_step a l ls = at (nat_le (length a) (length ls)) refl (nat_le (length a) (suc (length ls))) refl
  where
    at : (b : Bool) → nat_le (length a) (length ls) ≡ b → (c : Bool) → nat_le (length a) (suc (length ls)) ≡ c → Step a l ls
    at true e c f = shorter a l ls (below (length a) (length ls) e)
    at false e true f = let low = above (length a) (length ls) e in let high = below (length a) (suc (length ls)) f in as_long a l ls (omega arith)
    at false e false f = longer a l ls (above (length a) (suc (length ls)) f)

labels_step : (a ls : List (List ℕ)) → (length ls == 0) ≡ false → is_suffix a ls ≡ (same_labels ls a || is_suffix a (drop 1 ls))
labels_step a [] h = cc
labels_step a (l ∷ ls) h = suffix_step a l ls

-- of fully qualified names only the labels count
plain_above : (n m : DomainName) → n.fqdn ≡ true → m.fqdn ≡ true → is_above n m ≡ is_suffix n.labels m.labels
plain_above n m hn hm = ap (λ (b : Bool). b && m.fqdn && is_suffix n.labels m.labels) hn ∙ ap (λ (b : Bool). b && is_suffix n.labels m.labels) hm

plain_same : (m n : DomainName) → m.fqdn ≡ true → n.fqdn ≡ true → same_names m n ≡ same_labels m.labels n.labels
plain_same m n hm hn = ap (λ (b : Bool). same_labels m.labels n.labels && beq b n.fqdn) hm ∙ ap (λ (b : Bool). same_labels m.labels n.labels && beq true b) hn ∙ and_true (same_labels m.labels n.labels)
  where
    and_true : (b : Bool) → (b && true) ≡ b
    and_true true = refl
    and_true false = refl

above_step : (n m : DomainName) → n.fqdn ≡ true → m.fqdn ≡ true → (length m.labels == 0) ≡ false → is_above n m ≡ (same_names m n || is_above n (base m))
above_step n m hn hm h =
    plain_above n m hn hm ∙ labels_step n.labels m.labels h ∙ sym (ap (λ (b : Bool). b || is_suffix n.labels (drop 1 m.labels)) (plain_same m n hm hn))
    ∙ sym (ap (λ (b : Bool). same_names m n || b) (plain_above n (base m) hn hm))

-- ---- names that were put in

put_or : (b x y : Bool) → (cond b true x || y) ≡ (x || (b || y))
put_or true true y = refl
put_or true false y = refl
put_or false x y = refl

pub put_base : (n m : DomainName) (old mid new : Bool) → n.fqdn ≡ true → m.fqdn ≡ true → (length m.labels == 0) ≡ false → mid ≡ cond (same_names m n) true old → new ≡ (mid || is_above n (base m)) → new ≡ (old || is_above n m)
put_base n m old mid new hn hm h e f =
    f ∙ ap (λ (b : Bool). b || is_above n (base m)) e ∙ put_or (same_names m n) old (is_above n (base m)) ∙ sym (ap (λ (b : Bool). old || b) (above_step n m hn hm h))

any_none : {X : Type 0} (p : X → Bool) (xs : List X) → ((x : X) → p x ≡ false) → list_any p xs ≡ false
any_none p [] h = refl
any_none p (x ∷ xs) h = ap (λ (b : Bool). b || list_any p xs) (h x) ∙ any_none p xs h

pub none_exist : (w : World) (n : DomainName) → n.fqdn ≡ false → exists_in w n ≡ false
none_exist w n h =
    any_none (λ z. list_any (λ r. is_above n r.name) z.records) w.zones (λ z. any_none (λ r. is_above n r.name) z.records (λ r. ap (λ (b : Bool). b && (r.name).fqdn && is_suffix n.labels (r.name).labels) h))

-- ---- places that were put in

or_none : {X : Type 0} (o : Option X) → o ≡ option_or o None
or_none None = refl
or_none (Some x) = refl

pub put_new : {K S : Type 0} {same : K → K → Bool} → IsEquivalence same → (old new : HashMap K ℕ S) (k n : K) (place : ℕ) → get same old k ≡ None → get same new n ≡ cond (same k n) (Some place) (get same old n)
    → get same new n ≡ option_or (get same old n) (cond (same k n) (Some place) None)
put_new {same = same} laws old new k n place none e = at (same k n) refl e
  where
    at : (b : Bool) → same k n ≡ b → get same new n ≡ cond b (Some place) (get same old n) → get same new n ≡ option_or (get same old n) (cond b (Some place) None)
    at true h e = e ∙ ap (λ (o : Option ℕ). option_or o (Some place)) (sym none ∙ lookup_congr same laws.congr old.entries k n h)
    at false h e = e ∙ or_none (get same old n)

pub put_known : {K S : Type 0} {same : K → K → Bool} → IsEquivalence same → (old : HashMap K ℕ S) (k n : K) (place : ℕ) (known : ℕ) → get same old k ≡ Some known → get same old n ≡ option_or (get same old n) (cond (same k n) (Some place) None)
put_known {same = same} laws old k n place known some = at (same k n) refl
  where
    at : (b : Bool) → same k n ≡ b → get same old n ≡ option_or (get same old n) (cond b (Some place) None)
    at true h = let here = sym (lookup_congr same laws.congr old.entries k n h) ∙ some in here ∙ sym (ap (λ (o : Option ℕ). option_or o (Some place)) here)
    at false h = or_none (get same old n)

found_more : {L : Type 0} (g : ℕ → Option L) (b : Bool) (o : Option ℕ) (f : Option L) (i : ℕ) (x : L) → g i ≡ Some x → option_map g o ≡ option_map Some f → option_map g (option_or o (cond b (Some i) None)) ≡ option_map Some (option_or f (cond b (Some x) None))
found_more g b (Some j) (Some y) i x e h = h
found_more g true None None i x e h = ap Some e
found_more g false None None i x e h = refl
found_more g b (Some j) None i x e h = cc
found_more g b None (Some y) i x e h = cc

pub hosts_more : {S : Type 0} (hosts seen : List Host) (old new : HashMap IpAddr ℕ S) (x : Host) (i : ℕ) → FindsHosts hosts seen old
    → ((a : IpAddr) → get address.ghosts.eq new a ≡ option_or (get address.ghosts.eq old a) (cond (address.ghosts.eq x.ip a) (Some i) None)) → slice_get hosts i ≡ Some x → FindsHosts hosts (seen ++ x ∷ []) new
hosts_more hosts seen old new x i h put e = λ a.
    ap (option_map (slice_get hosts)) (put a) ∙ found_more (slice_get hosts) (address.ghosts.eq x.ip a) (get address.ghosts.eq old a) (find (λ y. address.ghosts.eq y.ip a) seen) i x e (h a)
    ∙ sym (ap (option_map Some) (find-append (λ y. address.ghosts.eq y.ip a) seen (x ∷ [])))

pub zones_more : {S : Type 0} (zones seen : List Zone) (old new : HashMap DomainName ℕ S) (z : Zone) (i : ℕ) → FindsZones zones seen old
    → ((n : DomainName) → get same_names new n ≡ option_or (get same_names old n) (cond (same_names z.apex n) (Some i) None)) → slice_get zones i ≡ Some z → FindsZones zones (seen ++ z ∷ []) new
zones_more zones seen old new z i h put e = λ n.
    ap (option_map (slice_get zones)) (put n) ∙ found_more (slice_get zones) (same_names z.apex n) (get same_names old n) (find (λ y. same_names y.apex n) seen) i z e (h n)
    ∙ sym (ap (option_map Some) (find-append (λ y. same_names y.apex n) seen (z ∷ [])))

-- what follows where a call went well
pub on_ok : {T E P Q : Type 0} (r : Result T E) → OnOk r P → (P → Q) → OnOk r Q
on_ok (Ok x) p f = f p
on_ok (Err e) p f = tt

pub absent : {X : Type 0} (o : Option X) (b : Bool) → b ≡ is_some o → b ≡ false → o ≡ None
absent None b e h = refl
absent (Some x) b e h = cc

pub present : {X : Type 0} (o : Option X) (b : Bool) → b ≡ is_some o → b ≡ true → (x : X) × (o ≡ Some x)
present None b e h = cc
present (Some x) b e h = (x, refl)
