-- Fields of a line: what is read is spelled so, and what is spelled so is read.
use Rattle.std.proofs.Common.{◌≡◌, ℕ, ◌^◌, ◌<◌, ◌≤◌, true, false, cond, ltb, List, [], ◌∷◌, ◌++◌, Option, Some, None, refl, sym, ap, subst, ◌∙◌, append_assoc, arith, inl, inr}
use Rattle.std.specs.Prelude.{decimal}
use Rattle.std.specs.Str.{bytes_eq}
use Rattle.std.specs.List.{AllByRecursion}
use Rattle.std.proofs.lemmas.Bool.{ltb-false, le-ltb}
use Rattle.std.proofs.lemmas.List.{append-nil}
use Rattle.std.proofs.lemmas.Slice.Eq.{bytes_eq-Decides}
use Rattle.std.specs.Net.Addr.{ipv4_octets, IsIpv4Addr}
use Rattle.std.specs.Net.Text.{ipv4_text}
use Rattle.dns_core.specs.Name.{DomainName}
use Rattle.dns_core.specs.NameText.{text_of}
use Rattle.text_lines.specs.Numbers.{◌>>=◌, number_of, number_within, ipv4_of}
use Rattle.text_lines.specs.Names.{relaxed_name, full_name}
use Rattle.text_lines.specs.Fields.{Fields, field, literal, in_table, both, skip, whole, nothing, end_of}
use Rattle.text_lines.specs.Spelling.{IsName, IsFullName}
use Rattle.text_lines.proofs.StepsThatFail.{bind_some, guard_some, guard_not, some_is, chosen}
use Rattle.text_lines.proofs.NumberLaws.{number_takes, number_again, ipv4_takes, ipv4_again}
use Rattle.text_lines.proofs.NameLaws.{name_takes, name_again, relaxed_takes, relaxed_again}

-- a word is read exactly where it spells a value that fits
pub record IsField {X : Type 0} (p : List ℕ → Option X) (text : X → List ℕ) (Fits : X → Type 0) : Type 0 where
  pub takes : (w : List ℕ) (x : X) → p w ≡ Some x → (w ≡ text x) × Fits x
  pub again : (x : X) → Fits x → p (text x) ≡ Some x

-- so are several words
pub record IsSeq {X : Type 0} (p : Fields X) (text : X → List (List ℕ)) (Fits : X → Type 0) : Type 0 where
  pub takes : (ws : List (List ℕ)) (x : X) (rest : List (List ℕ)) → p ws ≡ Some (x, rest) → (ws ≡ text x ++ rest) × Fits x
  pub again : (x : X) (rest : List (List ℕ)) → Fits x → p (text x ++ rest) ≡ Some (x, rest)

abbrev pair : {X : Type 0} → X → List (List ℕ) → X × List (List ℕ)
pair x rest = (x, rest)

field_takes : {X : Type 0} (p : List ℕ → Option X) (ws : List (List ℕ)) (x : X) (rest : List (List ℕ)) → field p ws ≡ Some (x, rest) → (w : List ℕ) × (ws ≡ w ∷ rest) × (p w ≡ Some x)
field_takes {X = X} p [] x rest e = absurd cc
field_takes {X = X} p (w ∷ ws) x rest e =
    let b = bind_some (p w) (λ y. Some (y, ws)) (pair x rest) e in
    let is : pair b.0 ws ≡ pair x rest = some_is (pair b.0 ws) (pair x rest) b.2 in
    (w, ap (λ (q : X × List (List ℕ)). w ∷ q.1) is, b.1 ∙ ap (λ (q : X × List (List ℕ)). Some q.0) is)

pub one : {X : Type 0} (p : List ℕ → Option X) (text : X → List ℕ) (Fits : X → Type 0) → IsField p text Fits → IsSeq (field p) (λ x. text x ∷ []) Fits
one p text Fits law = record {
  takes = λ ws x rest e. let t = field_takes p ws x rest e in let s = law.takes t.0 x t.2 in (t.1 ∙ ap (λ (w : List ℕ). w ∷ rest) s.0, s.1);
  again = λ x rest fits. rw (law.again x fits) refl;
}

pub pair_law : {X Y : Type 0} (p : Fields X) (text : X → List (List ℕ)) (Fits : X → Type 0) (q : Fields Y) (words : Y → List (List ℕ)) (Suits : Y → Type 0)
    → IsSeq p text Fits → IsSeq q words Suits → IsSeq (both p q) (λ x. text x.0 ++ words x.1) (λ x. Fits x.0 × Suits x.1)
pair_law {X = X} {Y = Y} p text Fits q words Suits first second = record {
  takes = λ ws x rest e.
      let a = bind_some (p ws) (λ x. q x.1 >>= λ y. Some ((x.0, y.0), y.1)) (x, rest) e in
      let b = bind_some (q a.0.1) (λ y. Some ((a.0.0, y.0), y.1)) (x, rest) a.2 in
      let made : (X × Y) × List (List ℕ) = ((a.0.0, b.0.0), b.0.1) in
      let s = first.takes ws a.0.0 a.0.1 a.1 in
      let t = second.takes a.0.1 b.0.0 b.0.1 b.1 in
      let split : ws ≡ (text a.0.0 ++ words b.0.0) ++ b.0.1 = s.0 ∙ ap (λ (r : List (List ℕ)). text a.0.0 ++ r) t.0 ∙ sym (append_assoc (text a.0.0) (words b.0.0) b.0.1) in
      subst (λ (z : (X × Y) × List (List ℕ)). (ws ≡ (text z.0.0 ++ words z.0.1) ++ z.1) × (Fits z.0.0 × Suits z.0.1)) (some_is made (x, rest) b.2) (split, (s.1, t.1));
  again = λ x rest fits.
      ap (both p q) (append_assoc (text x.0) (words x.1) rest) ∙ rw (first.again x.0 (words x.1 ++ rest) fits.0, second.again x.1 rest fits.1) refl;
}

pub bytes_same : (v w : List ℕ) → bytes_eq v w ≡ true → v ≡ w
bytes_same v w e = (bytes_eq-Decides v w).0 e

pub skip_law : {Y : Type 0} (key : List ℕ) (q : Fields Y) (words : Y → List (List ℕ)) (Suits : Y → Type 0) → IsSeq q words Suits → IsSeq (skip key q) (λ y. key ∷ words y) Suits
skip_law key q words Suits law = record {
  takes = λ ws x rest e.
      let a = bind_some (field (literal key) ws) (λ u. q u.1) (x, rest) e in
      let f = field_takes (literal key) ws a.0.0 a.0.1 a.1 in
      let g = guard_some (bytes_eq f.0 key) (Some tt) a.0.0 f.2 in
      let t = law.takes a.0.1 x rest a.2 in
      (f.1 ∙ ap (λ (w : List ℕ). w ∷ a.0.1) (bytes_same f.0 key g.0) ∙ ap (λ (r : List (List ℕ)). key ∷ r) t.0, t.1);
  again = λ y rest fits. rw ((bytes_eq-Decides key key).1 refl) (law.again y rest fits);
}

pub nothing_law : IsSeq nothing (λ u. []) (λ u. Unit {0})
nothing_law = record {
  takes = λ ws x rest e. let is : pair tt ws ≡ pair x rest = some_is (pair tt ws) (pair x rest) e in (ap (λ (q : Unit {0} × List (List ℕ)). q.1) is, tt);
  again = λ x rest fits. refl;
}

-- what is read is a view of other fields, which gives them back
pub view_law : {X Y : Type 0} (p : Fields X) (text : X → List (List ℕ)) (Fits : X → Type 0) → IsSeq p text Fits → (f : X → Y) (back : Y → X) (words : Y → List (List ℕ)) (Suits : Y → Type 0)
    → ((x : X) → words (f x) ≡ text x) → ((x : X) → Fits x → Suits (f x)) → ((y : Y) → words y ≡ text (back y)) → ((y : Y) → Suits y → Fits (back y)) → ((y : Y) → f (back y) ≡ y)
    → IsSeq (λ ws. p ws >>= λ x. Some (f x.0, x.1)) words Suits
view_law {X = X} {Y = Y} p text Fits law f back words Suits same suits back_same back_fits undo = record {
  takes = λ ws y rest e.
      let a = bind_some (p ws) (λ x. Some (f x.0, x.1)) (y, rest) e in
      let t = law.takes ws a.0.0 a.0.1 a.1 in
      let made : Y × List (List ℕ) = (f a.0.0, a.0.1) in
      subst (λ (z : Y × List (List ℕ)). (ws ≡ words z.0 ++ z.1) × Suits z.0) (some_is made (y, rest) a.2)
      (t.0 ∙ ap (λ (r : List (List ℕ)). r ++ a.0.1) (sym (same a.0.0)), suits a.0.0 t.1);
  again = λ y rest fits.
      let read : p (words y ++ rest) ≡ Some (back y, rest) = ap (λ (r : List (List ℕ)). p (r ++ rest)) (back_same y) ∙ law.again (back y) rest (back_fits y fits) in
      rw read (ap (λ (z : Y). Some (z, rest)) (undo y));
}

end_takes : (ws : List (List ℕ)) (u : Unit {0}) → end_of ws ≡ Some u → ws ≡ []
end_takes [] u e = refl
end_takes (w ∷ ws) u e = absurd cc

-- a whole line of a kind
pub whole_takes : {X Z : Type 0} (p : Fields X) (text : X → List (List ℕ)) (Fits : X → Type 0) → IsSeq p text Fits → (f : X → Z) (ws : List (List ℕ)) (z : Z) → whole p f ws ≡ Some z → (x : X) × (ws ≡ text x) × Fits x × (f x ≡ z)
whole_takes p text Fits law f ws z e =
    let a = bind_some (p ws) (λ x. end_of x.1 >>= λ e. Some (f x.0)) z e in
    let b = bind_some (end_of a.0.1) (λ e. Some (f a.0.0)) z a.2 in
    let t = law.takes ws a.0.0 a.0.1 a.1 in
    (a.0.0, t.0 ∙ ap (λ (r : List (List ℕ)). text a.0.0 ++ r) (end_takes a.0.1 b.0 b.1) ∙ append-nil (text a.0.0), t.1, some_is (f a.0.0) z b.2)

pub whole_again : {X Z : Type 0} (p : Fields X) (text : X → List (List ℕ)) (Fits : X → Type 0) → IsSeq p text Fits → (f : X → Z) (x : X) → Fits x → whole p f (text x) ≡ Some (f x)
whole_again p text Fits law f x fits =
    let read : p (text x) ≡ Some (x, []) = ap p (sym (append-nil (text x))) ∙ law.again x [] fits in
    rw read refl

-- ---- the fields that there are

abbrev pub IsWithin : ℕ → ℕ → ℕ → Type 0
IsWithin low most n = (low ≤ n) × (n ≤ most)

pub number_field : (low most : ℕ) → most < 2 ^ 64 → IsField (number_within low most) decimal (IsWithin low most)
number_field low most wide = record {
  takes = λ w n e.
      let b = bind_some (number_of most w) (λ n. cond (ltb n low) None (Some n)) n e in
      let g = guard_not (ltb b.0 low) (Some b.0) n b.2 in
      let is : b.0 ≡ n = some_is b.0 n g.1 in
      let t = number_takes most w b.0 wide b.1 in
      (t.0 ∙ ap decimal is, (omega (arith, ltb-false b.0 low g.0, is), omega (arith, t.1, is)));
  again = λ n fits. rw (number_again most n wide fits.1, le-ltb n low fits.0) refl;
}

pub ipv4_field : IsField ipv4_of (λ a. ipv4_text (ipv4_octets a)) IsIpv4Addr
ipv4_field = record { takes = ipv4_takes; again = ipv4_again }

pub relaxed_name_field : IsField relaxed_name text_of IsName
relaxed_name_field = record {
  takes = λ w n e. let read = relaxed_takes w n e in (name_takes false w n read, name_again false w n read);
  again = λ n fits. relaxed_again (text_of n) n fits;
}

pub full_name_field : IsField full_name text_of IsFullName
full_name_field = record {
  takes = λ w n e.
      let b = bind_some (relaxed_name w) (λ n. cond n.fqdn (Some n) None) n e in
      let g = guard_some b.0.fqdn (Some b.0) n b.2 in
      let is : b.0 ≡ n = some_is b.0 n g.1 in
      let read = relaxed_takes w b.0 b.1 in
      subst (λ (m : DomainName). (w ≡ text_of m) × IsFullName m) is (name_takes false w b.0 read, (name_again false w b.0 read, g.0));
  again = λ n fits. rw (relaxed_again (text_of n) n fits.0, fits.1) refl;
}

-- each entry of a table has the text of its value
abbrev pub IsTable : {X : Type 0} → (X → List ℕ) → (X → Type 0) → List (List ℕ × X) → Type 0
IsTable text Fits table = AllByRecursion (λ e. (e.0 ≡ text e.1) × Fits e.1) table

table_takes : {X : Type 0} (text : X → List ℕ) (Fits : X → Type 0) (table : List (List ℕ × X)) → IsTable text Fits table → (w : List ℕ) (x : X) → in_table table w ≡ Some x → (w ≡ text x) × Fits x
table_takes text Fits [] rows w x e = absurd cc
table_takes {X = X} text Fits (entry ∷ table) rows w x e = elim (chosen (bytes_eq w entry.0) (Some entry.1) (in_table table w) (Some x) e) [
  | inl h ↦ subst (λ (y : X). (w ≡ text y) × Fits y) (some_is entry.1 x h.1) (bytes_same w entry.0 h.0 ∙ rows.0.0, rows.0.1)
  | inr h ↦ table_takes text Fits table rows.1 w x h.1
]

pub table_field : {X : Type 0} (text : X → List ℕ) (Fits : X → Type 0) (table : List (List ℕ × X)) → IsTable text Fits table → ((x : X) → Fits x → in_table table (text x) ≡ Some x) → IsField (in_table table) text Fits
table_field text Fits table rows again = record { takes = table_takes text Fits table rows; again = again }
