-- Types, classes and response codes: each has one word, which is read as it.
use Rattle.std.proofs.Common.{◌≡◌, ℕ, ◌^◌, ◌<◌, ◌≤◌, Bool, true, false, cond, ◌&&◌, eqb, ltb, leb, List, [], ◌∷◌, ◌++◌, length, take, drop, Option, Some, None, refl, sym, ap, subst, ◌∙◌, arith, inl, inr, lit<, length-append, take-append-drop, drop_at}
use Rattle.std.specs.Prelude.{codes, decimal, is_some, is_none, unwrap_or}
use Rattle.std.specs.Str.{bytes_eq}
use Rattle.std.specs.List.{list_all}
use Rattle.std.proofs.lemmas.Bool.{and_parts, leb-true, lt-ltb, eqb-true, eq-eqb, ne_eqb, false_from_ne_true}
use Rattle.std.proofs.lemmas.Fmt.{decimal_nonempty}
use Rattle.std.proofs.lemmas.Slice.Eq.{bytes_eq-Decides}
use Rattle.std.proofs.Math.Seq.{take-append_seam}
use Rattle.dns_core.specs.declared.codes.RecordType.{RecordType}
use Rattle.dns_core.specs.declared.codes.DnsClass.{DnsClass}
use Rattle.dns_core.specs.declared.codes.ResponseCode.{ResponseCode}
use Rattle.text_lines.specs.Codes.{code_in, number_behind, first_of, code_of, type_of, class_of, response_code_of}
use Rattle.text_lines.specs.Numbers.{◌>>=◌, number_of}
use Rattle.dns_core.specs.CodeTexts.{name_in, code_text, type_names, class_names, code_names, type_text, class_text, response_code_text}
use Rattle.text_lines.proofs.StepsThatFail.{bind_some, guard_some, guard_not, some_is, chosen}
use Rattle.text_lines.proofs.FieldLaws.{IsField, bytes_same}
use Rattle.text_lines.proofs.NumberLaws.{is_word_byte, number_takes, number_again, decimal_plain}
use Rattle.text_lines.proofs.PlainLaws.{AllBytes, append_plain}

abbrev Names : Type 0
Names = List (ℕ × List ℕ)

-- ---- a number behind a word

behind_takes : (other w : List ℕ) (n : ℕ) → number_behind other w ≡ Some n → (w ≡ other ++ decimal n) × (n ≤ 65535)
behind_takes other w n e =
    let g = guard_some (ltb (length other) (length w) && bytes_eq (take (length other) w) other) (number_of 65535 (drop (length other) w)) n e in
    let p = and_parts (ltb (length other) (length w)) (bytes_eq (take (length other) w) other) g.0 in
    let t = number_takes 65535 (drop (length other) w) n (lit< tt) g.1 in
    (sym (take-append-drop (length other) w) ∙ ap (λ (v : List ℕ). v ++ drop (length other) w) (bytes_same _ _ p.1) ∙ ap (λ (v : List ℕ). other ++ v) t.0, t.1)

behind_again : (other : List ℕ) (n : ℕ) → n ≤ 65535 → number_behind other (other ++ decimal n) ≡ Some n
behind_again other n le =
    let w = other ++ decimal n in
    let more : ltb (length other) (length w) ≡ true = lt-ltb _ _ (omega (arith, length-append other (decimal n), decimal_nonempty n (omega arith))) in
    let front : bytes_eq (take (length other) w) other ≡ true = (bytes_eq-Decides _ _).1 (take-append_seam other (decimal n)) in
    let back : drop (length other) w ≡ decimal n = drop_at other (decimal n) (length other) refl in
    rw (more, front, back) (number_again 65535 n (lit< tt) le)

-- ---- tables of names

abbrev is_new : List ℕ → ℕ × List ℕ → Names → Bool
is_new other e es = is_none (name_in es e.0) && (is_none (code_in es e.1) && (is_none (number_behind other e.1) && leb e.0 65535))

-- the numbers and names of a table differ, and no name is a number behind the word
abbrev pub is_apart : List ℕ → Names → Bool
is_apart other [] = true
is_apart other (e ∷ es) = is_new other e es && is_apart other es

none_is : {A : Type 0} (o : Option A) → is_none o ≡ true → o ≡ None
none_is None e = refl
none_is (Some x) e = absurd cc

not_some : {A : Type 0} (o : Option A) → is_some o ≡ false → o ≡ None
not_some None e = refl
not_some (Some x) e = absurd cc

abbrev IsNew : List ℕ → ℕ × List ℕ → Names → Type 0
IsNew other e es = (name_in es e.0 ≡ None) × (code_in es e.1 ≡ None) × (number_behind other e.1 ≡ None) × (e.0 ≤ 65535)

new_parts : (other : List ℕ) (e : ℕ × List ℕ) (es : Names) → is_new other e es ≡ true → IsNew other e es
new_parts other e es h =
    let a = and_parts (is_none (name_in es e.0)) _ h in
    let b = and_parts (is_none (code_in es e.1)) _ a.1 in
    let c = and_parts (is_none (number_behind other e.1)) _ b.1 in
    (none_is _ a.0, none_is _ b.0, none_is _ c.0, leb-true _ _ c.1)

-- what a name stands for
abbrev Stands : List ℕ → Names → List ℕ → ℕ → Type 0
Stands other names w n = (name_in names n ≡ Some w) × (number_behind other w ≡ None) × (n ≤ 65535)

code_stands : (other : List ℕ) (names : Names) → is_apart other names ≡ true → (w : List ℕ) (n : ℕ) → code_in names w ≡ Some n → Stands other names w n
code_stands other [] apart w n h = absurd cc
code_stands other (e ∷ es) apart w n h =
    let p = and_parts (is_new other e es) (is_apart other es) apart in
    let new = new_parts other e es p.0 in
    elim (chosen (bytes_eq w e.1) (Some e.0) (code_in es w) (Some n) h) [
      | inl a ↦
          let same : w ≡ e.1 = bytes_same w e.1 a.0 in
          let is : e.0 ≡ n = some_is e.0 n a.1 in
          let here : eqb n e.0 ≡ true = eq-eqb n e.0 (sym is) in
          (rw here (ap (λ (v : List ℕ). Some v) (sym same)), ap (number_behind other) same ∙ new.2, omega (arith, new.3, is))
      | inr a ↦
          let r = code_stands other es p.1 w n a.1 in
          let there : eqb n e.0 ≡ false = ne_eqb n e.0 (λ is. let none : name_in es n ≡ None = ap (name_in es) is ∙ new.0 in let both : Some w ≡ None = sym r.0 ∙ none in cc) in
          (rw there r.0, r.1, r.2)
    ]

name_stands : (other : List ℕ) (names : Names) → is_apart other names ≡ true → (w : List ℕ) (n : ℕ) → name_in names n ≡ Some w → code_in names w ≡ Some n
name_stands other [] apart w n h = absurd cc
name_stands other (e ∷ es) apart w n h =
    let p = and_parts (is_new other e es) (is_apart other es) apart in
    let new = new_parts other e es p.0 in
    elim (chosen (eqb n e.0) (Some e.1) (name_in es n) (Some w) h) [
      | inl a ↦
          let same : bytes_eq w e.1 ≡ true = (bytes_eq-Decides _ _).1 (sym (some_is e.1 w a.1)) in
          rw same (ap (λ (k : ℕ). Some k) (sym (eqb-true _ _ a.0)))
      | inr a ↦
          let r = name_stands other es p.1 w n a.1 in
          let there : bytes_eq w e.1 ≡ false = false_from_ne_true _ (λ t. let none : code_in es w ≡ None = ap (code_in es) (bytes_same w e.1 t) ∙ new.1 in let both : Some n ≡ None = sym r ∙ none in cc) in
          rw there r
    ]

-- ---- numbers, by names or behind a word

abbrev unnamed : Names → List ℕ → List ℕ → Option ℕ
unnamed names other w = number_behind other w >>= λ n. cond (is_some (name_in names n)) None (Some n)

abbrev Spells : Names → List ℕ → List ℕ → ℕ → Type 0
Spells names other w n = (w ≡ code_text names other n) × (n ≤ 65535)

code_takes : (names : Names) (other : List ℕ) → is_apart other names ≡ true → (w : List ℕ) (r : Option ℕ) → code_in names w ≡ r → (n : ℕ) → first_of r (unnamed names other w) ≡ Some n → Spells names other w n
code_takes names other apart w (Some m) is n e =
    let s = code_stands other names apart w m is in
    subst (Spells names other w) (some_is m n e) (rw s.0 refl, s.2)
code_takes names other apart w None is n e =
    let b = bind_some (number_behind other w) (λ n. cond (is_some (name_in names n)) None (Some n)) n e in
    let g = guard_not (is_some (name_in names b.0)) (Some b.0) n b.2 in
    let t = behind_takes other w b.0 b.1 in
    subst (Spells names other w) (some_is b.0 n g.1) (rw (not_some _ g.0) t.0, t.1)

no_code : (names : Names) (other : List ℕ) → is_apart other names ≡ true → (n : ℕ) → n ≤ 65535 → (r : Option ℕ) → code_in names (other ++ decimal n) ≡ r → r ≡ None
no_code names other apart n le None is = refl
no_code names other apart n le (Some m) is =
    let s = code_stands other names apart (other ++ decimal n) m is in
    absurd (let both : None ≡ Some n = sym s.1 ∙ behind_again other n le in cc)

code_again : (names : Names) (other : List ℕ) → is_apart other names ≡ true → (n : ℕ) → n ≤ 65535 → (r : Option (List ℕ)) → name_in names n ≡ r → code_of names other (unwrap_or r (other ++ decimal n)) ≡ Some n
code_again names other apart n le (Some w) is = rw (name_stands other names apart w n is) refl
code_again names other apart n le None is =
    rw (no_code names other apart n le (code_in names (other ++ decimal n)) refl, behind_again other n le, is) refl

code_field : (names : Names) (other : List ℕ) → is_apart other names ≡ true → IsField (code_of names other) (code_text names other) (λ n. n ≤ 65535)
code_field names other apart = record {
  takes = λ w n e. code_takes names other apart w (code_in names w) refl n e;
  again = λ n le. code_again names other apart n le (name_in names n) refl;
}

-- what a number is the code of
coded_field : {X : Type 0} (names : Names) (other : List ℕ) → is_apart other names ≡ true → (made : ℕ → X) (number : X → ℕ) → ((n : ℕ) → number (made n) ≡ n) → ((x : X) → made (number x) ≡ x)
    → IsField (λ w. code_of names other w >>= λ n. Some (made n)) (λ x. code_text names other (number x)) (λ x. number x ≤ 65535)
coded_field {X = X} names other apart made number same back = record {
  takes = λ w x e.
      let b = bind_some (code_of names other w) (λ n. Some (made n)) x e in
      let is : number x ≡ b.0 = ap number (sym (some_is (made b.0) x b.2)) ∙ same b.0 in
      subst (Spells names other w) (sym is) ((code_field names other apart).takes w b.0 b.1);
  again = λ x le. rw ((code_field names other apart).again (number x) le) (ap (λ (y : X). Some y) (back x));
}

-- ---- the tables

types_apart : is_apart (codes "TYPE") type_names ≡ true
unfolding type_names
types_apart = refl

classes_apart : is_apart (codes "CLASS") class_names ≡ true
unfolding class_names
classes_apart = refl

codes_apart : is_apart (codes "RCODE") code_names ≡ true
unfolding code_names
codes_apart = refl

abbrev typed : ℕ → RecordType
typed n = record { code = n }

abbrev classed : ℕ → DnsClass
classed n = record { code = n }

abbrev responded : ℕ → ResponseCode
responded n = record { code = n }

pub type_field : IsField type_of type_text (λ t. t.code ≤ 65535)
unfolding type_of type_text
type_field = coded_field type_names (codes "TYPE") types_apart typed (λ t. t.code) (λ n. refl) (λ t. refl)

pub class_field : IsField class_of class_text (λ c. c.code ≤ 65535)
unfolding class_of class_text
class_field = coded_field class_names (codes "CLASS") classes_apart classed (λ c. c.code) (λ n. refl) (λ c. refl)

pub response_code_field : IsField response_code_of response_code_text (λ c. c.code ≤ 65535)
unfolding response_code_of response_code_text
response_code_field = coded_field code_names (codes "RCODE") codes_apart responded (λ c. c.code) (λ n. refl) (λ c. refl)

-- ---- plain bytes

abbrev are_plain : Names → Bool
are_plain names = list_all (λ e. list_all is_word_byte e.1) names

name_plain : (names : Names) → are_plain names ≡ true → (n : ℕ) (w : List ℕ) → name_in names n ≡ Some w → AllBytes is_word_byte w
name_plain [] plain n w h = absurd cc
name_plain (e ∷ es) plain n w h =
    let p = and_parts (list_all is_word_byte e.1) (are_plain es) plain in
    elim (chosen (eqb n e.0) (Some e.1) (name_in es n) (Some w) h) [
      | inl a ↦ subst (AllBytes is_word_byte) (some_is e.1 w a.1) p.0
      | inr a ↦ name_plain es p.1 n w a.1
    ]

code_plain : (names : Names) (other : List ℕ) → are_plain names ≡ true → AllBytes is_word_byte other → (n : ℕ) → n < 2 ^ 64 → (r : Option (List ℕ)) → name_in names n ≡ r → AllBytes is_word_byte (unwrap_or r (other ++ decimal n))
code_plain names other plain begun n lt (Some w) is = name_plain names plain n w is
code_plain names other plain begun n lt None is = append_plain is_word_byte other (decimal n) begun (decimal_plain n lt)

types_plain : are_plain type_names ≡ true
unfolding type_names
types_plain = refl

classes_plain : are_plain class_names ≡ true
unfolding class_names
classes_plain = refl

codes_plain : are_plain code_names ≡ true
unfolding code_names
codes_plain = refl

pub type_plain : (t : RecordType) → t.code ≤ 65535 → AllBytes is_word_byte (type_text t)
unfolding type_text
type_plain t le = code_plain type_names (codes "TYPE") types_plain refl t.code (omega arith) (name_in type_names t.code) refl

pub class_plain : (c : DnsClass) → c.code ≤ 65535 → AllBytes is_word_byte (class_text c)
unfolding class_text
class_plain c le = code_plain class_names (codes "CLASS") classes_plain refl c.code (omega arith) (name_in class_names c.code) refl

pub response_code_plain : (c : ResponseCode) → c.code ≤ 65535 → AllBytes is_word_byte (response_code_text c)
unfolding response_code_text
response_code_plain c le = code_plain code_names (codes "RCODE") codes_plain refl c.code (omega arith) (name_in code_names c.code) refl
