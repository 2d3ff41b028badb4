-- A rule whose records are read one by one: what it holds is what its lines say.
use Rattle.std.proofs.Common.{◌≡◌, ℕ, ◌+◌, ◌-◌, ◌<◌, ◌≤◌, ltb, List, [], ◌∷◌, ◌++◌, length, map, Some, refl, sym, ap, subst, ◌∙◌, arith, inl, inr, append_assoc}
use Rattle.std.specs.List.{AllByRecursion}
use Rattle.std.proofs.lemmas.Bool.{ltb-true, ltb-false}
use Rattle.std.proofs.lemmas.List.{append-nil, map_push, length_push}
use Rattle.dns_core.specs.declared.record.Record.{Record}
use Rattle.text_lines.specs.declared.lines.rules.OpenRule.{OpenRule}
use Rattle.text_lines.specs.Codes.{class_in}
use Rattle.recursor_text.specs.Steps.{add}
use Rattle.text_lines.specs.Spelling.{spelled, IsFullName, IsAddress, IsType, IsCode}
use Rattle.text_lines.specs.LineSpelling.{reply_words, record_text, record_texts, most_delay, IsTransport, IsRecord}
use Rattle.text_lines.proofs.StepsThatFail.{guard_some, some_is, chosen}

-- ---- lists that grow

pub all_push : {X : Type 0} (P : X → Type 0) (xs : List X) (x : X) → AllByRecursion P xs → P x → AllByRecursion P (xs ++ x ∷ [])
all_push P [] x all p = (p, tt)
all_push P (y ∷ ys) x all p = (all.0, all_push P ys x all.1 p)

pub mapped_push : {X : Type 0} (f : X → List ℕ) (base : List (List ℕ)) (xs : List X) (x : X) → base ++ map f (xs ++ x ∷ []) ≡ (base ++ map f xs) ++ f x ∷ []
mapped_push f base xs x = ap (λ (l : List (List ℕ)). base ++ l) (map_push f xs x) ∙ sym (append_assoc base (map f xs) (f x ∷ []))

-- ---- an open rule

pub record IsOpen (o : OpenRule) : Type 0 where
  pub address : IsAddress o.ip
  pub transport : IsTransport o.protocol
  pub named : IsFullName o.message.query.name
  pub typed : IsType o.message.query.query_type
  pub soon : o.delay ≤ most_delay
  pub class : o.message.query.query_class ≡ class_in
  pub fine : IsCode o.message.response_code
  pub few_answers : length o.message.answers + o.owed.answers ≤ 65535
  pub few_authorities : length o.message.authorities + o.owed.authorities ≤ 65535
  pub few_additionals : length o.message.additionals + o.owed.additionals ≤ 65535
  pub answers : AllByRecursion IsRecord o.message.answers
  pub authorities : AllByRecursion IsRecord o.message.authorities
  pub additionals : AllByRecursion IsRecord o.message.additionals
  pub first : 0 < o.owed.answers → (o.message.authorities ≡ []) × (o.message.additionals ≡ [])
  pub second : 0 < o.owed.authorities → o.message.additionals ≡ []

abbrev pub open_head : OpenRule → ℕ → ℕ → ℕ → List ℕ
open_head o a b c = spelled (reply_words o.ip o.protocol o.message.query.name o.message.query.query_type o.delay o.message a b c)

abbrev pub open_lines : OpenRule → List (List ℕ)
open_lines o = open_head o (length o.message.answers + o.owed.answers) (length o.message.authorities + o.owed.authorities) (length o.message.additionals + o.owed.additionals) ∷ record_texts o.message

moved : {X : Type 0} (xs : List X) (x : X) (n : ℕ) → 0 < n → length (xs ++ x ∷ []) + (n - 1) ≡ length xs + n
moved xs x n lt = omega (arith, length_push xs x)

last_push : (us vs ws : List Record) (r : Record) → map record_text us ++ (map record_text vs ++ map record_text (ws ++ r ∷ [])) ≡ (map record_text us ++ (map record_text vs ++ map record_text ws)) ++ record_text r ∷ []
last_push us vs ws r = ap (λ (l : List (List ℕ)). map record_text us ++ l) (mapped_push record_text (map record_text vs) ws r) ∙ sym (append_assoc (map record_text us) (map record_text vs ++ map record_text ws) (record_text r ∷ []))

middle_push : (us vs ws : List Record) (r : Record) → ws ≡ [] → map record_text us ++ (map record_text (vs ++ r ∷ []) ++ map record_text ws) ≡ (map record_text us ++ (map record_text vs ++ map record_text ws)) ++ record_text r ∷ []
middle_push us vs ws r e = rw (e, append-nil (map record_text (vs ++ r ∷ [])), append-nil (map record_text vs)) (mapped_push record_text (map record_text us) vs r)

front_push : (us vs ws : List Record) (r : Record) → (vs ≡ []) × (ws ≡ []) → map record_text (us ++ r ∷ []) ++ (map record_text vs ++ map record_text ws) ≡ (map record_text us ++ (map record_text vs ++ map record_text ws)) ++ record_text r ∷ []
front_push us vs ws r e = rw (e.0, e.1, append-nil (map record_text (us ++ r ∷ [])), append-nil (map record_text us)) (map_push record_text us r)

abbrev with_answer : OpenRule → Record → OpenRule
with_answer o r = record o { message = record o.message { answers = o.message.answers ++ r ∷ [] }; owed = record o.owed { answers = o.owed.answers - 1 } }

abbrev with_authority : OpenRule → Record → OpenRule
with_authority o r = record o { message = record o.message { authorities = o.message.authorities ++ r ∷ [] }; owed = record o.owed { authorities = o.owed.authorities - 1 } }

abbrev with_additional : OpenRule → Record → OpenRule
with_additional o r = record o { message = record o.message { additionals = o.message.additionals ++ r ∷ [] }; owed = record o.owed { additionals = o.owed.additionals - 1 } }

-- the lines of a head with three counts and of records
pub same_head : (o : OpenRule) (a b c d e f : ℕ) (l m : List (List ℕ)) → a ≡ d → b ≡ e → c ≡ f → l ≡ m → (open_head o a b c ∷ l) ≡ (open_head o d e f ∷ m)
same_head o a b c d e f l m p q s t =
    ap (λ (n : ℕ). open_head o n b c ∷ l) p ∙ ap (λ (n : ℕ). open_head o d n c ∷ l) q ∙ ap (λ (n : ℕ). open_head o d e n ∷ l) s ∙ ap (λ (x : List (List ℕ)). open_head o d e f ∷ x) t

abbrev pub Adds : OpenRule → Record → OpenRule → Type 0
Adds o r p = IsOpen p × (open_lines p ≡ open_lines o ++ record_text r ∷ [])

answer_added : (o : OpenRule) (r : Record) → IsOpen o → IsRecord r → 0 < o.owed.answers → Adds o r (with_answer o r)
answer_added o r g fits lt = (
  record {
    address = g.address;
    transport = g.transport;
    named = g.named;
    typed = g.typed;
    soon = g.soon;
    class = g.class;
    fine = g.fine;
    few_answers = omega (arith, moved o.message.answers r o.owed.answers lt, g.few_answers);
    few_authorities = g.few_authorities;
    few_additionals = g.few_additionals;
    answers = all_push _ o.message.answers r g.answers fits;
    authorities = g.authorities;
    additionals = g.additionals;
    first = λ h. g.first lt;
    second = g.second;
  },
  same_head o _ _ _ _ _ _ _ _ (moved o.message.answers r o.owed.answers lt) refl refl (front_push o.message.answers o.message.authorities o.message.additionals r (g.first lt)),
)

authority_added : (o : OpenRule) (r : Record) → IsOpen o → IsRecord r → o.owed.answers ≤ 0 → 0 < o.owed.authorities → Adds o r (with_authority o r)
authority_added o r g fits none lt = (
  record {
    address = g.address;
    transport = g.transport;
    named = g.named;
    typed = g.typed;
    soon = g.soon;
    class = g.class;
    fine = g.fine;
    few_answers = g.few_answers;
    few_authorities = omega (arith, moved o.message.authorities r o.owed.authorities lt, g.few_authorities);
    few_additionals = g.few_additionals;
    answers = g.answers;
    authorities = all_push _ o.message.authorities r g.authorities fits;
    additionals = g.additionals;
    first = λ h. absurd (omega arith);
    second = λ h. g.second lt;
  },
  same_head o _ _ _ _ _ _ _ _ refl (moved o.message.authorities r o.owed.authorities lt) refl (middle_push o.message.answers o.message.authorities o.message.additionals r (g.second lt)),
)

additional_added : (o : OpenRule) (r : Record) → IsOpen o → IsRecord r → o.owed.answers ≤ 0 → o.owed.authorities ≤ 0 → 0 < o.owed.additionals → Adds o r (with_additional o r)
additional_added o r g fits none neither lt = (
  record {
    address = g.address;
    transport = g.transport;
    named = g.named;
    typed = g.typed;
    soon = g.soon;
    class = g.class;
    fine = g.fine;
    few_answers = g.few_answers;
    few_authorities = g.few_authorities;
    few_additionals = omega (arith, moved o.message.additionals r o.owed.additionals lt, g.few_additionals);
    answers = g.answers;
    authorities = g.authorities;
    additionals = all_push _ o.message.additionals r g.additionals fits;
    first = λ h. absurd (omega arith);
    second = λ h. absurd (omega arith);
  },
  same_head o _ _ _ _ _ _ _ _ refl refl (moved o.message.additionals r o.owed.additionals lt) (last_push o.message.answers o.message.authorities o.message.additionals r),
)

pub add_takes : (o : OpenRule) (r : Record) (p : OpenRule) → IsOpen o → IsRecord r → add o r ≡ Some p → Adds o r p
add_takes o r p g fits e =
    elim (chosen (ltb 0 o.owed.answers) (Some (with_answer o r)) _ (Some p) e) [
      | inl h ↦ subst (Adds o r) (some_is (with_answer o r) p h.1) (answer_added o r g fits (ltb-true _ _ h.0))
      | inr h ↦ elim (chosen (ltb 0 o.owed.authorities) (Some (with_authority o r)) _ (Some p) h.1) [
        | inl i ↦ subst (Adds o r) (some_is (with_authority o r) p i.1) (authority_added o r g fits (ltb-false _ _ h.0) (ltb-true _ _ i.0))
        | inr i ↦ let j = guard_some (ltb 0 o.owed.additionals) (Some (with_additional o r)) p i.1 in
            subst (Adds o r) (some_is (with_additional o r) p j.1) (additional_added o r g fits (ltb-false _ _ h.0) (ltb-false _ _ i.0) (ltb-true _ _ j.0))
      ]
    ]
