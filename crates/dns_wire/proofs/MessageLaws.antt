-- A message that is read stands there, and one that stands there is read.
use Rattle.std.proofs.Common.{◌≡◌, ℕ, ◌+◌, ◌*◌, ◌/◌, ◌%◌, ◌<◌, Bool, cond, eqb, List, [], ◌++◌, length, Option, None, Result, Ok, Err, IfOk, refl, sym, ap, subst, ◌∙◌, arith, eqb-true}
use Rattle.std.specs.List.{flat_map}
use Rattle.std.proofs.lemmas.List.{nil_from_length}
use Rattle.dns_core.specs.declared.message.Query.{Query}
use Rattle.dns_core.specs.declared.record.Record.{Record}
use Rattle.wire_names.specs.Reading.{◌>>=◌, Gives}
use Rattle.wire_names.specs.declared.errors.WireError.{WireError}
use Rattle.wire_names.specs.declared.errors.WireError.TheVariants.{Trailing}
use Rattle.wire_names.proofs.Binds.{bind_ok, ok_is}
use Rattle.wire_names.proofs.RunLaws.{IsBytes}
use Rattle.wire_records.specs.Numbers.{two, Read, two_of}
use Rattle.wire_records.specs.Records.{bit, InTurn, QuestionAt, RecordAt, ExtraAt, plain_of}
use Rattle.wire_records.specs.declared.edns.Edns.{Edns}
use Rattle.wire_records.specs.Reading.{question_of, record_of}
use Rattle.wire_records.specs.Sections.{in_turn, Told, extras_of}
use Rattle.wire_records.proofs.DataLaws.{passed}
use Rattle.wire_records.proofs.Following.{Follows, bytes_after}
use Rattle.wire_records.proofs.NumberLaws.{two_takes, two_follows, two_small, two_joined}
use Rattle.wire_records.proofs.SectionLaws.{ExtrasAt, question_reader, record_reader, turns_take, turns_again, turns_follow, extras_take, extras_again}
use Rattle.dns_wire.specs.Wire.{flags, upper_of, edns_of, Wire}
use Rattle.dns_wire.specs.Reading.{header_of, is_set, message_of, sections_of, reading}
use Rattle.dns_wire.specs.declared.header.Header.{Header}
use Rattle.dns_wire.specs.declared.message.WireMessage.{WireMessage}
use Rattle.dns_wire.proofs.FlagLaws.{is_bit, bit_small, bit_set, all_bits, response_is, opcode_is, authoritative_is, truncation_is, desired_is, available_is, authentic_is, checking_is, code_is}

-- ---- the header

abbrev spelled_header : Header → List ℕ → List ℕ
spelled_header h body = two h.id ++ (two h.flags ++ (two h.questions ++ (two h.answers ++ (two h.authorities ++ (two h.extras ++ body)))))

abbrev header_from : ℕ → ℕ → ℕ → ℕ → ℕ → ℕ → Header
header_from i f q a u x = record { id = i; flags = f; questions = q; answers = a; authorities = u; extras = x }

record HeaderIs (bytes : List ℕ) (h : Header) (body : List ℕ) : Type 0 where
  parts : bytes ≡ spelled_header h body
  small : h.flags < 65536

header_takes : (bytes : List ℕ) (x : Header × List ℕ) → IsBytes bytes → header_of bytes ≡ Ok x → HeaderIs bytes x.0 x.1
header_takes bytes x fits e =
    let i = bind_ok (two_of bytes) (λ i. two_of i.1 >>= λ f. two_of f.1 >>= λ q. two_of q.1 >>= λ a. two_of a.1 >>= λ u. two_of u.1 >>= λ x. Ok (header_from i.0 f.0 q.0 a.0 u.0 x.0, x.1)) x e in
    let f = bind_ok (two_of i.0.1) (λ f. two_of f.1 >>= λ q. two_of q.1 >>= λ a. two_of a.1 >>= λ u. two_of u.1 >>= λ x. Ok (header_from i.0.0 f.0 q.0 a.0 u.0 x.0, x.1)) x i.2 in
    let q = bind_ok (two_of f.0.1) (λ q. two_of q.1 >>= λ a. two_of a.1 >>= λ u. two_of u.1 >>= λ x. Ok (header_from i.0.0 f.0.0 q.0 a.0 u.0 x.0, x.1)) x f.2 in
    let a = bind_ok (two_of q.0.1) (λ a. two_of a.1 >>= λ u. two_of u.1 >>= λ x. Ok (header_from i.0.0 f.0.0 q.0.0 a.0 u.0 x.0, x.1)) x q.2 in
    let u = bind_ok (two_of a.0.1) (λ u. two_of u.1 >>= λ x. Ok (header_from i.0.0 f.0.0 q.0.0 a.0.0 u.0 x.0, x.1)) x a.2 in
    let n = bind_ok (two_of u.0.1) (λ n. Ok (header_from i.0.0 f.0.0 q.0.0 a.0.0 u.0.0 n.0, n.1)) x u.2 in
    let b1 = bytes_after bytes i.0.1 fits (two_follows bytes i.0 i.1) in
    let b2 = bytes_after i.0.1 f.0.1 b1 (two_follows i.0.1 f.0 f.1) in
    let b3 = bytes_after f.0.1 q.0.1 b2 (two_follows f.0.1 q.0 q.1) in
    let b4 = bytes_after q.0.1 a.0.1 b3 (two_follows q.0.1 a.0 a.1) in
    let b5 = bytes_after a.0.1 u.0.1 b4 (two_follows a.0.1 u.0 u.1) in
    let small = two_small i.0.1 f.0 b1 f.1 in
    let all = six bytes i.0 f.0 q.0 a.0 u.0 n.0 (two_takes bytes i.0 fits i.1) (two_takes i.0.1 f.0 b1 f.1) (two_takes f.0.1 q.0 b2 q.1) (two_takes q.0.1 a.0 b3 a.1) (two_takes a.0.1 u.0 b4 u.1) (two_takes u.0.1 n.0 b5 n.1) in
    subst (λ (y : Header × List ℕ). HeaderIs bytes y.0 y.1) (ok_is (header_from i.0.0 f.0.0 q.0.0 a.0.0 u.0.0 n.0.0, n.0.1) x n.2) (record { parts = all; small = small })
  where
    six : (bytes : List ℕ) (i f q a u n : ℕ × List ℕ) → bytes ≡ two i.0 ++ i.1 → i.1 ≡ two f.0 ++ f.1 → f.1 ≡ two q.0 ++ q.1 → q.1 ≡ two a.0 ++ a.1 → a.1 ≡ two u.0 ++ u.1 → u.1 ≡ two n.0 ++ n.1
        → bytes ≡ two i.0 ++ (two f.0 ++ (two q.0 ++ (two a.0 ++ (two u.0 ++ (two n.0 ++ n.1)))))
    six bytes i f q a u n e1 e2 e3 e4 e5 e6 =
        e1 ∙ ap (λ (r : List ℕ). two i.0 ++ r) (e2 ∙ ap (λ (r : List ℕ). two f.0 ++ r) (e3 ∙ ap (λ (r : List ℕ). two q.0 ++ r) (e4 ∙ ap (λ (r : List ℕ). two a.0 ++ r) (e5 ∙ ap (λ (r : List ℕ). two u.0 ++ r) e6))))

header_follows : (bytes : List ℕ) (h : Header) (body : List ℕ) → HeaderIs bytes h body → Follows bytes body
header_follows bytes h body is = record { front = two h.id ++ (two h.flags ++ (two h.questions ++ (two h.answers ++ (two h.authorities ++ two h.extras)))); parts = is.parts }

header_again : (h : Header) (body : List ℕ) → header_of (spelled_header h body) ≡ Ok (h, body)
header_again h body = rw (two_joined h.id, two_joined h.flags, two_joined h.questions, two_joined h.answers, two_joined h.authorities, two_joined h.extras) refl

-- ---- what is read stands there

code_low : (upper f : ℕ) → (16 * upper + f % 16) % 16 ≡ f % 16
code_low upper f = omega arith

code_high : (upper f : ℕ) → (16 * upper + f % 16) / 16 ≡ upper
code_high upper f = omega arith

flags_are : (h : Header) (q : List Query) (a u : List Record) (x : List Record × Told) → h.flags < 65536 → h.flags ≡ flags (message_of h q a u x) (is_set h.flags 64)
flags_are h q a u x small =
    let f : ℕ = h.flags in
    rw (is_bit f 32768, is_bit f 1024, is_bit f 512, is_bit f 256, is_bit f 128, is_bit f 64, is_bit f 32, is_bit f 16, code_low (upper_of x.1) f) (all_bits f small)

abbrev Xs : Type 0
Xs = (List Record × Told) × List ℕ

wire_from : (bytes : List ℕ) (h : Header) (body : List ℕ) (q : List Query × List ℕ) (a u : List Record × List ℕ) (x : Xs) → HeaderIs bytes h body
    → InTurn QuestionAt bytes body q.0 q.1 → length q.0 ≡ h.questions → InTurn RecordAt bytes q.1 a.0 a.1 → length a.0 ≡ h.answers → InTurn RecordAt bytes a.1 u.0 u.1 → length u.0 ≡ h.authorities
    → ExtrasAt bytes u.1 h.extras x.0.0 x.0.1 x.1 → x.1 ≡ [] → Wire bytes (message_of h q.0 a.0 u.0 x.0)
wire_from bytes h body q a u x header questions many_q answers many_a authorities many_u extra ends =
    let f : ℕ = h.flags in
    let rest = two (length q.0) ++ (two (length a.0) ++ (two (length u.0) ++ (two (length extra.extras) ++ body))) in
    let counts : two h.questions ++ (two h.answers ++ (two h.authorities ++ (two h.extras ++ body))) ≡ rest =
    ap (λ (k : ℕ). two k ++ (two h.answers ++ (two h.authorities ++ (two h.extras ++ body)))) (sym many_q) ∙ ap (λ (k : ℕ). two (length q.0) ++ (two k ++ (two h.authorities ++ (two h.extras ++ body)))) (sym many_a)
    ∙ ap (λ (k : ℕ). two (length q.0) ++ (two (length a.0) ++ (two k ++ (two h.extras ++ body)))) (sym many_u) ∙ ap (λ (k : ℕ). two (length q.0) ++ (two (length a.0) ++ (two (length u.0) ++ (two k ++ body)))) (sym extra.counted) in
    record {
      ignored = is_set f 64;
      body = body;
      extras = extra.extras;
      told = x.0.1;
      at_answers = q.1;
      at_authorities = a.1;
      at_extras = u.1;
      opcode = omega arith;
      header = header.parts ∙ ap (λ (c : List ℕ). two h.id ++ (two f ++ c)) counts ∙ ap (λ (k : ℕ). two h.id ++ (two k ++ rest)) (flags_are h q.0 a.0 u.0 x.0 header.small);
      questions = questions;
      answers = answers;
      authorities = authorities;
      extra = subst (λ (z : List ℕ). InTurn ExtraAt bytes u.1 extra.extras z) ends extra.in_turn;
      additionals = extra.plain;
      said = extra.said;
      code = code_high (upper_of x.0.1) f;
      edns = refl;
    }

sections_take : (bytes : List ℕ) (h : Header) (body : List ℕ) (m : WireMessage) → IsBytes bytes → HeaderIs bytes h body → sections_of bytes h body ≡ Ok m → Wire bytes m
unfolding sections_of
sections_take bytes h body m fits header e =
    let last : List Query → List Record → List Record → Xs → Result WireMessage WireError = λ q a u x. cond (eqb (length x.1) 0) (Ok (message_of h q a u x.0)) (Err Trailing) in
    let q = bind_ok (in_turn question_of h.questions bytes body) (λ q. in_turn record_of h.answers bytes q.1 >>= λ a. in_turn record_of h.authorities bytes a.1 >>= λ u. extras_of h.extras None bytes u.1 >>= λ x. last q.0 a.0 u.0 x) m e in
    let a = bind_ok (in_turn record_of h.answers bytes q.0.1) (λ a. in_turn record_of h.authorities bytes a.1 >>= λ u. extras_of h.extras None bytes u.1 >>= λ x. last q.0.0 a.0 u.0 x) m q.2 in
    let u = bind_ok (in_turn record_of h.authorities bytes a.0.1) (λ u. extras_of h.extras None bytes u.1 >>= λ x. last q.0.0 a.0.0 u.0 x) m a.2 in
    let x = bind_ok (extras_of h.extras None bytes u.0.1) (λ x. last q.0.0 a.0.0 u.0.0 x) m u.2 in
    let p = passed (eqb (length x.0.1) 0) Trailing (message_of h q.0.0 a.0.0 u.0.0 x.0.0) m x.2 in
    let b0 = bytes_after bytes body fits (header_follows bytes h body header) in
    let questions = turns_take question_of QuestionAt question_reader h.questions bytes body q.0 fits b0 q.1 in
    let b1 = bytes_after body q.0.1 b0 (turns_follow QuestionAt question_reader.follows bytes body q.0.0 q.0.1 questions.0) in
    let answers = turns_take record_of RecordAt record_reader h.answers bytes q.0.1 a.0 fits b1 a.1 in
    let b2 = bytes_after q.0.1 a.0.1 b1 (turns_follow RecordAt record_reader.follows bytes q.0.1 a.0.0 a.0.1 answers.0) in
    let authorities = turns_take record_of RecordAt record_reader h.authorities bytes a.0.1 u.0 fits b2 u.1 in
    let b3 = bytes_after a.0.1 u.0.1 b2 (turns_follow RecordAt record_reader.follows bytes a.0.1 u.0.0 u.0.1 authorities.0) in
    let extra = extras_take h.extras bytes u.0.1 x.0 fits b3 x.1 in
    let ends = nil_from_length x.0.1 (eqb-true (length x.0.1) 0 p.0) in
    subst (Wire bytes) p.1 (wire_from bytes h body q.0 a.0 u.0 x.0 header questions.0 questions.1 answers.0 answers.1 authorities.0 authorities.1 extra ends)

pub message_takes : (bytes : List ℕ) (m : WireMessage) → IsBytes bytes → reading bytes ≡ Ok m → Wire bytes m
message_takes bytes m fits e =
    let h = bind_ok (header_of bytes) (λ h. sections_of bytes h.0 h.1) m e in
    sections_take bytes h.0.0 h.0.1 m fits (header_takes bytes h.0 fits h.1) h.2

-- ---- what stands there is read

abbrev with_fields : WireMessage → Bool → ℕ → Bool → Bool → Bool → Bool → Bool → Bool → ℕ → List Record → Option Edns → WireMessage
with_fields m response opcode authoritative truncation desired available authentic checking code additionals edns = record {
  id = m.id;
  response = response;
  opcode = opcode;
  authoritative = authoritative;
  truncation = truncation;
  recursion_desired = desired;
  recursion_available = available;
  authentic = authentic;
  checking = checking;
  code = code;
  questions = m.questions;
  answers = m.answers;
  authorities = m.authorities;
  additionals = additionals;
  edns = edns;
}

same_message : (m : WireMessage) (response : Bool) (opcode : ℕ) (authoritative truncation desired available authentic checking : Bool) (code : ℕ) (additionals : List Record) (edns : Option Edns)
    → response ≡ m.response → opcode ≡ m.opcode → authoritative ≡ m.authoritative → truncation ≡ m.truncation → desired ≡ m.recursion_desired → available ≡ m.recursion_available → authentic ≡ m.authentic → checking ≡ m.checking
    → code ≡ m.code → additionals ≡ m.additionals → edns ≡ m.edns → with_fields m response opcode authoritative truncation desired available authentic checking code additionals edns ≡ m
same_message m response opcode authoritative truncation desired available authentic checking code additionals edns e1 e2 e3 e4 e5 e6 e7 e8 e9 e10 e11 = rw (e1, e2, e3, e4, e5, e6, e7, e8, e9, e10, e11) refl

abbrev header_for : WireMessage → Bool → ℕ → Header
header_for m ignored extras = header_from m.id (flags m ignored) (length m.questions) (length m.answers) (length m.authorities) extras

code_joined : (code : ℕ) → 16 * (code / 16) + code % 16 ≡ code
code_joined code = omega arith

message_is : (bytes : List ℕ) (m : WireMessage) (w : Wire bytes m) → message_of (header_for m w.ignored (length w.extras)) m.questions m.answers m.authorities (flat_map plain_of w.extras, w.told) ≡ m
message_is bytes m w =
    let i : Bool = w.ignored in
    let f : ℕ = flags m i in
    let k : ℕ = m.code % 16 in
    let k_few : k < 16 = omega arith in
    let low = code_is (bit m.response) m.opcode (bit m.authoritative) (bit m.truncation) (bit m.recursion_desired) (bit m.recursion_available) (bit i) (bit m.authentic) (bit m.checking) k (bit_small m.response) w.opcode (bit_small m.authoritative) (bit_small m.truncation) (bit_small m.recursion_desired) (bit_small m.recursion_available) (bit_small i) (bit_small m.authentic) (bit_small m.checking) k_few in
    let code = ap (λ (u : ℕ). 16 * u + f % 16) (sym w.code) ∙ ap (λ (l : ℕ). 16 * (m.code / 16) + l) low ∙ code_joined m.code in
    same_message m (is_set f 32768) (f / 2048 % 16) (is_set f 1024) (is_set f 512) (is_set f 256) (is_set f 128) (is_set f 32) (is_set f 16) (16 * upper_of w.told + f % 16) (flat_map plain_of w.extras) (edns_of w.told)
    (bit_set m.response (f / 32768 % 2) (response_is (bit m.response) m.opcode (bit m.authoritative) (bit m.truncation) (bit m.recursion_desired) (bit m.recursion_available) (bit i) (bit m.authentic) (bit m.checking) k (bit_small m.response) w.opcode (bit_small m.authoritative) (bit_small m.truncation) (bit_small m.recursion_desired) (bit_small m.recursion_available) (bit_small i) (bit_small m.authentic) (bit_small m.checking) k_few))
    (opcode_is (bit m.response) m.opcode (bit m.authoritative) (bit m.truncation) (bit m.recursion_desired) (bit m.recursion_available) (bit i) (bit m.authentic) (bit m.checking) k (bit_small m.response) w.opcode (bit_small m.authoritative) (bit_small m.truncation) (bit_small m.recursion_desired) (bit_small m.recursion_available) (bit_small i) (bit_small m.authentic) (bit_small m.checking) k_few)
    (bit_set m.authoritative (f / 1024 % 2) (authoritative_is (bit m.response) m.opcode (bit m.authoritative) (bit m.truncation) (bit m.recursion_desired) (bit m.recursion_available) (bit i) (bit m.authentic) (bit m.checking) k (bit_small m.response) w.opcode (bit_small m.authoritative) (bit_small m.truncation) (bit_small m.recursion_desired) (bit_small m.recursion_available) (bit_small i) (bit_small m.authentic) (bit_small m.checking) k_few))
    (bit_set m.truncation (f / 512 % 2) (truncation_is (bit m.response) m.opcode (bit m.authoritative) (bit m.truncation) (bit m.recursion_desired) (bit m.recursion_available) (bit i) (bit m.authentic) (bit m.checking) k (bit_small m.response) w.opcode (bit_small m.authoritative) (bit_small m.truncation) (bit_small m.recursion_desired) (bit_small m.recursion_available) (bit_small i) (bit_small m.authentic) (bit_small m.checking) k_few))
    (bit_set m.recursion_desired (f / 256 % 2) (desired_is (bit m.response) m.opcode (bit m.authoritative) (bit m.truncation) (bit m.recursion_desired) (bit m.recursion_available) (bit i) (bit m.authentic) (bit m.checking) k (bit_small m.response) w.opcode (bit_small m.authoritative) (bit_small m.truncation) (bit_small m.recursion_desired) (bit_small m.recursion_available) (bit_small i) (bit_small m.authentic) (bit_small m.checking) k_few))
    (bit_set m.recursion_available (f / 128 % 2) (available_is (bit m.response) m.opcode (bit m.authoritative) (bit m.truncation) (bit m.recursion_desired) (bit m.recursion_available) (bit i) (bit m.authentic) (bit m.checking) k (bit_small m.response) w.opcode (bit_small m.authoritative) (bit_small m.truncation) (bit_small m.recursion_desired) (bit_small m.recursion_available) (bit_small i) (bit_small m.authentic) (bit_small m.checking) k_few))
    (bit_set m.authentic (f / 32 % 2) (authentic_is (bit m.response) m.opcode (bit m.authoritative) (bit m.truncation) (bit m.recursion_desired) (bit m.recursion_available) (bit i) (bit m.authentic) (bit m.checking) k (bit_small m.response) w.opcode (bit_small m.authoritative) (bit_small m.truncation) (bit_small m.recursion_desired) (bit_small m.recursion_available) (bit_small i) (bit_small m.authentic) (bit_small m.checking) k_few))
    (bit_set m.checking (f / 16 % 2) (checking_is (bit m.response) m.opcode (bit m.authoritative) (bit m.truncation) (bit m.recursion_desired) (bit m.recursion_available) (bit i) (bit m.authentic) (bit m.checking) k (bit_small m.response) w.opcode (bit_small m.authoritative) (bit_small m.truncation) (bit_small m.recursion_desired) (bit_small m.recursion_available) (bit_small i) (bit_small m.authentic) (bit_small m.checking) k_few))
    code (sym w.additionals) (sym w.edns)

sections_again : (bytes : List ℕ) (m : WireMessage) (w : Wire bytes m) → IsBytes bytes → sections_of bytes (header_for m w.ignored (length w.extras)) w.body ≡ Ok m
unfolding sections_of
sections_again bytes m w fits =
    let b0 = bytes_after bytes w.body fits (record { front = two m.id ++ (two (flags m w.ignored) ++ (two (length m.questions) ++ (two (length m.answers) ++ (two (length m.authorities) ++ two (length w.extras))))); parts = w.header }) in
    let b1 = bytes_after w.body w.at_answers b0 (turns_follow QuestionAt question_reader.follows bytes w.body m.questions w.at_answers w.questions) in
    let b2 = bytes_after w.at_answers w.at_authorities b1 (turns_follow RecordAt record_reader.follows bytes w.at_answers m.answers w.at_authorities w.answers) in
    let b3 = bytes_after w.at_authorities w.at_extras b2 (turns_follow RecordAt record_reader.follows bytes w.at_authorities m.authorities w.at_extras w.authorities) in
    let q = turns_again question_of QuestionAt question_reader bytes w.body m.questions w.at_answers w.questions in
    let a = turns_again record_of RecordAt record_reader bytes w.at_answers m.answers w.at_authorities w.answers in
    let u = turns_again record_of RecordAt record_reader bytes w.at_authorities m.authorities w.at_extras w.authorities in
    let x = extras_again bytes w.at_extras w.extras w.told [] b3 w.extra w.said in
    rw (q, a, u, x) (ap (λ (n : WireMessage). Ok n) (message_is bytes m w))

pub message_again : (bytes : List ℕ) (m : WireMessage) → IsBytes bytes → Wire bytes m → reading bytes ≡ Ok m
message_again bytes m fits w =
    let h : Header = header_for m w.ignored (length w.extras) in
    let after_header : Header × List ℕ → Result WireMessage WireError = λ y. sections_of bytes y.0 y.1 in
    ap (λ (r : Read Header). r >>= after_header) (ap header_of w.header ∙ header_again h w.body) ∙ sections_again bytes m w fits

-- ---- what a reader returns

pub is_found : (bytes : List ℕ) (r : Result WireMessage WireError) → IsBytes bytes → Gives (λ m. m) r (reading bytes) → IfOk r (λ m. Wire bytes m)
is_found bytes (Ok m) fits given = message_takes bytes m fits given
is_found bytes (Err e) fits given = tt
