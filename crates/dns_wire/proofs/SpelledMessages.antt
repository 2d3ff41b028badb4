-- A message that is written out is in wire form.
use Rattle.std.proofs.Common.{◌≡◌, ℕ, ◌+◌, ◌/◌, false, List, [], ◌∷◌, ◌++◌, length, Option, Some, None, refl, sym, ap, subst, arith, append_assoc, append-nil}
use Rattle.std.specs.List.{All, flat_map}
use Rattle.std.proofs.lemmas.List.Elements.{All-head, All-tail}
use Rattle.dns_core.specs.declared.message.Query.{Query}
use Rattle.dns_core.specs.declared.record.Record.{Record}
use Rattle.wire_records.specs.Numbers.{two}
use Rattle.wire_records.specs.Records.{InTurn, QuestionAt, RecordAt, ExtraAt, plain_of, said_of, IsSaid}
use Rattle.wire_records.specs.Sections.{Told}
use Rattle.wire_records.specs.Spelling.{spelled_question, spelled_record, spelled_opt, CanWrite, FitQuestion, FitRecord}
use Rattle.wire_records.specs.declared.edns.Edns.{Edns}
use Rattle.wire_records.specs.declared.edns.Extra.{Extra}
use Rattle.wire_records.specs.declared.edns.Extra.TheVariants.{Plain, Opt}
use Rattle.wire_records.proofs.SpelledLaws.{question_written, record_written, opt_written}
use Rattle.dns_wire.specs.Spelling.{spelled_edns, edns_count, spelled_sections, spelled, IsAbsolute, IsCode, CanSpell, FitMessage}
use Rattle.dns_wire.specs.Wire.{flags, upper_of, edns_of, Wire}
use Rattle.dns_wire.specs.declared.message.WireMessage.{WireMessage}

-- ---- sections

questions_written : (message : List ℕ) (questions : List Query) (rest : List ℕ) → All IsAbsolute questions → All FitQuestion questions → InTurn QuestionAt message (flat_map spelled_question questions ++ rest) questions rest
questions_written message [] rest absolute fit = refl
questions_written message (q ∷ qs) rest absolute fit =
    let after : List ℕ = flat_map spelled_question qs ++ rest in
    let here = question_written q (All-head FitQuestion q qs fit) (All-head IsAbsolute q qs absolute) message after in
    let parts : (spelled_question q ++ flat_map spelled_question qs) ++ rest ≡ spelled_question q ++ after = append_assoc (spelled_question q) (flat_map spelled_question qs) rest in
    (after, subst (λ (b : List ℕ). QuestionAt message b q after) (sym parts) here, questions_written message qs rest (All-tail IsAbsolute q qs absolute) (All-tail FitQuestion q qs fit))

records_written : (message : List ℕ) (records : List Record) (rest : List ℕ) → All CanWrite records → All FitRecord records → InTurn RecordAt message (flat_map spelled_record records ++ rest) records rest
records_written message [] rest can fit = refl
records_written message (r ∷ rs) rest can fit =
    let after : List ℕ = flat_map spelled_record rs ++ rest in
    let here = record_written r (All-head CanWrite r rs can) (All-head FitRecord r rs fit) message after in
    let parts : (spelled_record r ++ flat_map spelled_record rs) ++ rest ≡ spelled_record r ++ after = append_assoc (spelled_record r) (flat_map spelled_record rs) rest in
    (after, subst (λ (b : List ℕ). RecordAt message b r after) (sym parts) here, records_written message rs rest (All-tail CanWrite r rs can) (All-tail FitRecord r rs fit))

-- ---- the additional section

abbrev edns_extras : ℕ → Option Edns → List Extra
edns_extras upper None = []
edns_extras upper (Some edns) = Opt upper edns ∷ []

abbrev all_extras : ℕ → Option Edns → List Record → List Extra
all_extras upper edns [] = edns_extras upper edns
all_extras upper edns (r ∷ rs) = Plain r ∷ all_extras upper edns rs

abbrev told_of : ℕ → Option Edns → Told
told_of upper None = None
told_of upper (Some edns) = Some (upper, edns)

edns_written : (message : List ℕ) (upper : ℕ) (edns : Option Edns) → InTurn ExtraAt message (spelled_edns upper edns) (edns_extras upper edns) []
edns_written message upper None = refl
edns_written message upper (Some edns) =
    let here = opt_written upper edns message [] in
    ([], subst (λ (b : List ℕ). ExtraAt message b (Opt upper edns) []) (append-nil (spelled_opt upper edns)) here, refl)

extras_written : (message : List ℕ) (upper : ℕ) (edns : Option Edns) (records : List Record) → All CanWrite records → All FitRecord records
    → InTurn ExtraAt message (flat_map spelled_record records ++ spelled_edns upper edns) (all_extras upper edns records) []
extras_written message upper edns [] can fit = edns_written message upper edns
extras_written message upper edns (r ∷ rs) can fit =
    let last : List ℕ = spelled_edns upper edns in
    let after : List ℕ = flat_map spelled_record rs ++ last in
    let here = record_written r (All-head CanWrite r rs can) (All-head FitRecord r rs fit) message after in
    let parts : (spelled_record r ++ flat_map spelled_record rs) ++ last ≡ spelled_record r ++ after = append_assoc (spelled_record r) (flat_map spelled_record rs) last in
    (after, subst (λ (b : List ℕ). RecordAt message b r after) (sym parts) here, extras_written message upper edns rs (All-tail CanWrite r rs can) (All-tail FitRecord r rs fit))

extras_plain : (upper : ℕ) (edns : Option Edns) (records : List Record) → records ≡ flat_map plain_of (all_extras upper edns records)
extras_plain upper None [] = refl
extras_plain upper (Some edns) [] = refl
extras_plain upper edns (r ∷ rs) = ap (λ (xs : List Record). r ∷ xs) (extras_plain upper edns rs)

extras_said : (upper : ℕ) (edns : Option Edns) (records : List Record) → IsSaid (flat_map said_of (all_extras upper edns records)) (told_of upper edns)
extras_said upper None [] = refl
extras_said upper (Some edns) [] = refl
extras_said upper edns (r ∷ rs) = extras_said upper edns rs

extras_counted : (upper : ℕ) (edns : Option Edns) (records : List Record) → length records + edns_count edns ≡ length (all_extras upper edns records)
extras_counted upper None [] = refl
extras_counted upper (Some edns) [] = refl
extras_counted upper edns (r ∷ rs) = omega (arith, extras_counted upper edns rs)

-- ---- the message

upper_is : (code : ℕ) (edns : Option Edns) → IsCode code edns → code / 16 ≡ upper_of (told_of (code / 16) edns)
upper_is code None few = omega (arith, few)
upper_is code (Some edns) few = refl

edns_is : (upper : ℕ) (edns : Option Edns) → edns ≡ edns_of (told_of upper edns)
edns_is upper None = refl
edns_is upper (Some edns) = refl

pub wire_spelled : (m : WireMessage) → CanSpell m → FitMessage m → Wire (spelled m) m
wire_spelled m can fit =
    let upper : ℕ = m.code / 16 in
    let at_extras : List ℕ = flat_map spelled_record m.additionals ++ spelled_edns upper m.edns in
    let at_authorities : List ℕ = flat_map spelled_record m.authorities ++ at_extras in
    let at_answers : List ℕ = flat_map spelled_record m.answers ++ at_authorities in
    let front : ℕ → List ℕ = λ extras. two m.id ++ (two (flags m false) ++ (two (length m.questions) ++ (two (length m.answers) ++ (two (length m.authorities) ++ (two extras ++ spelled_sections m))))) in
    record {
      ignored = false;
      body = spelled_sections m;
      extras = all_extras upper m.edns m.additionals;
      told = told_of upper m.edns;
      at_answers = at_answers;
      at_authorities = at_authorities;
      at_extras = at_extras;
      opcode = can.opcode;
      header = ap front (extras_counted upper m.edns m.additionals);
      questions = questions_written (spelled m) m.questions at_answers can.questions fit.questions;
      answers = records_written (spelled m) m.answers at_authorities can.answers fit.answers;
      authorities = records_written (spelled m) m.authorities at_extras can.authorities fit.authorities;
      extra = extras_written (spelled m) upper m.edns m.additionals can.additionals fit.additionals;
      additionals = extras_plain upper m.edns m.additionals;
      said = extras_said upper m.edns m.additionals;
      code = upper_is m.code m.edns can.code;
      edns = edns_is upper m.edns;
    }
