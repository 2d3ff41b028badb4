-- What is read can be written.
use Rattle.std.proofs.Common.{◌≡◌, ℕ, ◌+◌, ◌/◌, ◌<◌, Bool, true, false, eqb, List, [], ◌∷◌, ◌++◌, length, Some, None, Result, Ok, Err, IfOk, refl, sym, ap, subst, arith}
use Rattle.std.specs.List.{All, flat_map}
use Rattle.std.proofs.lemmas.List.Elements.{All-nil, All-cons}
use Rattle.dns_core.specs.Record.{is_qualified_data}
use Rattle.dns_core.specs.declared.codes.RecordType.{RecordType}
use Rattle.dns_core.specs.declared.message.Query.{Query}
use Rattle.dns_core.specs.declared.record.Record.{Record}
use Rattle.dns_core.specs.declared.record.RData.{RData}
use Rattle.dns_core.specs.declared.record.RData.TheVariants.{A, AAAA, NS, CNAME, SOA, RRSIG, Opaque}
use Rattle.wire_names.specs.Reading.{Gives}
use Rattle.wire_names.specs.declared.errors.WireError.{WireError}
use Rattle.wire_names.proofs.NameLaws.{labels_at}
use Rattle.wire_names.proofs.RunLaws.{IsBytes}
use Rattle.wire_records.specs.Numbers.{two}
use Rattle.wire_records.specs.Records.{InTurn, QuestionAt, TargetAt, KeptData, IsData, RecordAt, OptAt, ExtraAt, plain_of, said_of, IsSaid}
use Rattle.wire_records.specs.Sections.{Told}
use Rattle.wire_records.specs.Spelling.{IsKeptName, IsKeptData, IsKeptAs, CanWrite}
use Rattle.wire_records.specs.declared.edns.Edns.{Edns}
use Rattle.wire_records.specs.declared.edns.Extra.{Extra}
use Rattle.wire_records.specs.declared.edns.Extra.TheVariants.{Plain, Opt}
use Rattle.wire_records.proofs.Following.{bytes_after}
use Rattle.wire_records.proofs.QuestionLaws.{name_follows}
use Rattle.wire_records.proofs.SectionLaws.{record_reader, turns_follow, question_reader}
use Rattle.dns_wire.specs.Reading.{reading}
use Rattle.dns_wire.specs.Spelling.{edns_count, IsAbsolute, IsCode, CanSpell}
use Rattle.dns_wire.specs.Wire.{flags, upper_of, edns_of, Wire}
use Rattle.dns_wire.specs.declared.message.WireMessage.{WireMessage}
use Rattle.dns_wire.proofs.MessageLaws.{message_takes}

-- ---- records

target_kept : (message bytes kept rest : List ℕ) → TargetAt message bytes kept rest → IsKeptName kept
target_kept message bytes kept rest is = (is.0.labels, record { each = labels_at is.1.named; short = is.1.short }, is.2)

kept_data : (pointer exchange : Bool) (message held rest kept : List ℕ) → KeptData pointer exchange message held rest kept → IsKeptData pointer exchange kept
kept_data true exchange message held rest kept is = target_kept message (held ++ rest) kept rest is
kept_data false true message held rest kept is = (is.0, is.1, is.3, is.6, target_kept message is.2 is.3 rest is.5)
kept_data false false message held rest kept is = tt

kept_as : (t : RecordType) (data_is : RData) (message held rest : List ℕ) → IsData message held rest t data_is → IsKeptAs t.code data_is
kept_as t (A address) message held rest is = tt
kept_as t (AAAA address) message held rest is = tt
kept_as t (NS name) message held rest is = tt
kept_as t (CNAME name) message held rest is = tt
kept_as t (SOA soa) message held rest is = tt
kept_as t (RRSIG covered more) message held rest is = tt
kept_as t (Opaque kept) message held rest is = kept_data (eqb t.code 12) (eqb t.code 15) message held rest kept is

qualified : (t : RecordType) (data_is : RData) (message held rest : List ℕ) → IsData message held rest t data_is → is_qualified_data data_is ≡ true
qualified t (A address) message held rest is = refl
qualified t (AAAA address) message held rest is = refl
qualified t (NS name) message held rest is = is.absolute
qualified t (CNAME name) message held rest is = is.absolute
qualified t (SOA soa) message held rest is = rw (is.2.absolute, is.3.absolute) refl
qualified t (RRSIG covered more) message held rest is = refl
qualified t (Opaque kept) message held rest is = refl

record_can : (message bytes : List ℕ) (plain : Record) (rest : List ℕ) → RecordAt message bytes plain rest → CanWrite plain
record_can message bytes plain rest is = record {
  qualified = rw (is.2.absolute, qualified plain.record_type plain.rdata message is.1 rest is.5) refl;
  no_opt = is.4;
  kept = kept_as plain.record_type plain.rdata message is.1 rest is.5;
}

question_can : (message bytes : List ℕ) (query : Query) (rest : List ℕ) → QuestionAt message bytes query rest → IsAbsolute query
question_can message bytes query rest is = is.1.absolute

each_can : {X : Type 0} (At : List ℕ → List ℕ → X → List ℕ → Type 0) (P : X → Type 0) → ((message bytes : List ℕ) (x : X) (rest : List ℕ) → At message bytes x rest → P x)
    → (message bytes : List ℕ) (xs : List X) (rest : List ℕ) → InTurn At message bytes xs rest → All P xs
each_can At P can message bytes [] rest is = All-nil P
each_can At P can message bytes (x ∷ xs) rest is = All-cons P x xs (can message bytes x is.0 is.1) (each_can At P can message is.0 xs rest is.2)

-- ---- the additional section

plain_can : (message bytes : List ℕ) (extras : List Extra) (rest : List ℕ) → InTurn ExtraAt message bytes extras rest → All CanWrite (flat_map plain_of extras)
plain_can message bytes [] rest is = All-nil CanWrite
plain_can message bytes (Plain plain ∷ xs) rest is = All-cons CanWrite plain (flat_map plain_of xs) (record_can message bytes plain is.0 is.1) (plain_can message is.0 xs rest is.2)
plain_can message bytes (Opt upper edns ∷ xs) rest is = plain_can message is.0 xs rest is.2

said_first : (said : ℕ × Edns) (more : List (ℕ × Edns)) (told : Told) → IsSaid (said ∷ more) told → told ≡ Some said
said_first said [] told is = is
said_first said (other ∷ more) told is = absurd is

said_alone : (said : ℕ × Edns) (more : List (ℕ × Edns)) (told : Told) → IsSaid (said ∷ more) told → more ≡ []
said_alone said [] told is = refl
said_alone said (other ∷ more) told is = absurd is

opt_small : (message bytes : List ℕ) (upper : ℕ) (edns : Edns) (rest : List ℕ) → IsBytes bytes → OptAt message bytes upper edns rest → upper < 256
opt_small message bytes upper edns rest fits is = subst IsBytes is.4 (bytes_after bytes is.0 fits (name_follows is.2)) 4

upper_small : (message bytes : List ℕ) (extras : List Extra) (told : Told) (rest : List ℕ) → IsBytes bytes → InTurn ExtraAt message bytes extras rest → IsSaid (flat_map said_of extras) told → upper_of told < 256
upper_small message bytes [] told rest fits is said = omega (arith, ap upper_of said)
upper_small message bytes (Plain plain ∷ xs) told rest fits is said =
    upper_small message is.0 xs told rest (bytes_after bytes is.0 fits (record_reader.follows message bytes plain is.0 is.1)) is.2 said
upper_small message bytes (Opt upper edns ∷ xs) told rest fits is said =
    omega (arith, ap upper_of (said_first (upper, edns) (flat_map said_of xs) told said), opt_small message bytes upper edns is.0 fits is.1)

none_said : (extras : List Extra) → flat_map said_of extras ≡ [] → length (flat_map plain_of extras) ≡ length extras
none_said [] none = refl
none_said (Plain plain ∷ xs) none = omega (arith, none_said xs none)
none_said (Opt upper edns ∷ xs) none = absurd cc

all_counted : (extras : List Extra) (told : Told) → IsSaid (flat_map said_of extras) told → length (flat_map plain_of extras) + edns_count (edns_of told) ≡ length extras
all_counted [] told said = ap (λ (t : Told). 0 + edns_count (edns_of t)) said
all_counted (Plain plain ∷ xs) told said = omega (arith, all_counted xs told said)
all_counted (Opt upper edns ∷ xs) told said =
    let others = flat_map said_of xs in
    let one = ap (λ (t : Told). edns_count (edns_of t)) (said_first (upper, edns) others told said) in
    omega (arith, one, none_said xs (said_alone (upper, edns) others told said))

-- ---- the message

code_is : (code : ℕ) (told : Told) → upper_of told < 256 → code / 16 ≡ upper_of told → IsCode code (edns_of told)
code_is code None few is = omega (arith, is)
code_is code (Some said) few is = omega (arith, few, is)

count_small : (count : ℕ) → count / 256 < 256 → count < 65536
count_small count few = omega (arith, few)

can_spell : (bytes : List ℕ) (m : WireMessage) → IsBytes bytes → Wire bytes m → CanSpell m
can_spell bytes m fits w =
    let spelled : IsBytes (two m.id ++ (two (flags m w.ignored) ++ (two (length m.questions) ++ (two (length m.answers) ++ (two (length m.authorities) ++ (two (length w.extras) ++ w.body)))))) = subst IsBytes w.header fits in
    let b0 = bytes_after bytes w.body fits (record { front = two m.id ++ (two (flags m w.ignored) ++ (two (length m.questions) ++ (two (length m.answers) ++ (two (length m.authorities) ++ two (length w.extras))))); parts = w.header }) in
    let b1 = bytes_after w.body w.at_answers b0 (turns_follow QuestionAt question_reader.follows bytes w.body m.questions w.at_answers w.questions) in
    let b2 = bytes_after w.at_answers w.at_authorities b1 (turns_follow RecordAt record_reader.follows bytes w.at_answers m.answers w.at_authorities w.answers) in
    let b3 = bytes_after w.at_authorities w.at_extras b2 (turns_follow RecordAt record_reader.follows bytes w.at_authorities m.authorities w.at_extras w.authorities) in
    let many : length m.additionals + edns_count m.edns ≡ length w.extras = rw (w.additionals, w.edns) (all_counted w.extras w.told w.said) in
    let extras : length w.extras < 65536 = count_small (length w.extras) (spelled 10) in
    record {
      opcode = w.opcode;
      code = subst (IsCode m.code) (sym w.edns) (code_is m.code w.told (upper_small bytes w.at_extras w.extras w.told [] b3 w.extra w.said) w.code);
      questions = each_can QuestionAt IsAbsolute question_can bytes w.body m.questions w.at_answers w.questions;
      answers = each_can RecordAt CanWrite record_can bytes w.at_answers m.answers w.at_authorities w.answers;
      authorities = each_can RecordAt CanWrite record_can bytes w.at_authorities m.authorities w.at_extras w.authorities;
      additionals = subst (All CanWrite) (sym w.additionals) (plain_can bytes w.at_extras w.extras [] w.extra);
      few_questions = count_small (length m.questions) (spelled 4);
      few_answers = count_small (length m.answers) (spelled 6);
      few_authorities = count_small (length m.authorities) (spelled 8);
      few_extras = omega (arith, many, extras);
    }

-- ---- what a reader returns

pub is_writable : (bytes : List ℕ) (r : Result WireMessage WireError) → IsBytes bytes → Gives (λ m. m) r (reading bytes) → IfOk r (λ m. CanSpell m)
is_writable bytes (Ok m) fits given = can_spell bytes m fits (message_takes bytes m fits given)
is_writable bytes (Err e) fits given = tt
