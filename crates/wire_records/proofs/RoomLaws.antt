-- Room that is taken in parts.
use Rattle.std.proofs.Common.{List, ◌++◌, length, length-append, ◌≡◌, ℕ, ◌+◌, ◌-◌, ◌≤◌, true, false, ltb, Some, None, refl, sym, ap, ◌∙◌, inl, inr, arith, lt-ltb, le-ltb}
use Rattle.std.proofs.lemmas.Bool.{cases_lt}
use Rattle.dns_core.specs.NameText.{wire_length}
use Rattle.dns_core.specs.declared.message.Query.{Query}
use Rattle.dns_core.specs.declared.record.Record.{Record}
use Rattle.dns_core.specs.declared.record.Soa.{Soa}
use Rattle.wire_names.specs.Names.{written}
use Rattle.wire_names.proofs.WrittenNames.{length_written}
use Rattle.wire_records.specs.Numbers.{two, four}
use Rattle.wire_records.specs.Spelling.{spelled_question, spelled_soa, spelled_data, spelled_fixed, spelled_record, room_after}

pub no_room : (room one other : ℕ) → room_after room one ≡ None → room_after room (one + other) ≡ None
no_room room one other e = elim (cases_lt room one) [
  | inl less ↦ let more : ltb room (one + other) ≡ true = lt-ltb room (one + other) (omega (arith, less)) in rw more refl
  | inr enough ↦ absurd (let some : ltb room one ≡ false = le-ltb room one enough in taken (rw some at e))
]
  where
    taken : Some (room - one) ≡ None → ⊥
    taken h = cc

pub room_on : (room one other left : ℕ) → room_after room one ≡ Some left → room_after left other ≡ room_after room (one + other)
room_on room one other left e = elim (cases_lt room one) [
  | inl less ↦ absurd (let none : ltb room one ≡ true = lt-ltb room one less in taken (rw none at e))
  | inr enough ↦ let some : ltb room one ≡ false = le-ltb room one enough in
      let is : room - one ≡ left = some_is (rw some at e) in
      ap (λ (l : ℕ). room_after l other) (sym is) ∙ rest enough
]
  where
    taken : None ≡ Some left → ⊥
    taken h = cc

    some_is : Some (room - one) ≡ Some left → room - one ≡ left
    some_is h = cc

    rest : one ≤ room → room_after (room - one) other ≡ room_after room (one + other)
    rest enough = elim (cases_lt (room - one) other) [
      | inl less ↦ let a : ltb (room - one) other ≡ true = lt-ltb (room - one) other less in let b : ltb room (one + other) ≡ true = lt-ltb room (one + other) (omega (arith, less, enough)) in rw (a, b) refl
      | inr fits ↦
          let a : ltb (room - one) other ≡ false = le-ltb (room - one) other fits in let b : ltb room (one + other) ≡ false = le-ltb room (one + other) (omega (arith, fits, enough)) in
          let left_is : room - one - other ≡ room - (one + other) = omega (arith, enough, fits) in
          rw (a, b) (ap (λ (k : ℕ). Some k) left_is)
    ]

-- ---- how long what is written is

pub length_question : (query : Query) → length (spelled_question query) ≡ wire_length query.name.labels + 4
length_question query = omega (arith, length-append (written query.name.labels) (two query.query_type.code ++ two query.query_class.code), length_written query.name.labels)

abbrev lives : Soa → List ℕ
lives soa = four soa.serial ++ (four soa.refresh ++ (four soa.retry ++ (four soa.expire ++ four soa.minimum)))

pub length_soa : (soa : Soa) → length (spelled_soa soa) ≡ wire_length soa.mname.labels + wire_length soa.rname.labels + 20
length_soa soa =
    omega (arith, length-append (written soa.mname.labels) (written soa.rname.labels ++ lives soa), length-append (written soa.rname.labels) (lives soa), length_written soa.mname.labels, length_written soa.rname.labels)

pub length_record : (plain : Record) → length (spelled_record plain) ≡ wire_length plain.name.labels + 10 + length (spelled_data plain.rdata)
length_record plain =
    omega (arith, length-append (written plain.name.labels) (spelled_fixed plain.record_type.code plain.dns_class.code plain.ttl (length (spelled_data plain.rdata)) ++ spelled_data plain.rdata), length_written plain.name.labels)
