use Rattle.std.proofs.Common.{◌≡◌, ℕ, ◌+◌, List, ◌++◌, length, false, Result, Ok, Err, OnOk, refl, ap, ◌∙◌, append_assoc}
use Rattle.dns_core.specs.declared.errors.NoMemory.{NoMemory}
use Rattle.wire_records.specs.Numbers.{two}
use Rattle.dns_wire.specs.Spelling.{edns_count, spelled_counts}
use Rattle.dns_wire.specs.Wire.{flags}
use Rattle.dns_wire.proofs.spelling.write_header.Goals as goal

header_joined : (old one second last counts told : List ℕ) (id f number : ℕ) → one ≡ old ++ two id → second ≡ one ++ two f → f ≡ number → counts ≡ told → last ≡ second ++ counts → last ≡ old ++ (two id ++ (two number ++ told))
header_joined old one second last counts told id f number e1 e2 is same e3 =
    let front : second ≡ old ++ (two id ++ two f) = e2 ∙ ap (λ (b : List ℕ). b ++ two f) e1 ∙ append_assoc old (two id) (two f) in
    e3 ∙ ap (λ (b : List ℕ). b ++ counts) front ∙ append_assoc old (two id ++ two f) counts ∙ ap (λ (k : ℕ). old ++ (two id ++ (two k ++ counts))) is ∙ ap (λ (b : List ℕ). old ++ (two id ++ (two number ++ b))) same

on_ok : (r : Result (Unit {0}) NoMemory) (P Q : Type 0) → (P → Q) → OnOk r P → OnOk r Q
on_ok (Ok x) P Q f p = f p
on_ok (Err e) P Q f p = tt

pub returns : goal.returns
returns c =
    let m = c.args.message.now in
    let extras : ℕ = length m.additionals + edns_count m.edns in
    let counts : List ℕ = spelled_counts c.len.result c.len-2.result c.len-3.result (c.len-4.result + c.edns_count.result) in
    let told : List ℕ = spelled_counts (length m.questions) (length m.answers) (length m.authorities) extras in
    let same : counts ≡ told = rw (c.len.ensures, c.len-2.ensures, c.len-3.ensures, c.len-4.ensures, c.edns_count.ensures) refl in
    let old = c.args.out.now.items in
    let second = c.write_two-2.new.out.items in
    let last = c.write_counts.new.out.items in
    on_ok c.write_counts.result (last ≡ second ++ counts) (last ≡ old ++ (two m.id ++ (two (flags m false) ++ told)))
    (header_joined old c.write_two.new.out.items second last counts told m.id c.flags_of.result (flags m false) c.in_ok-write_two.ensures c.in_ok-write_two-2.ensures c.flags_of.ensures same) c.write_counts.ensures
