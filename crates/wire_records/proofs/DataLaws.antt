-- Data that is read is what its type says, and such data is read.
use Rattle.std.proofs.Common.{◌≡◌, ℕ, suc, zero, ◌+◌, ◌-◌, ◌*◌, ◌/◌, ◌%◌, ◌<◌, ◌≤◌, Bool, true, false, cond, eqb, ltb, leb, not, List, [], ◌∷◌, ◌++◌, length, take, drop, Result, Ok, Err, refl, sym, ap, subst, ◌∙◌, inl, inr, arith, length-append, take_at, ltb-false, le-ltb, eq-eqb, eqb-true}
use Rattle.std.specs.Prelude.{◌&&◌, ◌||◌}
use Rattle.std.specs.Net.Addr.{octets_of, segments_of}
use Rattle.std.proofs.lemmas.Bool.{and_parts, leb-true, le-leb}
use Rattle.dns_core.specs.Name.{DomainName}
use Rattle.dns_core.specs.Record.{is_typed}
use Rattle.dns_core.specs.declared.codes.RecordType.{RecordType}
use Rattle.dns_core.specs.declared.record.RData.{RData}
use Rattle.dns_core.specs.declared.record.RData.TheVariants.{A, AAAA, NS, CNAME, SOA, RRSIG, Opaque}
use Rattle.dns_core.specs.declared.record.Soa.{Soa}
use Rattle.wire_names.specs.Names.{IsName, written}
use Rattle.wire_names.specs.Reading.{◌>>=◌, name_of}
use Rattle.wire_names.specs.declared.errors.WireError.{WireError}
use Rattle.wire_names.specs.declared.errors.WireError.TheVariants.{BadData}
use Rattle.wire_names.proofs.Binds.{bind_ok, guard_ok, chosen, done, ok_is}
use Rattle.wire_names.proofs.NameLaws.{name_found, name_again}
use Rattle.wire_names.proofs.RunLaws.{IsBytes}
use Rattle.wire_records.specs.Numbers.{four, Read, four_of}
use Rattle.wire_records.specs.Records.{SoaAt, TargetAt, ExchangeAt, KeptData, IsData}
use Rattle.wire_records.specs.Reading.{target_of, written_of, exchange_of, Lives, lives_of, soa_from, soa_of, signature_of, address4_of, address6_of, kept_of, named_of, data_of}
use Rattle.wire_records.proofs.Following.{Follows, following, further, bytes_after, same_rest}
use Rattle.wire_records.proofs.NumberLaws.{two_takes, four_takes, four_follows, two_joined, four_joined}
use Rattle.wire_records.proofs.QuestionLaws.{name_follows, name_then}

-- what a test lets through
pub passed : {X : Type 0} (test : Bool) (d : WireError) (x y : X) → cond test (done x) (Err d) ≡ Ok y → (test ≡ true) × (x ≡ y)
passed true d x y e = (refl, ok_is x y e)
passed false d x y e = absurd cc

-- ---- one name

pub target_takes : (message held rest : List ℕ) (name : DomainName) → IsBytes message → IsBytes (held ++ rest) → target_of message (length held) (held ++ rest) ≡ Ok name → IsName message (held ++ rest) name rest
target_takes message held rest name fits these e =
    let whole : ℕ = length (held ++ rest) - length held in
    let n = bind_ok (name_of message (held ++ rest)) (λ n. cond (eqb (length n.1) whole) (Ok n.0) (Err BadData)) name e in
    let p = passed (eqb (length n.0.1) whole) BadData n.0.0 name n.2 in
    let found = name_found message (held ++ rest) n.0.0 n.0.1 fits these n.1 in
    let long : length n.0.1 ≡ length rest = omega (arith, eqb-true (length n.0.1) whole p.0, length-append held rest) in
    let same : n.0.1 ≡ rest = same_rest (held ++ rest) n.0.1 rest (name_follows found.named) (following held rest) long in
    subst (λ (m : DomainName). IsName message (held ++ rest) m rest) p.1 (subst (IsName message (held ++ rest) n.0.0) same found)

pub target_again : (message held rest : List ℕ) (name : DomainName) → IsName message (held ++ rest) name rest → target_of message (length held) (held ++ rest) ≡ Ok name
target_again message held rest name is =
    let long : length rest ≡ length (held ++ rest) - length held = omega (arith, length-append held rest) in
    rw (name_again message (held ++ rest) name rest is, eq-eqb (length rest) (length (held ++ rest) - length held) long) refl

written_takes : (message held rest kept : List ℕ) → IsBytes message → IsBytes (held ++ rest) → written_of message (length held) (held ++ rest) ≡ Ok kept → TargetAt message (held ++ rest) kept rest
written_takes message held rest kept fits these e =
    let n = bind_ok (target_of message (length held) (held ++ rest)) (λ n. Ok (written n.labels)) kept e in
    (n.0, target_takes message held rest n.0 fits these n.1, sym (ok_is (written n.0.labels) kept n.2))

written_again : (message held rest kept : List ℕ) → TargetAt message (held ++ rest) kept rest → written_of message (length held) (held ++ rest) ≡ Ok kept
written_again message held rest kept at =
    let again = target_again message held rest at.0 at.1 in
    rw again (ap (λ (k : List ℕ). Ok k) (sym at.2))

-- ---- a preference and a name

two_less : (n : ℕ) → suc (suc n) - 2 ≡ n
two_less n = omega arith

exchange_takes : (message held rest kept : List ℕ) → IsBytes message → IsBytes (held ++ rest) → exchange_of message (length held) (held ++ rest) ≡ Ok kept → ExchangeAt message (held ++ rest) kept rest
exchange_takes message [] rest kept fits these e = absurd (omega (arith, ltb-false 0 2 (guard_ok (ltb 0 2) BadData (written_of message (0 - 2) (drop 2 rest) >>= λ t. Ok (take 2 rest ++ t)) kept e).0))
exchange_takes message (high ∷ []) rest kept fits these e = absurd (omega (arith, ltb-false 1 2 (guard_ok (ltb 1 2) BadData (written_of message (1 - 2) (drop 2 (high ∷ rest)) >>= λ t. Ok (take 2 (high ∷ rest) ++ t)) kept e).0))
exchange_takes message (high ∷ low ∷ more) rest kept fits these e =
    let g = guard_ok (ltb (length (high ∷ low ∷ more)) 2) BadData (written_of message (suc (suc (length more)) - 2) (more ++ rest) >>= λ t. Ok (high ∷ low ∷ t)) kept e in
    let t = bind_ok (written_of message (suc (suc (length more)) - 2) (more ++ rest)) (λ t. Ok (high ∷ low ∷ t)) kept g.1 in
    let short : written_of message (length more) (more ++ rest) ≡ Ok t.0 = ap (λ (k : ℕ). written_of message k (more ++ rest)) (sym (two_less (length more))) ∙ t.1 in
    let behind = bytes_after (high ∷ low ∷ (more ++ rest)) (more ++ rest) these (record { front = high ∷ low ∷ []; parts = refl }) in
    (high, low, more ++ rest, t.0, refl, written_takes message more rest t.0 fits behind short, sym (ok_is (high ∷ low ∷ t.0) kept t.2))

exchange_fits : (message held rest kept : List ℕ) (high low : ℕ) (after target : List ℕ) → held ++ rest ≡ high ∷ low ∷ after → TargetAt message after target rest → kept ≡ high ∷ low ∷ target → exchange_of message (length held) (held ++ rest) ≡ Ok kept
exchange_fits message [] rest kept high low after target parts at is =
    let f = name_follows at.1.named in
    absurd (omega (arith, ap length parts, ap length f.parts, length-append f.front rest))
exchange_fits message (a ∷ []) rest kept high low after target parts at is =
    let f = name_follows at.1.named in
    absurd (omega (arith, ap length parts, ap length f.parts, length-append f.front rest))
exchange_fits message (a ∷ b ∷ more) rest kept high low after target parts at is =
    let tail : more ++ rest ≡ after = ap (drop 2) parts in
    let front : a ∷ b ∷ [] ≡ high ∷ low ∷ [] = ap (take 2) parts in
    let there : TargetAt message (more ++ rest) target rest = subst (λ (r : List ℕ). TargetAt message r target rest) (sym tail) at in
    let long : ltb (suc (suc (length more))) 2 ≡ false = le-ltb (suc (suc (length more))) 2 (omega arith) in
    let again : written_of message (suc (suc (length more)) - 2) (more ++ rest) ≡ Ok target = ap (λ (k : ℕ). written_of message k (more ++ rest)) (two_less (length more)) ∙ written_again message more rest target there in
    rw (long, again) (ap (λ (f : List ℕ). Ok (f ++ target)) front ∙ ap (λ (k : List ℕ). Ok k) (sym is))

-- ---- two names and five numbers

lives_takes : (bytes : List ℕ) (x : Lives × List ℕ) → IsBytes bytes → lives_of bytes ≡ Ok x → bytes ≡ four x.0.0 ++ (four x.0.1.0 ++ (four x.0.1.1.0 ++ (four x.0.1.1.1.0 ++ (four x.0.1.1.1.1 ++ x.1))))
lives_takes bytes x fits e =
    let s = bind_ok (four_of bytes) (λ s. four_of s.1 >>= λ f. four_of f.1 >>= λ t. four_of t.1 >>= λ n. four_of n.1 >>= λ m. Ok ((s.0, (f.0, (t.0, (n.0, m.0)))), m.1)) x e in
    let f = bind_ok (four_of s.0.1) (λ f. four_of f.1 >>= λ t. four_of t.1 >>= λ n. four_of n.1 >>= λ m. Ok ((s.0.0, (f.0, (t.0, (n.0, m.0)))), m.1)) x s.2 in
    let t = bind_ok (four_of f.0.1) (λ t. four_of t.1 >>= λ n. four_of n.1 >>= λ m. Ok ((s.0.0, (f.0.0, (t.0, (n.0, m.0)))), m.1)) x f.2 in
    let n = bind_ok (four_of t.0.1) (λ n. four_of n.1 >>= λ m. Ok ((s.0.0, (f.0.0, (t.0.0, (n.0, m.0)))), m.1)) x t.2 in
    let m = bind_ok (four_of n.0.1) (λ m. Ok ((s.0.0, (f.0.0, (t.0.0, (n.0.0, m.0)))), m.1)) x n.2 in
    let a = bytes_after bytes s.0.1 fits (four_follows bytes s.0 s.1) in
    let b = bytes_after s.0.1 f.0.1 a (four_follows s.0.1 f.0 f.1) in
    let c = bytes_after f.0.1 t.0.1 b (four_follows f.0.1 t.0 t.1) in
    let d = bytes_after t.0.1 n.0.1 c (four_follows t.0.1 n.0 n.1) in
    five bytes s.0 f.0 t.0 n.0 m.0 (four_takes bytes s.0 fits s.1) (four_takes s.0.1 f.0 a f.1) (four_takes f.0.1 t.0 b t.1) (four_takes t.0.1 n.0 c n.1) (four_takes n.0.1 m.0 d m.1)
    ∙ ap (λ (y : Lives × List ℕ). four y.0.0 ++ (four y.0.1.0 ++ (four y.0.1.1.0 ++ (four y.0.1.1.1.0 ++ (four y.0.1.1.1.1 ++ y.1))))) (ok_is ((s.0.0, (f.0.0, (t.0.0, (n.0.0, m.0.0)))), m.0.1) x m.2)
  where
    five : (bytes : List ℕ) (s f t n m : ℕ × List ℕ) → bytes ≡ four s.0 ++ s.1 → s.1 ≡ four f.0 ++ f.1 → f.1 ≡ four t.0 ++ t.1 → t.1 ≡ four n.0 ++ n.1 → n.1 ≡ four m.0 ++ m.1
        → bytes ≡ four s.0 ++ (four f.0 ++ (four t.0 ++ (four n.0 ++ (four m.0 ++ m.1))))
    five bytes s f t n m a b c d g = a ∙ ap (λ (r : List ℕ). four s.0 ++ r) (b ∙ ap (λ (r : List ℕ). four f.0 ++ r) (c ∙ ap (λ (r : List ℕ). four t.0 ++ r) (d ∙ ap (λ (r : List ℕ). four n.0 ++ r) g)))

lives_again : (s f t n m : ℕ) (rest : List ℕ) → lives_of (four s ++ (four f ++ (four t ++ (four n ++ (four m ++ rest))))) ≡ Ok ((s, (f, (t, (n, m)))), rest)
lives_again s f t n m rest = rw (four_joined s, four_joined f, four_joined t, four_joined n, four_joined m) refl

length_lives : (s f t n m : ℕ) (rest : List ℕ) → length (four s ++ (four f ++ (four t ++ (four n ++ (four m ++ rest))))) ≡ 20 + length rest
length_lives s f t n m rest = omega arith

soa_takes : (message held rest : List ℕ) (soa : Soa) → IsBytes message → IsBytes (held ++ rest) → soa_of message (length held) (held ++ rest) ≡ Ok soa → SoaAt message (held ++ rest) soa rest
soa_takes message held rest soa fits these e =
    let bytes : List ℕ = held ++ rest in
    let whole : ℕ = length bytes - (length held - 20) in
    let last : DomainName × List ℕ → DomainName × List ℕ → Result Soa WireError = λ m r. cond (leb 20 (length held) && eqb (length r.1) whole) (lives_of r.1 >>= λ l. Ok (soa_from m.0 r.0 l.0)) (Err BadData) in
    let m = bind_ok (name_of message bytes) (λ m. name_of message m.1 >>= λ r. last m r) soa e in
    let first = name_found message bytes m.0.0 m.0.1 fits these m.1 in
    let after = bytes_after bytes m.0.1 these (name_follows first.named) in
    let r = bind_ok (name_of message m.0.1) (λ r. last m.0 r) soa m.2 in
    let second = name_found message m.0.1 r.0.0 r.0.1 fits after r.1 in
    let then_bytes = bytes_after m.0.1 r.0.1 after (name_follows second.named) in
    let p = tested (leb 20 (length held) && eqb (length r.0.1) whole) (lives_of r.0.1 >>= λ l. Ok (soa_from m.0.0 r.0.0 l.0)) soa r.2 in
    let l = bind_ok (lives_of r.0.1) (λ l. Ok (soa_from m.0.0 r.0.0 l.0)) soa p.1 in
    let both = and_parts (leb 20 (length held)) (eqb (length r.0.1) whole) p.0 in
    let parts = lives_takes r.0.1 l.0 then_bytes l.1 in
    let follows = further bytes m.0.1 r.0.1 (name_follows first.named) (name_follows second.named) in
    let same : l.0.1 ≡ rest = fills held rest r.0.1 l.0.0 l.0.1 follows parts both.0 both.1 in
    ended message bytes m.0.1 r.0.1 rest m.0.0 r.0.0 l.0.0 soa first second (parts ∙ ap (λ (z : List ℕ). four l.0.0.0 ++ (four l.0.0.1.0 ++ (four l.0.0.1.1.0 ++ (four l.0.0.1.1.1.0 ++ (four l.0.0.1.1.1.1 ++ z))))) same) (ok_is (soa_from m.0.0 r.0.0 l.0.0) soa l.2)
  where
    tested : (test : Bool) (r : Result Soa WireError) (x : Soa) → cond test r (Err BadData) ≡ Ok x → (test ≡ true) × (r ≡ Ok x)
    tested true r x e = (refl, e)
    tested false r x e = absurd cc

    fills : (held rest numbers : List ℕ) (l : Lives) (z : List ℕ) → Follows (held ++ rest) numbers → numbers ≡ four l.0 ++ (four l.1.0 ++ (four l.1.1.0 ++ (four l.1.1.1.0 ++ (four l.1.1.1.1 ++ z))))
        → leb 20 (length held) ≡ true → eqb (length numbers) (length (held ++ rest) - (length held - 20)) ≡ true → z ≡ rest
    fills held rest numbers l z follows parts many long =
        let z_follows : Follows (held ++ rest) z = further (held ++ rest) numbers z follows (record { front = four l.0 ++ (four l.1.0 ++ (four l.1.1.0 ++ (four l.1.1.1.0 ++ four l.1.1.1.1))); parts = parts }) in
        let total = length_lives l.0 l.1.0 l.1.1.0 l.1.1.1.0 l.1.1.1.1 z in
        same_rest (held ++ rest) z rest z_follows (following held rest) (omega (arith, ap length parts, total, length-append held rest, leb-true 20 (length held) many, eqb-true (length numbers) (length (held ++ rest) - (length held - 20)) long))

    ended : (message bytes second numbers rest : List ℕ) (mname rname : DomainName) (l : Lives) (soa : Soa) → IsName message bytes mname second → IsName message second rname numbers
        → numbers ≡ four l.0 ++ (four l.1.0 ++ (four l.1.1.0 ++ (four l.1.1.1.0 ++ (four l.1.1.1.1 ++ rest)))) → soa_from mname rname l ≡ soa → SoaAt message bytes soa rest
    ended message bytes second numbers rest mname rname l soa first then parts is = subst (λ (s : Soa). SoaAt message bytes s rest) is (second, numbers, first, then, parts)

soa_again : (message held rest : List ℕ) (soa : Soa) → SoaAt message (held ++ rest) soa rest → soa_of message (length held) (held ++ rest) ≡ Ok soa
soa_again message held rest soa at =
    let lives : List ℕ = four soa.serial ++ (four soa.refresh ++ (four soa.retry ++ (four soa.expire ++ (four soa.minimum ++ rest)))) in
    let first = name_again message (held ++ rest) soa.mname at.0 at.2 in
    let second = name_then message at.0 soa.rname at.1 lives at.3 at.4 in
    let total : length lives ≡ 20 + length rest = length_lives soa.serial soa.refresh soa.retry soa.expire soa.minimum rest in
    let f = name_follows at.2.named in
    let g = name_follows at.3.named in
    let many : 20 ≤ length held = omega (arith, total, ap length f.parts, ap length g.parts, ap length at.4, length-append f.front at.0, length-append g.front at.1, length-append held rest) in
    let long : length lives ≡ length (held ++ rest) - (length held - 20) = omega (arith, total, length-append held rest, many) in
    let enough : leb 20 (length held) ≡ true = le-leb 20 (length held) many in
    let ends : eqb (length lives) (length (held ++ rest) - (length held - 20)) ≡ true = eq-eqb (length lives) (length (held ++ rest) - (length held - 20)) long in
    let numbers = lives_again soa.serial soa.refresh soa.retry soa.expire soa.minimum rest in
    rw (first, second, enough, ends) (ap (λ (r : Read Lives). r >>= λ l. Ok (soa_from soa.mname soa.rname l.0)) numbers)

-- ---- data without names

abbrev pub DataIs : List ℕ → List ℕ → List ℕ → RecordType → RData → Type 0
DataIs message held rest record_type data_is = IsData message held rest record_type data_is × (is_typed record_type data_is ≡ true)

abbrev pub of_code : ℕ → RecordType
of_code code = record { code = code }

address4_takes : (message held rest : List ℕ) (code : ℕ) (data_is : RData) → eqb code 1 ≡ true → address4_of held ≡ Ok data_is → DataIs message held rest (of_code code) data_is
address4_takes message held rest code data_is typed e =
    let p = passed (eqb (length held) 4) BadData (A (record { octets = held })) data_is e in
    subst (DataIs message held rest (of_code code)) p.1 ((refl, eqb-true (length held) 4 p.0), typed)

-- pairs of bytes as segments, and again as bytes
paired : (held : List ℕ) (half : ℕ) → length held ≡ half + half → IsBytes held → held ≡ octets_of (segments_of held)
paired [] half even fits = refl
paired (a ∷ []) half even fits = absurd (omega (arith, even))
paired (a ∷ b ∷ more) half even fits =
    let small : b < 256 = fits 1 in
    let rest = paired more (half - 1) (omega (arith, even)) (λ i. fits (suc (suc i))) in
    let high : (a * 256 + b) / 256 ≡ a = omega (arith, small) in
    let low : (a * 256 + b) % 256 ≡ b = omega (arith, small) in
    ap (λ (k : ℕ). k ∷ b ∷ more) (sym high) ∙ ap (λ (k : ℕ). ((a * 256 + b) / 256) ∷ k ∷ more) (sym low) ∙ ap (λ (m : List ℕ). ((a * 256 + b) / 256) ∷ ((a * 256 + b) % 256) ∷ m) rest

unpaired : (segments : List ℕ) → segments_of (octets_of segments) ≡ segments
unpaired [] = refl
unpaired (s ∷ more) =
    let joined : s / 256 * 256 + s % 256 ≡ s = omega arith in
    ap (λ (k : ℕ). k ∷ segments_of (octets_of more)) joined ∙ ap (λ (m : List ℕ). s ∷ m) (unpaired more)

address6_takes : (message held rest : List ℕ) (code : ℕ) (data_is : RData) → eqb code 28 ≡ true → IsBytes held → address6_of held ≡ Ok data_is → DataIs message held rest (of_code code) data_is
address6_takes message held rest code data_is typed fits e =
    let p = passed (eqb (length held) 16) BadData (AAAA (record { segments = segments_of held })) data_is e in
    let long : length held ≡ 16 = eqb-true (length held) 16 p.0 in
    subst (DataIs message held rest (of_code code)) p.1 ((paired held 8 (omega (arith, long)) fits, long), typed)

signature_takes : (message held rest : List ℕ) (code : ℕ) (data_is : RData) → eqb code 46 ≡ true → IsBytes held → signature_of held ≡ Ok data_is → DataIs message held rest (of_code code) data_is
signature_takes message [] rest code data_is typed fits e = absurd cc
signature_takes message (high ∷ []) rest code data_is typed fits e = absurd cc
signature_takes message (high ∷ low ∷ more) rest code data_is typed fits e =
    let parts = two_takes (high ∷ low ∷ more) (256 * high + low, more) fits refl in
    subst (DataIs message (high ∷ low ∷ more) rest (of_code code)) (ok_is (RRSIG (of_code (256 * high + low)) more) data_is e) (parts, typed)

-- ---- the data of the types that have no variant of their own

kept_takes : (message held rest kept : List ℕ) (code : ℕ) → IsBytes message → IsBytes (held ++ rest) → kept_of message code (length held) (held ++ rest) ≡ Ok kept → KeptData (eqb code 12) (eqb code 15) message held rest kept
unfolding kept_of
kept_takes message held rest kept code fits these e = elim (chosen (eqb code 12) _ _ _ e) [
  | inl pointer ↦ subst (λ (a : Bool). KeptData a (eqb code 15) message held rest kept) (sym pointer.0) (written_takes message held rest kept fits these pointer.1)
  | inr no_pointer ↦ elim (chosen (eqb code 15) _ _ _ no_pointer.1) [
    | inl exchange ↦ rw (no_pointer.0, exchange.0) (exchange_takes message held rest kept fits these exchange.1)
    | inr other ↦ rw (no_pointer.0, other.0) (sym (ok_is (take (length held) (held ++ rest)) kept other.1) ∙ take_at held rest (length held) refl)
  ]
]

kept_again : (message held rest kept : List ℕ) (code : ℕ) → KeptData (eqb code 12) (eqb code 15) message held rest kept → kept_of message code (length held) (held ++ rest) ≡ Ok kept
unfolding kept_of
kept_again message held rest kept code is = each (eqb code 12) (eqb code 15) is
  where
    each : (pointer exchange : Bool) → KeptData pointer exchange message held rest kept → cond pointer (written_of message (length held) (held ++ rest)) (cond exchange (exchange_of message (length held) (held ++ rest)) (Ok (take (length held) (held ++ rest)))) ≡ Ok kept
    each true exchange is = written_again message held rest kept is
    each false true is = exchange_fits message held rest kept is.0 is.1 is.2 is.3 is.4 is.5 is.6
    each false false is = ap (λ (k : List ℕ). Ok k) (take_at held rest (length held) refl ∙ sym is)

-- ---- all data

abbrev NoOwn : ℕ → Type 0
NoOwn code = (eqb code 1 ≡ false) × (eqb code 2 ≡ false) × (eqb code 5 ≡ false) × (eqb code 6 ≡ false) × (eqb code 28 ≡ false) × (eqb code 46 ≡ false)

opaque_typed : (code : ℕ) (bytes : List ℕ) → NoOwn code → is_typed (of_code code) (Opaque bytes) ≡ true
opaque_typed code bytes none = rw (none.0, none.1, none.2, none.3, none.4, none.5) refl

none_own : (a b c d e f : Bool) → not (a || b || c || d || e || f) ≡ true → (a ≡ false) × (b ≡ false) × (c ≡ false) × (d ≡ false) × (e ≡ false) × (f ≡ false)
none_own true b c d e f h = absurd cc
none_own false true c d e f h = absurd cc
none_own false false true d e f h = absurd cc
none_own false false false true e f h = absurd cc
none_own false false false false true f h = absurd cc
none_own false false false false false true h = absurd cc
none_own false false false false false false h = (refl, refl, refl, refl, refl, refl)

named_takes : (message held rest : List ℕ) (code : ℕ) (data_is : RData) → eqb code 1 ≡ false → eqb code 28 ≡ false → eqb code 46 ≡ false → IsBytes message → IsBytes (held ++ rest)
    → named_of message code (length held) (held ++ rest) ≡ Ok data_is → DataIs message held rest (of_code code) data_is
unfolding named_of
named_takes message held rest code data_is no1 no28 no46 fits these e = elim (chosen (eqb code 2) _ _ _ e) [
  | inl ns ↦
      let n = bind_ok (target_of message (length held) (held ++ rest)) (λ n. done (NS n)) data_is ns.1 in
      subst (DataIs message held rest (of_code code)) (ok_is (NS n.0) data_is n.2) (target_takes message held rest n.0 fits these n.1, ns.0)
  | inr no2 ↦ elim (chosen (eqb code 5) _ _ _ no2.1) [
    | inl cname ↦
        let n = bind_ok (target_of message (length held) (held ++ rest)) (λ n. done (CNAME n)) data_is cname.1 in
        subst (DataIs message held rest (of_code code)) (ok_is (CNAME n.0) data_is n.2) (target_takes message held rest n.0 fits these n.1, cname.0)
    | inr no5 ↦ elim (chosen (eqb code 6) _ _ _ no5.1) [
      | inl soa ↦
          let s = bind_ok (soa_of message (length held) (held ++ rest)) (λ s. done (SOA s)) data_is soa.1 in
          subst (DataIs message held rest (of_code code)) (ok_is (SOA s.0) data_is s.2) (soa_takes message held rest s.0 fits these s.1, soa.0)
      | inr no6 ↦
          let k = bind_ok (kept_of message code (length held) (held ++ rest)) (λ k. done (Opaque k)) data_is no6.1 in
          subst (DataIs message held rest (of_code code)) (ok_is (Opaque k.0) data_is k.2) (kept_takes message held rest k.0 code fits these k.1, opaque_typed code k.0 (no1, no2.0, no5.0, no6.0, no28, no46))
    ]
  ]
]

pub data_takes : (message held rest : List ℕ) (code : ℕ) (data_is : RData) → IsBytes message → IsBytes (held ++ rest) → data_of message code (length held) (held ++ rest) ≡ Ok data_is → DataIs message held rest (of_code code) data_is
unfolding data_of
data_takes message held rest code data_is fits these e =
    let front : take (length held) (held ++ rest) ≡ held = take_at held rest (length held) refl in
    let held_fits : IsBytes held = front_fits held rest these in
    elim (chosen (eqb code 1) _ _ _ e) [
      | inl a ↦ address4_takes message held rest code data_is a.0 (sym (ap address4_of front) ∙ a.1)
      | inr no1 ↦ elim (chosen (eqb code 28) _ _ _ no1.1) [
        | inl aaaa ↦ address6_takes message held rest code data_is aaaa.0 held_fits (sym (ap address6_of front) ∙ aaaa.1)
        | inr no28 ↦ elim (chosen (eqb code 46) _ _ _ no28.1) [
          | inl rrsig ↦ signature_takes message held rest code data_is rrsig.0 held_fits (sym (ap signature_of front) ∙ rrsig.1)
          | inr no46 ↦ named_takes message held rest code data_is no1.0 no28.0 no46.0 fits these no46.1
        ]
      ]
    ]
  where
    front_fits : (held rest : List ℕ) → IsBytes (held ++ rest) → IsBytes held
    front_fits [] rest fits i = omega arith
    front_fits (b ∷ more) rest fits zero = fits 0
    front_fits (b ∷ more) rest fits (suc i) = front_fits more rest (λ j. fits (suc j)) i

-- at a type whose data has a variant of its own
at_code : (message : List ℕ) (count code own : ℕ) (bytes : List ℕ) (data_is : RData) → eqb code own ≡ true → data_of message own count bytes ≡ Ok data_is → data_of message code count bytes ≡ Ok data_is
at_code message count code own bytes data_is same e = subst (λ (k : ℕ). data_of message k count bytes ≡ Ok data_is) (sym (eqb-true code own same)) e

pub data_again : (message held rest : List ℕ) (record_type : RecordType) (data_is : RData) → IsData message held rest record_type data_is → is_typed record_type data_is ≡ true → data_of message record_type.code (length held) (held ++ rest) ≡ Ok data_is
unfolding data_of named_of
data_again message held rest t (A address) is typed =
    let front : take (length held) (held ++ rest) ≡ held = take_at held rest (length held) refl in
    let four_bytes : eqb (length held) 4 ≡ true = eq-eqb (length held) 4 is.1 in
    at_code message (length held) t.code 1 (held ++ rest) (A address) typed (ap address4_of front ∙ rw four_bytes (ap (λ (o : List ℕ). Ok (A (record { octets = o }))) is.0))
data_again message held rest t (AAAA address) is typed =
    let front : take (length held) (held ++ rest) ≡ held = take_at held rest (length held) refl in
    let many : eqb (length held) 16 ≡ true = eq-eqb (length held) 16 is.1 in
    let segments : segments_of held ≡ address.segments = ap segments_of is.0 ∙ unpaired address.segments in
    at_code message (length held) t.code 28 (held ++ rest) (AAAA address) typed (ap address6_of front ∙ rw many (ap (λ (o : List ℕ). Ok (AAAA (record { segments = o }))) segments))
data_again message held rest t (NS name) is typed =
    let again = target_again message held rest name is in
    at_code message (length held) t.code 2 (held ++ rest) (NS name) typed (rw again refl)
data_again message held rest t (CNAME name) is typed =
    let again = target_again message held rest name is in
    at_code message (length held) t.code 5 (held ++ rest) (CNAME name) typed (rw again refl)
data_again message held rest t (SOA soa) is typed =
    let again = soa_again message held rest soa is in
    at_code message (length held) t.code 6 (held ++ rest) (SOA soa) typed (rw again refl)
data_again message held rest t (RRSIG covered kept) is typed =
    let front : take (length held) (held ++ rest) ≡ held = take_at held rest (length held) refl in
    at_code message (length held) t.code 46 (held ++ rest) (RRSIG covered kept) typed
    (ap signature_of (front ∙ is) ∙ ap (λ (k : ℕ). Ok (RRSIG (of_code k) kept)) (two_joined covered.code))
data_again message held rest t (Opaque kept) is typed =
    let none = none_own (eqb t.code 1) (eqb t.code 2) (eqb t.code 5) (eqb t.code 6) (eqb t.code 28) (eqb t.code 46) typed in
    let again = kept_again message held rest kept t.code is in
    rw (none.0, none.4, none.5, none.1, none.2, none.3, again) refl
