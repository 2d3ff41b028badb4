-- Each line of a record is read exactly where it is spelled so.
use Rattle.std.proofs.Common.{◌≡◌, ℕ, ◌<◌, ◌≤◌, Bool, true, false, not, eqb, List, [], ◌∷◌, ◌++◌, length, Some, refl, sym, ap, subst, ◌∙◌, arith, lit<, inl, inr}
use Rattle.std.specs.Prelude.{decimal}
use Rattle.std.proofs.lemmas.Bool.{eqb-true, ne_eqb}
use Rattle.std.proofs.Math.Bool.{Bool-set}
use Rattle.std.specs.Net.Addr.{ipv4_octets, ipv6_segments, IsIpv4Addr, IsIpv6Addr}
use Rattle.std.specs.Net.Text.{ipv4_text, hex_groups_text}
use Rattle.dns_core.specs.Name.{DomainName}
use Rattle.dns_core.specs.NameText.{text_of as name_text}
use Rattle.dns_core.specs.Record.{has_own_data, is_typed}
use Rattle.dns_core.specs.declared.codes.RecordType.{RecordType}
use Rattle.dns_core.specs.declared.codes.DnsClass.{DnsClass}
use Rattle.dns_core.specs.declared.record.RData.{RData}
use Rattle.dns_core.specs.declared.record.RData.TheVariants.{A, AAAA, NS, CNAME, SOA, RRSIG, Opaque}
use Rattle.dns_core.specs.declared.record.Record.{Record}
use Rattle.dns_core.specs.declared.record.Soa.{Soa}
use Rattle.text_lines.specs.Addresses.{ipv6_of}
use Rattle.text_lines.specs.Codes.{type_of}
use Rattle.text_lines.specs.Fields.{Fields, field, both, whole}
use Rattle.text_lines.specs.Hex.{bytes_of}
use Rattle.text_lines.specs.Names.{full_name}
use Rattle.text_lines.specs.Numbers.{◌>>=◌, ipv4_of}
use Rattle.text_lines.specs.Pieces.{pieces}
use Rattle.text_lines.specs.RecordLines.{record_head, soa_parts, soa_fields, soa_from, soa_of, signature_of, data_of, record_from, record_of_data, records_of, record_of}
use Rattle.dns_core.specs.CodeTexts.{type_text, class_text}
use Rattle.text_lines.specs.Texts.{hex_text, data_words, record_words}
use Rattle.text_lines.specs.Spelling.{IsFullName, IsType, AreBytes, IsClass}
use Rattle.text_lines.specs.LineSpelling.{record_text, IsData, IsRecord}
use Rattle.text_lines.proofs.AddressLaws.{ipv6_field}
use Rattle.text_lines.proofs.StepsThatFail.{bind_some, some_is, chosen}
use Rattle.text_lines.proofs.CodeLaws.{type_field, class_field, type_plain, class_plain}
use Rattle.text_lines.proofs.FieldLaws.{IsSeq, one, pair_law, whole_takes, whole_again, IsWithin, ipv4_field}
use Rattle.text_lines.proofs.HexLaws.{bytes_field, bytes_plain}
use Rattle.text_lines.proofs.NumberLaws.{is_word_byte, ipv4_plain}
use Rattle.text_lines.proofs.PlainLaws.{AllPlain, pieces_take}
use Rattle.text_lines.proofs.WordLaws.{full_law, wide_law, low, ipv6_plain, named_plain, small, words_again}

-- ---- the law of each kind of data

ipv4_law : IsSeq (field ipv4_of) (λ a. ipv4_text (ipv4_octets a) ∷ []) IsIpv4Addr
ipv4_law = one _ _ _ ipv4_field

ipv6_law : IsSeq (field ipv6_of) (λ a. hex_groups_text (ipv6_segments a) ∷ []) IsIpv6Addr
ipv6_law = one _ _ _ ipv6_field

bytes_law : IsSeq (field bytes_of) (λ bytes. hex_text bytes ∷ []) AreBytes
bytes_law = one _ _ _ bytes_field

-- the type that is covered, and bytes
signature_law : IsSeq (both (field type_of) (field bytes_of)) (λ x. type_text x.0 ∷ hex_text x.1 ∷ []) (λ x. IsType x.0 × AreBytes x.1)
signature_law = pair_law _ _ _ _ _ _ (one _ _ _ type_field) bytes_law

abbrev IsWide : ℕ → Type 0
IsWide n = IsWithin 0 4294967295 n

soa_law : IsSeq soa_fields
    (λ x. name_text x.0 ∷ name_text x.1.0 ∷ decimal x.1.1.0 ∷ decimal x.1.1.1.0 ∷ decimal x.1.1.1.1.0 ∷ decimal x.1.1.1.1.1.0 ∷ decimal x.1.1.1.1.1.1 ∷ [])
    (λ x. IsFullName x.0 × (IsFullName x.1.0 × (IsWide x.1.1.0 × (IsWide x.1.1.1.0 × (IsWide x.1.1.1.1.0 × (IsWide x.1.1.1.1.1.0 × IsWide x.1.1.1.1.1.1))))))
soa_law = pair_law _ _ _ _ _ _ full_law (pair_law _ _ _ _ _ _ full_law (pair_law _ _ _ _ _ _ wide_law (pair_law _ _ _ _ _ _ wide_law (pair_law _ _ _ _ _ _ wide_law (pair_law _ _ _ _ _ _ wide_law wide_law)))))

abbrev soa_parts_of : Soa → soa_parts
soa_parts_of s = (s.mname, (s.rname, (s.serial, (s.refresh, (s.retry, (s.expire, s.minimum))))))

-- ---- types of data

coded_type : (t : RecordType) (n : ℕ) → t.code ≡ n → record { code = n } ≡ t
coded_type t n e = ap (λ (k : ℕ). let u : RecordType = record { code = k } in u) (sym e)

-- a test that fails at a number fails at no type that passes it
unlike : (test : RecordType → Bool) (t : RecordType) (n : ℕ) (b : Bool) → test t ≡ not b → test (record { code = n }) ≡ b → eqb t.code n ≡ false
unlike test t n true passes fails = ne_eqb t.code n (λ e. let both : true ≡ false = sym fails ∙ ap test (coded_type t n e) ∙ passes in cc)
unlike test t n false passes fails = ne_eqb t.code n (λ e. let both : false ≡ true = sym fails ∙ ap test (coded_type t n e) ∙ passes in cc)

-- the words are those of the data, which is of the type
pub record Tells (t : RecordType) (ws : List (List ℕ)) (x : RData) : Type 0 where
  pub words : ws ≡ data_words x
  pub fits : IsData x
  pub typed : is_typed t x ≡ true

kind_takes : {X : Type 0} (t : RecordType) (p : Fields X) (text : X → List (List ℕ)) (Fits : X → Type 0) → IsSeq p text Fits → (f : X → RData)
    → ((x : X) → data_words (f x) ≡ text x) → ((x : X) → Fits x → IsData (f x)) → ((x : X) → is_typed t (f x) ≡ true) → (ws : List (List ℕ)) (z : RData) → whole p f ws ≡ Some z → Tells t ws z
kind_takes t p text Fits law f words suits of_type ws z e =
    let w = whole_takes p text Fits law f ws z e in
    subst (Tells t ws) w.3 (record { words = w.1 ∙ sym (words w.0); fits = suits w.0 w.2; typed = of_type w.0 })

opaque_typed : (t : RecordType) (bytes : List ℕ) → eqb t.code 1 ≡ false → eqb t.code 2 ≡ false → eqb t.code 5 ≡ false → eqb t.code 6 ≡ false → eqb t.code 28 ≡ false → eqb t.code 46 ≡ false → is_typed t (Opaque bytes) ≡ true
opaque_typed t bytes a b c d e f = rw (a, b, c, d, e, f) refl

pub data_takes : (t : RecordType) (ws : List (List ℕ)) (z : RData) → data_of t ws ≡ Some z → Tells t ws z
unfolding data_of soa_of signature_of
data_takes t ws z e = elim (chosen (eqb t.code 1) _ _ _ e) [
  | inl h ↦ kind_takes t (field ipv4_of) _ _ ipv4_law A (λ x. refl) (λ x fits. fits) (λ x. h.0) ws z h.1
  | inr a ↦ elim (chosen (eqb t.code 2) _ _ _ a.1) [
    | inl h ↦ kind_takes t (field full_name) _ _ full_law NS (λ x. refl) (λ x fits. fits) (λ x. h.0) ws z h.1
    | inr b ↦ elim (chosen (eqb t.code 5) _ _ _ b.1) [
      | inl h ↦ kind_takes t (field full_name) _ _ full_law CNAME (λ x. refl) (λ x fits. fits) (λ x. h.0) ws z h.1
      | inr c ↦ elim (chosen (eqb t.code 6) _ _ _ c.1) [
        | inl h ↦ kind_takes t soa_fields _ _ soa_law (λ x. SOA (soa_from x)) (λ x. refl)
            (λ x fits. record {
              mname = fits.0;
              rname = fits.1.0;
              serial = fits.1.1.0.1;
              refresh = fits.1.1.1.0.1;
              retry = fits.1.1.1.1.0.1;
              expire = fits.1.1.1.1.1.0.1;
              minimum = fits.1.1.1.1.1.1.1;
            }) (λ x. h.0) ws z h.1
        | inr d ↦ elim (chosen (eqb t.code 28) _ _ _ d.1) [
          | inl h ↦ kind_takes t (field ipv6_of) _ _ ipv6_law AAAA (λ x. refl) (λ x fits. fits) (λ x. h.0) ws z h.1
          | inr g ↦ elim (chosen (eqb t.code 46) _ _ _ g.1) [
            | inl h ↦ kind_takes t (both (field type_of) (field bytes_of)) _ _ signature_law (λ x. RRSIG x.0 x.1) (λ x. refl) (λ x fits. fits) (λ x. h.0) ws z h.1
            | inr i ↦ kind_takes t (field bytes_of) _ _ bytes_law Opaque (λ x. refl) (λ x fits. fits) (λ x. opaque_typed t x a.0 b.0 c.0 d.0 g.0 i.0) ws z i.1
          ]
        ]
      ]
    ]
  ]
]

abbrev ReadsData : RecordType → RData → Type 0
ReadsData t x = data_of t (data_words x) ≡ Some x

at_type : (t : RecordType) (n : ℕ) (x : RData) → eqb t.code n ≡ true → ReadsData (record { code = n }) x → ReadsData t x
at_type t n x e h = subst (λ (u : RecordType). ReadsData u x) (coded_type t n (eqb-true _ _ e)) h

data_again : (t : RecordType) (x : RData) → is_typed t x ≡ true → IsData x → ReadsData t x
unfolding data_of soa_of signature_of
data_again t (A a) typed fits = at_type t 1 (A a) typed (whole_again _ _ _ ipv4_law A a fits)
data_again t (AAAA a) typed fits = at_type t 28 (AAAA a) typed (whole_again _ _ _ ipv6_law AAAA a fits)
data_again t (NS n) typed fits = at_type t 2 (NS n) typed (whole_again _ _ _ full_law NS n fits)
data_again t (SOA s) typed fits =
    at_type t 6 (SOA s) typed (whole_again _ _ _ soa_law (λ x. SOA (soa_from x)) (soa_parts_of s)
    (fits.mname, (fits.rname, (low _ _ fits.serial, (low _ _ fits.refresh, (low _ _ fits.retry, (low _ _ fits.expire, low _ _ fits.minimum)))))))
data_again t (Opaque bytes) typed fits =
    let own : (n : ℕ) → not (has_own_data (record { code = n })) ≡ false → eqb t.code n ≡ false = λ n h. unlike (λ u. not (has_own_data u)) t n false typed h in
    rw (own 1 refl, own 2 refl, own 5 refl, own 6 refl, own 28 refl, own 46 refl) (whole_again _ _ _ bytes_law Opaque bytes fits)
data_again t (CNAME n) typed fits = at_type t 5 (CNAME n) typed (whole_again _ _ _ full_law CNAME n fits)
data_again t (RRSIG covered rest) typed fits = at_type t 46 (RRSIG covered rest) typed (whole_again _ _ _ signature_law (λ x. RRSIG x.0 x.1) (covered, rest) fits)

data_plain : (x : RData) → IsData x → AllPlain is_word_byte (data_words x)
data_plain (A a) fits = (ipv4_plain a fits, tt)
data_plain (AAAA a) fits = (ipv6_plain a fits, tt)
data_plain (NS n) fits = (named_plain n fits.0, tt)
data_plain (SOA s) fits =
    let number : (n : ℕ) → n ≤ 4294967295 → _ = λ n le. small 4294967295 n le (lit< tt) in
    (named_plain s.mname fits.mname.0, (named_plain s.rname fits.rname.0, (number s.serial fits.serial, (number s.refresh fits.refresh, (number s.retry fits.retry, (number s.expire fits.expire, (number s.minimum fits.minimum, tt)))))))
data_plain (Opaque bytes) fits = (bytes_plain bytes fits.0, tt)
data_plain (CNAME n) fits = (named_plain n fits.0, tt)
data_plain (RRSIG covered rest) fits = (type_plain covered fits.0, (bytes_plain rest fits.1.0, tt))

-- ---- record lines

abbrev head_parts : Type 0
head_parts = DomainName × (ℕ × (DnsClass × RecordType))

abbrev head_text : head_parts → List (List ℕ)
head_text x = name_text x.0 ∷ decimal x.1.0 ∷ class_text x.1.1.0 ∷ type_text x.1.1.1 ∷ []

abbrev pub HeadFits : head_parts → Type 0
HeadFits x = IsFullName x.0 × (IsWide x.1.0 × (IsClass x.1.1.0 × IsType x.1.1.1))

pub record_head_law : IsSeq record_head head_text HeadFits
unfolding record_head
record_head_law = pair_law _ _ _ _ _ _ full_law (pair_law _ _ _ _ _ _ wide_law (pair_law _ _ _ _ _ _ (one _ _ _ class_field) (one _ _ _ type_field)))

abbrev made : DomainName → ℕ → DnsClass → (t : RecordType) → (x : RData) → is_typed t x ≡ true → Record
made n life c t x typed = record { name = n; ttl = life; dns_class = c; record_type = t; rdata = x; typed = typed }

-- a test has one proof at most
one_proof : (b : Bool) (p q : b ≡ true) → p ≡ q
one_proof b p q = Bool-set b true p q

from_typed : (n : DomainName) (life : ℕ) (c : DnsClass) (t : RecordType) (x : RData) (b : Bool) (e : is_typed t x ≡ b) (typed : is_typed t x ≡ true) → record_from n life c t x b e ≡ Some (made n life c t x typed)
from_typed n life c t x true e typed = ap (λ (p : is_typed t x ≡ true). Some (made n life c t x p)) (one_proof (is_typed t x) e typed)
from_typed n life c t x false e typed = absurd (let both : true ≡ false = sym typed ∙ e in cc)

-- data of a type makes a record
pub record_made : (h : head_parts) (x : RData) (typed : is_typed h.1.1.1 x ≡ true) → record_of_data h x ≡ Some (made h.0 h.1.0 h.1.1.0 h.1.1.1 x typed)
record_made h x typed = from_typed h.0 h.1.0 h.1.1.0 h.1.1.1 x (is_typed h.1.1.1 x) refl typed

abbrev Spells : List (List ℕ) → Record → Type 0
Spells ws r = (ws ≡ record_words r) × IsRecord r

record_spelled : (ws after : List (List ℕ)) (h : head_parts) (x : RData) (r : Record) → HeadFits h → ws ≡ head_text h ++ after → Tells h.1.1.1 after x → record_of_data h x ≡ Some r → Spells ws r
record_spelled ws after h x r fits split told e =
    subst (Spells ws) (some_is (made h.0 h.1.0 h.1.1.0 h.1.1.1 x told.typed) r (sym (record_made h x told.typed) ∙ e)) (
      split ∙ ap (λ (ds : List (List ℕ)). head_text h ++ ds) told.words,
      record { name = fits.0; life = fits.1.0.1; class = fits.1.1.0; type = fits.1.1.1; told = told.fits },
    )

pub record_takes : (line : List ℕ) (r : Record) → record_of line ≡ Some r → (line ≡ record_text r) × IsRecord r
unfolding records_of
record_takes line r e =
    let ws = pieces 32 line in
    let h = bind_some (record_head ws) (λ h. data_of h.0.1.1.1 h.1 >>= record_of_data h.0) r e in
    let t = record_head_law.takes ws h.0.0 h.0.1 h.1 in
    let d = bind_some (data_of h.0.0.1.1.1 h.0.1) (record_of_data h.0.0) r h.2 in
    let s = record_spelled ws h.0.1 h.0.0 d.0 r t.1 t.0 (data_takes h.0.0.1.1.1 h.0.1 d.0 d.1) d.2 in
    (pieces_take 32 line (record_words r) s.0, s.1)

pub record_plain : (r : Record) → IsRecord r → AllPlain is_word_byte (record_words r)
record_plain r fits =
    (named_plain r.name fits.name.0, (small 4294967295 r.ttl fits.life (lit< tt), (class_plain r.dns_class fits.class, (type_plain r.record_type fits.type, data_plain r.rdata fits.told))))

abbrev Again : Record → Type 0
Again r = records_of (record_words r) ≡ Some r

made_again : (h : head_parts) (x : RData) (typed : is_typed h.1.1.1 x ≡ true) → HeadFits h → IsData x → Again (made h.0 h.1.0 h.1.1.0 h.1.1.1 x typed)
unfolding records_of
made_again h x typed fits told = rw (record_head_law.again h (data_words x) fits, data_again h.1.1.1 x typed told) (record_made h x typed)

record_words_again : (r : Record) → IsRecord r → Again r
record_words_again r fits =
    made_again (r.name, (r.ttl, (r.dns_class, r.record_type))) r.rdata r.typed (fits.name, (low 4294967295 r.ttl fits.life, (fits.class, fits.type))) fits.told

some_words : (r : Record) → 0 < length (record_words r)
some_words r = omega arith

pub record_again : (r : Record) → IsRecord r → record_of (record_text r) ≡ Some r
record_again r fits = ap records_of (words_again (record_words r) (some_words r) (record_plain r fits)) ∙ record_words_again r fits

-- data that is read for a type is of it
pub read_typed : (t : RecordType) (ws : List (List ℕ)) (x : RData) → data_of t ws ≡ Some x → is_typed t x ≡ true
read_typed t ws x e = let s = data_takes t ws x e in s.typed
