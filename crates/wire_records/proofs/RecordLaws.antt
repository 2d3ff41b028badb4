-- A record that is read stands there, and one that stands there is read.
use Rattle.std.proofs.Common.{◌≡◌, ℕ, ◌+◌, ◌-◌, ◌≤◌, Bool, true, false, cond, eqb, ltb, List, ◌++◌, length, take, drop, Result, Ok, Err, refl, sym, ap, subst, ◌∙◌, arith, take-append-drop, drop_at, length-append, ltb-false, le-ltb, ne_eqb}
use Rattle.std.proofs.lemmas.Bool.{eqb-false}
use Rattle.std.proofs.lemmas.List.{length-take-le}
use Rattle.dns_core.specs.Name.{DomainName}
use Rattle.dns_core.specs.Record.{is_typed}
use Rattle.dns_core.specs.declared.codes.DnsClass.{DnsClass}
use Rattle.dns_core.specs.declared.codes.RecordType.{RecordType}
use Rattle.dns_core.specs.declared.record.Record.{Record}
use Rattle.dns_core.specs.declared.record.RData.{RData}
use Rattle.wire_names.specs.Names.{IsName}
use Rattle.wire_names.specs.Reading.{◌>>=◌, name_of}
use Rattle.wire_names.specs.declared.errors.WireError.{WireError}
use Rattle.wire_names.specs.declared.errors.WireError.TheVariants.{Short, BadOpt}
use Rattle.wire_names.proofs.Binds.{bind_ok, guard_ok, ok_is}
use Rattle.wire_names.proofs.NameLaws.{name_found}
use Rattle.wire_names.proofs.RunLaws.{IsBytes}
use Rattle.wire_records.specs.Numbers.{two, four, Read, two_of, four_of}
use Rattle.wire_records.specs.Records.{IsData, RecordAt}
use Rattle.wire_records.specs.Reading.{data_of, head_of, fixed_of, typed_record, body_of, record_of}
use Rattle.wire_records.proofs.Following.{Follows, further, bytes_after}
use Rattle.wire_records.proofs.NumberLaws.{two_takes, two_again, two_follows, four_takes, four_again, four_follows}
use Rattle.wire_records.proofs.QuestionLaws.{name_follows, name_then}
use Rattle.wire_records.proofs.DataLaws.{DataIs, of_code, data_takes, data_again}
use Rattle.wire_records.proofs.TypedLaws.{made, typed_made}

-- ---- a class, a TTL and a length

abbrev pub Fixed : Type 0
Fixed = ℕ × (ℕ × ℕ)

abbrev fixed_end : ℕ → ℕ → ℕ × List ℕ → Read Fixed
fixed_end class ttl n = cond (ltb (length n.1) n.0) (Err Short) (Ok ((class, (ttl, n.0)), n.1))

pub fixed_follows : (bytes : List ℕ) (x : Fixed × List ℕ) → fixed_of bytes ≡ Ok x → Follows bytes x.1
fixed_follows bytes x e =
    let c = bind_ok (two_of bytes) (λ c. four_of c.1 >>= λ t. two_of t.1 >>= λ n. fixed_end c.0 t.0 n) x e in
    let t = bind_ok (four_of c.0.1) (λ t. two_of t.1 >>= λ n. fixed_end c.0.0 t.0 n) x c.2 in
    let n = bind_ok (two_of t.0.1) (λ n. fixed_end c.0.0 t.0.0 n) x t.2 in
    let g = guard_ok (ltb (length n.0.1) n.0.0) Short (Ok ((c.0.0, (t.0.0, n.0.0)), n.0.1)) x n.2 in
    let all = further bytes t.0.1 n.0.1 (further bytes c.0.1 t.0.1 (two_follows bytes c.0 c.1) (four_follows c.0.1 t.0 t.1)) (two_follows t.0.1 n.0 n.1) in
    subst (λ (y : Fixed × List ℕ). Follows bytes y.1) (ok_is ((c.0.0, (t.0.0, n.0.0)), n.0.1) x g.1) all

abbrev FixedIs : List ℕ → Fixed × List ℕ → Type 0
FixedIs bytes x = (bytes ≡ two x.0.0 ++ (four x.0.1.0 ++ (two x.0.1.1 ++ x.1))) × (x.0.1.1 ≤ length x.1)

pub fixed_takes : (bytes : List ℕ) (x : Fixed × List ℕ) → IsBytes bytes → fixed_of bytes ≡ Ok x → FixedIs bytes x
fixed_takes bytes x fits e =
    let c = bind_ok (two_of bytes) (λ c. four_of c.1 >>= λ t. two_of t.1 >>= λ n. fixed_end c.0 t.0 n) x e in
    let t = bind_ok (four_of c.0.1) (λ t. two_of t.1 >>= λ n. fixed_end c.0.0 t.0 n) x c.2 in
    let n = bind_ok (two_of t.0.1) (λ n. fixed_end c.0.0 t.0.0 n) x t.2 in
    let g = guard_ok (ltb (length n.0.1) n.0.0) Short (Ok ((c.0.0, (t.0.0, n.0.0)), n.0.1)) x n.2 in
    let a = bytes_after bytes c.0.1 fits (two_follows bytes c.0 c.1) in
    let b = bytes_after c.0.1 t.0.1 a (four_follows c.0.1 t.0 t.1) in
    subst (FixedIs bytes) (ok_is ((c.0.0, (t.0.0, n.0.0)), n.0.1) x g.1) (three bytes c.0 t.0 n.0 (two_takes bytes c.0 fits c.1) (four_takes c.0.1 t.0 a t.1) (two_takes t.0.1 n.0 b n.1), ltb-false (length n.0.1) n.0.0 g.0)
  where
    three : (bytes : List ℕ) (c t n : ℕ × List ℕ) → bytes ≡ two c.0 ++ c.1 → c.1 ≡ four t.0 ++ t.1 → t.1 ≡ two n.0 ++ n.1 → bytes ≡ two c.0 ++ (four t.0 ++ (two n.0 ++ n.1))
    three bytes c t n a b d = a ∙ ap (λ (r : List ℕ). two c.0 ++ r) (b ∙ ap (λ (r : List ℕ). four t.0 ++ r) d)

pub fixed_again : (class ttl count : ℕ) (rest : List ℕ) → count ≤ length rest → fixed_of (two class ++ (four ttl ++ (two count ++ rest))) ≡ Ok ((class, (ttl, count)), rest)
fixed_again class ttl count rest within =
    let after_class : ℕ × List ℕ → Read Fixed = λ c. four_of c.1 >>= λ t. two_of t.1 >>= λ n. fixed_end c.0 t.0 n in
    let after_ttl : ℕ × List ℕ → Read Fixed = λ t. two_of t.1 >>= λ n. fixed_end class t.0 n in
    let after_count : ℕ × List ℕ → Read Fixed = λ n. fixed_end class ttl n in
    ap (λ (r : Read ℕ). r >>= after_class) (two_again class (four ttl ++ (two count ++ rest))) ∙ ap (λ (r : Read ℕ). r >>= after_ttl) (four_again ttl (two count ++ rest)) ∙ ap (λ (r : Read ℕ). r >>= after_count) (two_again count rest)
    ∙ rw (le-ltb (length rest) count within) refl

-- ---- what stands behind an owner and a type

pub data_there : (message bytes : List ℕ) (count code : ℕ) (data_is : RData) → count ≤ length bytes → IsBytes message → IsBytes bytes → data_of message code count bytes ≡ Ok data_is → DataIs message (take count bytes) (drop count bytes) (of_code code) data_is
data_there message bytes count code data_is within fits these e =
    let held : List ℕ = take count bytes in
    let whole : held ++ drop count bytes ≡ bytes = take-append-drop count bytes in
    let long : length held ≡ count = length-take-le count bytes within in
    let there : data_of message code (length held) (held ++ drop count bytes) ≡ Ok data_is = ap (λ (k : ℕ). data_of message code k (held ++ drop count bytes)) long ∙ ap (data_of message code count) whole ∙ e in
    data_takes message held (drop count bytes) code data_is fits (subst IsBytes (sym whole) these) there

pub record BodyIs (message bytes : List ℕ) (name : DomainName) (code : ℕ) (plain : Record) (rest : List ℕ) : Type 0 where
  pub held : List ℕ
  pub parts : bytes ≡ two plain.dns_class.code ++ (four plain.ttl ++ (two (length held) ++ (held ++ rest)))
  pub named : plain.name ≡ name
  pub of_type : plain.record_type ≡ of_code code
  pub is : IsData message held rest plain.record_type plain.rdata

typed_takes : (name : DomainName) (ttl : ℕ) (class : DnsClass) (record_type : RecordType) (data_is : RData) (test : Bool) (is : is_typed record_type data_is ≡ test) (x : Record)
    → typed_record name ttl class record_type data_is test is ≡ Ok x → (typed : is_typed record_type data_is ≡ true) × (made name ttl class record_type data_is typed ≡ x)
typed_takes name ttl class record_type data_is true is x e = (is, ok_is (made name ttl class record_type data_is is) x e)
typed_takes name ttl class record_type data_is false is x e = absurd cc

abbrev record_with : DomainName → ℕ → Fixed → RData → Result Record WireError
record_with name code f d = typed_record name f.1.0 (record { code = f.0 }) (of_code code) d (is_typed (of_code code) d) refl

pub body_takes : (message bytes : List ℕ) (name : DomainName) (code : ℕ) (x : Record × List ℕ) → IsBytes message → IsBytes bytes → body_of message name code bytes ≡ Ok x → BodyIs message bytes name code x.0 x.1
body_takes message bytes name code x fits these e =
    let f = bind_ok (fixed_of bytes) (λ f. data_of message code f.0.1.1 f.1 >>= λ d. record_with name code f.0 d >>= λ r. Ok (r, drop f.0.1.1 f.1)) x e in
    let d = bind_ok (data_of message code f.0.0.1.1 f.0.1) (λ d. record_with name code f.0.0 d >>= λ r. Ok (r, drop f.0.0.1.1 f.0.1)) x f.2 in
    let r = bind_ok (record_with name code f.0.0 d.0) (λ r. Ok (r, drop f.0.0.1.1 f.0.1)) x d.2 in
    let fixed = fixed_takes bytes f.0 these f.1 in
    let data_fits = bytes_after bytes f.0.1 these (fixed_follows bytes f.0 f.1) in
    let there = data_there message f.0.1 f.0.0.1.1 code d.0 fixed.1 fits data_fits d.1 in
    let typed = typed_takes name f.0.0.1.0 (record { code = f.0.0.0 }) (of_code code) d.0 (is_typed (of_code code) d.0) refl r.0 r.1 in
    subst (λ (y : Record × List ℕ). BodyIs message bytes name code y.0 y.1) (ok_is (r.0, drop f.0.0.1.1 f.0.1) x r.2) (
    subst (λ (y : Record). BodyIs message bytes name code y (drop f.0.0.1.1 f.0.1)) typed.1 (ended message bytes name code f.0 d.0 typed.0 fixed.0 fixed.1 there.0))
  where
    ended : (message bytes : List ℕ) (name : DomainName) (code : ℕ) (f : Fixed × List ℕ) (d : RData) (typed : is_typed (of_code code) d ≡ true) → bytes ≡ two f.0.0 ++ (four f.0.1.0 ++ (two f.0.1.1 ++ f.1)) → f.0.1.1 ≤ length f.1
        → IsData message (take f.0.1.1 f.1) (drop f.0.1.1 f.1) (of_code code) d → BodyIs message bytes name code (made name f.0.1.0 (record { code = f.0.0 }) (of_code code) d typed) (drop f.0.1.1 f.1)
    ended message bytes name code f d typed parts within is = record {
      held = take f.0.1.1 f.1;
      parts =
          parts ∙ ap (λ (k : ℕ). two f.0.0 ++ (four f.0.1.0 ++ (two k ++ f.1))) (sym (length-take-le f.0.1.1 f.1 within))
          ∙ ap (λ (b : List ℕ). two f.0.0 ++ (four f.0.1.0 ++ (two (length (take f.0.1.1 f.1)) ++ b))) (sym (take-append-drop f.0.1.1 f.1));
      named = refl;
      of_type = refl;
      is = is;
    }

pub body_again : (message held rest : List ℕ) (plain : Record) → IsData message held rest plain.record_type plain.rdata
    → body_of message plain.name plain.record_type.code (two plain.dns_class.code ++ (four plain.ttl ++ (two (length held) ++ (held ++ rest)))) ≡ Ok (plain, rest)
body_again message held rest plain is =
    let code : ℕ = plain.record_type.code in
    let after_fixed : Fixed × List ℕ → Read Record = λ f. data_of message code f.0.1.1 f.1 >>= λ d. record_with plain.name code f.0 d >>= λ r. Ok (r, drop f.0.1.1 f.1) in
    let after_data : RData → Read Record = λ d. record_with plain.name code (plain.dns_class.code, (plain.ttl, length held)) d >>= λ r. Ok (r, drop (length held) (held ++ rest)) in
    let after_record : Record → Read Record = λ r. Ok (r, drop (length held) (held ++ rest)) in
    ap (λ (r : Read Fixed). r >>= after_fixed) (fixed_again plain.dns_class.code plain.ttl (length held) (held ++ rest) (omega (arith, length-append held rest)))
    ∙ ap (λ (r : Result RData WireError). r >>= after_data) (data_again message held rest plain.record_type plain.rdata is plain.typed)
    ∙ ap (λ (r : Result Record WireError). r >>= after_record) (typed_made plain.name plain.ttl plain.dns_class plain.record_type plain.rdata (is_typed plain.record_type plain.rdata) refl plain.typed)
    ∙ ap (λ (z : List ℕ). Ok (plain, z)) (drop_at held rest (length held) refl)

-- ---- records

abbrev pub Head : Type 0
Head = DomainName × ℕ

pub record HeadIs (message bytes : List ℕ) (name : DomainName) (code : ℕ) (rest : List ℕ) : Type 0 where
  pub after : List ℕ
  pub named : IsName message bytes name after
  pub parts : after ≡ two code ++ rest
  pub fits : IsBytes rest

pub head_takes : (message bytes : List ℕ) (x : Head × List ℕ) → IsBytes message → IsBytes bytes → head_of message bytes ≡ Ok x → HeadIs message bytes x.0.0 x.0.1 x.1
head_takes message bytes x fits these e =
    let n = bind_ok (name_of message bytes) (λ n. two_of n.1 >>= λ t. Ok ((n.0, t.0), t.1)) x e in
    let t = bind_ok (two_of n.0.1) (λ t. Ok ((n.0.0, t.0), t.1)) x n.2 in
    let found = name_found message bytes n.0.0 n.0.1 fits these n.1 in
    let after = bytes_after bytes n.0.1 these (name_follows found.named) in
    subst (λ (y : Head × List ℕ). HeadIs message bytes y.0.0 y.0.1 y.1) (ok_is ((n.0.0, t.0.0), t.0.1) x t.2) (
    record { after = n.0.1; named = found; parts = two_takes n.0.1 t.0 after t.1; fits = bytes_after n.0.1 t.0.1 after (two_follows n.0.1 t.0 t.1) })

pub head_again : (message bytes : List ℕ) (name : DomainName) (code : ℕ) (after rest : List ℕ) → IsName message bytes name after → after ≡ two code ++ rest → head_of message bytes ≡ Ok ((name, code), rest)
head_again message bytes name code after rest named parts =
    let after_name : DomainName × List ℕ → Read Head = λ n. two_of n.1 >>= λ t. Ok ((n.0, t.0), t.1) in
    let after_type : ℕ × List ℕ → Read Head = λ t. Ok ((name, t.0), t.1) in
    ap (λ (r : Read DomainName). r >>= after_name) (name_then message bytes name after (two code ++ rest) named parts) ∙ ap (λ (r : Read ℕ). r >>= after_type) (two_again code rest)

-- a record of this owner, type and rest
pub record_made : (message bytes rest : List ℕ) (name : DomainName) (code : ℕ) (body_bytes : List ℕ) (plain : Record) → HeadIs message bytes name code body_bytes → eqb code 41 ≡ false → BodyIs message body_bytes name code plain rest → RecordAt message bytes plain rest
record_made message bytes rest name code body_bytes plain head other body =
    let named = subst (λ (n : DomainName). IsName message bytes n head.after) (sym body.named) head.named in
    let of_code_is : code ≡ plain.record_type.code = ap (λ (t : RecordType). t.code) (sym body.of_type) in
    let parts = head.parts ∙ ap (λ (r : List ℕ). two code ++ r) body.parts ∙ ap (λ (k : ℕ). two k ++ (two plain.dns_class.code ++ (four plain.ttl ++ (two (length body.held) ++ (body.held ++ rest))))) of_code_is in
    (head.after, body.held, named, parts, λ same. eqb-false code 41 other (of_code_is ∙ same), body.is)

pub record_takes : (message bytes : List ℕ) (x : Record × List ℕ) → IsBytes message → IsBytes bytes → record_of message bytes ≡ Ok x → RecordAt message bytes x.0 x.1
record_takes message bytes x fits these e =
    let h = bind_ok (head_of message bytes) (λ h. cond (eqb h.0.1 41) (Err BadOpt) (body_of message h.0.0 h.0.1 h.1)) x e in
    let g = guard_ok (eqb h.0.0.1 41) BadOpt (body_of message h.0.0.0 h.0.0.1 h.0.1) x h.2 in
    let head = head_takes message bytes h.0 fits these h.1 in
    record_made message bytes x.1 h.0.0.0 h.0.0.1 h.0.1 x.0 head g.0 (body_takes message h.0.1 h.0.0.0 h.0.0.1 x fits head.fits g.1)

pub record_again : (message bytes : List ℕ) (plain : Record) (rest : List ℕ) → RecordAt message bytes plain rest → record_of message bytes ≡ Ok (plain, rest)
record_again message bytes plain rest at =
    let code : ℕ = plain.record_type.code in
    let body : List ℕ = two plain.dns_class.code ++ (four plain.ttl ++ (two (length at.1) ++ (at.1 ++ rest))) in
    let after_head : Head × List ℕ → Read Record = λ h. cond (eqb h.0.1 41) (Err BadOpt) (body_of message h.0.0 h.0.1 h.1) in
    let other : eqb code 41 ≡ false = ne_eqb code 41 at.4 in
    ap (λ (r : Read Head). r >>= after_head) (head_again message bytes plain.name code at.0 body at.2 at.3)
    ∙ ap (λ (test : Bool). cond test (Err BadOpt) (body_of message plain.name code body)) other
    ∙ body_again message at.1 rest plain at.5
