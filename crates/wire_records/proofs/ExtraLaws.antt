-- A record of the additional section that is read stands there, and one that stands there is read.
use Rattle.std.proofs.Common.{◌≡◌, ℕ, ◌+◌, ◌-◌, ◌*◌, ◌/◌, ◌%◌, ◌<◌, ◌≤◌, Bool, true, false, not, cond, eqb, leb, List, [], ◌∷◌, ◌++◌, length, take, drop, Result, Ok, Err, IfOk, refl, sym, ap, subst, ◌∙◌, inl, inr, arith, take-append-drop, take_at, drop_at, length-append, eqb-true, ne_eqb}
use Rattle.std.specs.Prelude.{◌||◌}
use Rattle.std.proofs.lemmas.Bool.{leb-true, le-leb, leb-false, lt-leb}
use Rattle.std.proofs.lemmas.List.{length-take-le, nil_from_length}
use Rattle.dns_core.specs.Name.{DomainName}
use Rattle.dns_core.specs.declared.record.Record.{Record}
use Rattle.wire_names.specs.Names.{NameAt, IsName}
use Rattle.wire_names.specs.Kept.{IsRest}
use Rattle.wire_names.specs.Reading.{◌>>=◌, Gives}
use Rattle.wire_names.specs.declared.errors.WireError.{WireError}
use Rattle.wire_names.specs.declared.errors.WireError.TheVariants.{BadOpt}
use Rattle.wire_names.proofs.Binds.{bind_ok, guard_ok, chosen, ok_is}
use Rattle.wire_names.proofs.RunLaws.{IsBytes}
use Rattle.wire_records.specs.Numbers.{two, four, Read}
use Rattle.wire_records.specs.Records.{bit, ExtraAt}
use Rattle.wire_records.specs.Reading.{head_of, fixed_of, body_of, opt_of, extra_of}
use Rattle.wire_records.specs.declared.edns.Edns.{Edns}
use Rattle.wire_records.specs.declared.edns.Extra.{Extra}
use Rattle.wire_records.specs.declared.edns.Extra.TheVariants.{Plain, Opt}
use Rattle.wire_records.proofs.Following.{Follows, further, rest_after, bytes_after}
use Rattle.wire_records.proofs.QuestionLaws.{name_follows}
use Rattle.wire_records.proofs.RecordLaws.{Fixed, Head, HeadIs, fixed_follows, fixed_takes, fixed_again, head_takes, head_again, body_takes, body_again, record_made}

-- ---- four bytes as two numbers of one byte and a flag before a number

upper_is : (ttl : ℕ) → ttl / 65536 / 256 ≡ ttl / 16777216
upper_is ttl = omega arith

flagged : (low : ℕ) (test : Bool) → leb 32768 low ≡ test → low < 65536 → low ≡ 32768 * bit test + low % 32768
flagged low true is small = let many = leb-true 32768 low is in omega (arith, many, small)
flagged low false is small = let few = leb-false 32768 low is in omega (arith, few, small)

ttl_takes : (ttl : ℕ) (rest : List ℕ) → four ttl ++ rest ≡ (ttl / 16777216) ∷ (ttl / 65536 % 256) ∷ (two (32768 * bit (leb 32768 (ttl % 65536)) + ttl % 65536 % 32768) ++ rest)
ttl_takes ttl rest =
    ap (λ (k : ℕ). k ∷ (ttl / 65536 % 256) ∷ (two (ttl % 65536) ++ rest)) (upper_is ttl)
    ∙ ap (λ (k : ℕ). (ttl / 16777216) ∷ (ttl / 65536 % 256) ∷ (two k ++ rest)) (flagged (ttl % 65536) (leb 32768 (ttl % 65536)) refl (omega arith))

-- the TTL that says these
abbrev ttl_of : ℕ → ℕ → ℕ → ℕ
ttl_of upper version low = 65536 * (256 * upper + version) + low

high_part : (upper version low : ℕ) → low < 65536 → ttl_of upper version low / 65536 ≡ 256 * upper + version
high_part upper version low small = omega (arith, small)

low_part : (upper version low : ℕ) → low < 65536 → ttl_of upper version low % 65536 ≡ low
low_part upper version low small = omega (arith, small)

upper_part : (upper version : ℕ) → version < 256 → (256 * upper + version) / 256 ≡ upper
upper_part upper version small = omega (arith, small)

version_part : (upper version : ℕ) → version < 256 → (256 * upper + version) % 256 ≡ version
version_part upper version small = omega (arith, small)

ttl_again : (upper version low : ℕ) (rest : List ℕ) → version < 256 → low < 65536 → four (ttl_of upper version low) ++ rest ≡ upper ∷ version ∷ (two low ++ rest)
ttl_again upper version low rest small few =
    ap (λ (k : ℕ). two k ++ (two (ttl_of upper version low % 65536) ++ rest)) (high_part upper version low few)
    ∙ ap (λ (k : ℕ). two (256 * upper + version) ++ (two k ++ rest)) (low_part upper version low few)
    ∙ ap (λ (k : ℕ). k ∷ ((256 * upper + version) % 256) ∷ (two low ++ rest)) (upper_part upper version small)
    ∙ ap (λ (k : ℕ). upper ∷ k ∷ (two low ++ rest)) (version_part upper version small)

-- ---- the OPT record

abbrev opt_from : Fixed → List ℕ → Extra
opt_from f options = Opt (f.1.0 / 16777216) (record { payload = f.0; version = f.1.0 / 65536 % 256; dnssec_ok = leb 32768 (f.1.0 % 65536); options = options })

-- what stands behind the type of an OPT record
abbrev OptIs : List ℕ → Extra → List ℕ → Type 0
OptIs bytes (Plain plain) rest = ⊥
OptIs bytes (Opt upper edns) rest =
    (ignored : ℕ) × (ignored < 32768)
    × (bytes ≡ two edns.payload ++ (upper ∷ edns.version ∷ (two (32768 * bit edns.dnssec_ok + ignored) ++ (two (length edns.options) ++ (edns.options ++ rest)))))

opt_takes : (bytes : List ℕ) (x : Extra × List ℕ) → IsBytes bytes → opt_of bytes ≡ Ok x → OptIs bytes x.0 x.1
opt_takes bytes x fits e =
    let f = bind_ok (fixed_of bytes) (λ f. Ok (opt_from f.0 (take f.0.1.1 f.1), drop f.0.1.1 f.1)) x e in
    let fixed = fixed_takes bytes f.0 fits f.1 in
    subst (λ (y : Extra × List ℕ). OptIs bytes y.0 y.1) (ok_is (opt_from f.0.0 (take f.0.0.1.1 f.0.1), drop f.0.0.1.1 f.0.1) x f.2) (ended bytes f.0 fixed.0 fixed.1)
  where
    ended : (bytes : List ℕ) (f : Fixed × List ℕ) → bytes ≡ two f.0.0 ++ (four f.0.1.0 ++ (two f.0.1.1 ++ f.1)) → f.0.1.1 ≤ length f.1 → OptIs bytes (opt_from f.0 (take f.0.1.1 f.1)) (drop f.0.1.1 f.1)
    ended bytes f parts within =
        let ttl : ℕ = f.0.1.0 in
        let small : ttl % 65536 % 32768 < 32768 = omega arith in
        let counted : two f.0.1.1 ++ f.1 ≡ two (length (take f.0.1.1 f.1)) ++ (take f.0.1.1 f.1 ++ drop f.0.1.1 f.1) =
        ap (λ (k : ℕ). two k ++ f.1) (sym (length-take-le f.0.1.1 f.1 within)) ∙ ap (λ (b : List ℕ). two (length (take f.0.1.1 f.1)) ++ b) (sym (take-append-drop f.0.1.1 f.1)) in
        (ttl % 65536 % 32768, small, parts ∙ ap (λ (b : List ℕ). two f.0.0 ++ (four ttl ++ b)) counted ∙ ap (λ (b : List ℕ). two f.0.0 ++ b) (ttl_takes ttl (two (length (take f.0.1.1 f.1)) ++ (take f.0.1.1 f.1 ++ drop f.0.1.1 f.1))))

opt_again : (upper ignored : ℕ) (edns : Edns) (rest : List ℕ) → edns.version < 256 → ignored < 32768
    → opt_of (two edns.payload ++ (upper ∷ edns.version ∷ (two (32768 * bit edns.dnssec_ok + ignored) ++ (two (length edns.options) ++ (edns.options ++ rest))))) ≡ Ok (Opt upper edns, rest)
opt_again upper ignored edns rest small few =
    let low : ℕ = 32768 * bit edns.dnssec_ok + ignored in
    let ttl : ℕ = ttl_of upper edns.version low in
    let tail : List ℕ = two (length edns.options) ++ (edns.options ++ rest) in
    let below : low < 65536 = low_below edns.dnssec_ok ignored few in
    let after_fixed : Fixed × List ℕ → Read Extra = λ f. Ok (opt_from f.0 (take f.0.1.1 f.1), drop f.0.1.1 f.1) in
    ap (λ (b : List ℕ). opt_of (two edns.payload ++ b)) (sym (ttl_again upper edns.version low tail small below))
    ∙ ap (λ (r : Read Fixed). r >>= after_fixed) (fixed_again edns.payload ttl (length edns.options) (edns.options ++ rest) (omega (arith, length-append edns.options rest)))
    ∙ ap (λ (o : List ℕ). Ok (opt_from (edns.payload, (ttl, length edns.options)) o, drop (length edns.options) (edns.options ++ rest))) (take_at edns.options rest (length edns.options) refl)
    ∙ ap (λ (z : List ℕ). Ok (opt_from (edns.payload, (ttl, length edns.options)) edns.options, z)) (drop_at edns.options rest (length edns.options) refl)
    ∙ ap (λ (x : Extra). Ok (x, rest)) (same_opt upper edns ignored small few)
  where
    low_below : (flag : Bool) (ignored : ℕ) → ignored < 32768 → 32768 * bit flag + ignored < 65536
    low_below true ignored few = omega (arith, few)
    low_below false ignored few = omega (arith, few)

    flag_is : (flag : Bool) (ignored : ℕ) → ignored < 32768 → leb 32768 (32768 * bit flag + ignored) ≡ flag
    flag_is true ignored few = le-leb 32768 (32768 + ignored) (omega arith)
    flag_is false ignored few = lt-leb 32768 (0 + ignored) (omega (arith, few))

    same_opt : (upper : ℕ) (edns : Edns) (ignored : ℕ) → edns.version < 256 → ignored < 32768
        → opt_from (edns.payload, (ttl_of upper edns.version (32768 * bit edns.dnssec_ok + ignored), length edns.options)) edns.options ≡ Opt upper edns
    same_opt upper edns ignored small few =
        let low : ℕ = 32768 * bit edns.dnssec_ok + ignored in
        let ttl : ℕ = ttl_of upper edns.version low in
        let below : low < 65536 = low_below edns.dnssec_ok ignored few in
        let high = high_part upper edns.version low below in
        let a : ttl / 16777216 ≡ upper = sym (upper_is ttl) ∙ ap (λ (k : ℕ). k / 256) high ∙ upper_part upper edns.version small in
        let b : ttl / 65536 % 256 ≡ edns.version = ap (λ (k : ℕ). k % 256) high ∙ version_part upper edns.version small in
        let c : leb 32768 (ttl % 65536) ≡ edns.dnssec_ok = ap (leb 32768) (low_part upper edns.version low below) ∙ flag_is edns.dnssec_ok ignored few in
        ap (λ (k : ℕ). Opt k (record { payload = edns.payload; version = ttl / 65536 % 256; dnssec_ok = leb 32768 (ttl % 65536); options = edns.options })) a
        ∙ ap (λ (k : ℕ). Opt upper (record { payload = edns.payload; version = k; dnssec_ok = leb 32768 (ttl % 65536); options = edns.options })) b
        ∙ ap (λ (k : Bool). Opt upper (record { payload = edns.payload; version = edns.version; dnssec_ok = k; options = edns.options })) c

opt_follows : (bytes : List ℕ) (x : Extra × List ℕ) → opt_of bytes ≡ Ok x → Follows bytes x.1
opt_follows bytes x e =
    let f = bind_ok (fixed_of bytes) (λ f. Ok (opt_from f.0 (take f.0.1.1 f.1), drop f.0.1.1 f.1)) x e in
    let back : Follows f.0.1 (drop f.0.0.1.1 f.0.1) = record { front = take f.0.0.1.1 f.0.1; parts = sym (take-append-drop f.0.0.1.1 f.0.1) } in
    subst (λ (y : Extra × List ℕ). Follows bytes y.1) (ok_is (opt_from f.0.0 (take f.0.0.1.1 f.0.1), drop f.0.0.1.1 f.0.1) x f.2) (further bytes f.0.1 (drop f.0.0.1.1 f.0.1) (fixed_follows bytes f.0 f.1) back)

pub opt_rest : {X : Type 0} (view : X → Extra × List ℕ) (message bytes : List ℕ) (r : Result X WireError) → IsRest message bytes → Gives view r (opt_of bytes) → IfOk r (λ x. IsRest message (view x).1)
opt_rest view message bytes (Ok x) is given = rest_after message bytes (view x).1 is (opt_follows bytes (view x) given)
opt_rest view message bytes (Err e) is given = tt

-- ---- records of the section

-- an OPT record stands only where none came before
abbrev pub Alone : Bool → Extra → Type 0
Alone seen (Plain plain) = Unit {0}
Alone seen (Opt upper edns) = seen ≡ false

either_not : (a b : Bool) → (a || b) ≡ false → (a ≡ false) × (b ≡ false)
either_not true b e = absurd cc
either_not false b e = (refl, e)

not_not : (a : Bool) → not a ≡ false → a ≡ true
not_not true e = refl
not_not false e = absurd cc

abbrev Found : Bool → List ℕ → List ℕ → Extra × List ℕ → Type 0
Found seen message bytes x = ExtraAt message bytes x.0 x.1 × Alone seen x.0

-- an OPT record at the root
opt_found : (seen : Bool) (message bytes : List ℕ) (name : DomainName) (code : ℕ) (rest : List ℕ) (x : Extra × List ℕ) → HeadIs message bytes name code rest → code ≡ 41 → seen ≡ false → name.labels ≡ [] → OptIs rest x.0 x.1 → Found seen message bytes x
opt_found seen message bytes name code rest (Plain plain, z) head opt unseen root is = absurd is
opt_found seen message bytes name code rest (Opt upper edns, z) head opt unseen root is =
    let at_root = subst (λ (ls : List (List ℕ)). NameAt message bytes ls head.after) root head.named.named in
    ((head.after, is.0, at_root, is.1, head.parts ∙ ap (λ (k : ℕ). two k ++ rest) opt ∙ ap (λ (b : List ℕ). two 41 ++ b) is.2), unseen)

pub extra_takes : (seen : Bool) (message bytes : List ℕ) (x : Extra × List ℕ) → IsBytes message → IsBytes bytes → extra_of seen message bytes ≡ Ok x → Found seen message bytes x
extra_takes seen message bytes x fits these e =
    let tail : Head × List ℕ → Read Extra = λ h. cond (eqb h.0.1 41) (cond (seen || not (eqb (length h.0.0.labels) 0)) (Err BadOpt) (opt_of h.1)) (body_of message h.0.0 h.0.1 h.1 >>= λ r. Ok (Plain r.0, r.1)) in
    let h = bind_ok (head_of message bytes) tail x e in
    let head = head_takes message bytes h.0 fits these h.1 in
    elim (chosen (eqb h.0.0.1 41) _ _ _ h.2) [
      | inl opt ↦
          let g = guard_ok (seen || not (eqb (length h.0.0.0.labels) 0)) BadOpt (opt_of h.0.1) x opt.1 in
          let both = either_not seen (not (eqb (length h.0.0.0.labels) 0)) g.0 in
          let root = nil_from_length h.0.0.0.labels (eqb-true (length h.0.0.0.labels) 0 (not_not _ both.1)) in
          opt_found seen message bytes h.0.0.0 h.0.0.1 h.0.1 x head (eqb-true h.0.0.1 41 opt.0) both.0 root (opt_takes h.0.1 x head.fits g.1)
      | inr other ↦
          let r = bind_ok (body_of message h.0.0.0 h.0.0.1 h.0.1) (λ r. Ok (Plain r.0, r.1)) x other.1 in
          let body = body_takes message h.0.1 h.0.0.0 h.0.0.1 r.0 fits head.fits r.1 in
          subst (Found seen message bytes) (ok_is (Plain r.0.0, r.0.1) x r.2) (record_made message bytes r.0.1 h.0.0.0 h.0.0.1 h.0.1 r.0.0 head other.0 body, tt)
    ]

pub extra_again : (seen : Bool) (message bytes : List ℕ) (x : Extra) (rest : List ℕ) → IsBytes bytes → ExtraAt message bytes x rest → Alone seen x → extra_of seen message bytes ≡ Ok (x, rest)
extra_again seen message bytes (Plain plain) rest these at alone =
    let code : ℕ = plain.record_type.code in
    let body : List ℕ = two plain.dns_class.code ++ (four plain.ttl ++ (two (length at.1) ++ (at.1 ++ rest))) in
    let tail : Head × List ℕ → Read Extra = λ h. cond (eqb h.0.1 41) (cond (seen || not (eqb (length h.0.0.labels) 0)) (Err BadOpt) (opt_of h.1)) (body_of message h.0.0 h.0.1 h.1 >>= λ r. Ok (Plain r.0, r.1)) in
    let as_extra : Record × List ℕ → Read Extra = λ r. Ok (Plain r.0, r.1) in
    let other : eqb code 41 ≡ false = ne_eqb code 41 at.4 in
    ap (λ (r : Read Head). r >>= tail) (head_again message bytes plain.name code at.0 body at.2 at.3)
    ∙ ap (λ (test : Bool). cond test (cond (seen || not (eqb (length plain.name.labels) 0)) (Err BadOpt) (opt_of body)) (body_of message plain.name code body >>= as_extra)) other
    ∙ ap (λ (r : Read Record). r >>= as_extra) (body_again message at.1 rest plain at.5)
extra_again seen message bytes (Opt upper edns) rest these at alone =
    let body : List ℕ = two edns.payload ++ (upper ∷ edns.version ∷ (two (32768 * bit edns.dnssec_ok + at.1) ++ (two (length edns.options) ++ (edns.options ++ rest)))) in
    let root : DomainName = record { labels = []; fqdn = true } in
    let named : IsName message bytes root at.0 = record { named = at.2; absolute = refl; short = omega arith } in
    let tail : Head × List ℕ → Read Extra = λ h. cond (eqb h.0.1 41) (cond (seen || not (eqb (length h.0.0.labels) 0)) (Err BadOpt) (opt_of h.1)) (body_of message h.0.0 h.0.1 h.1 >>= λ r. Ok (Plain r.0, r.1)) in
    ap (λ (r : Read Head). r >>= tail) (head_again message bytes root 41 at.0 body named at.4)
    ∙ ap (λ (s : Bool). cond (s || not (eqb 0 0)) (Err BadOpt) (opt_of body)) alone
    ∙ opt_again upper at.1 edns rest (version_small message bytes at.0 edns.payload upper edns.version _ these named at.4) at.3
  where
    version_small : (message bytes after : List ℕ) (payload upper version : ℕ) (more : List ℕ) → IsBytes bytes → IsName message bytes (record { labels = []; fqdn = true }) after → after ≡ two 41 ++ (two payload ++ (upper ∷ version ∷ more)) → version < 256
    version_small message bytes after payload upper version more these named parts =
        let follows = name_follows named.named in
        let fits = subst IsBytes parts (bytes_after bytes after these follows) in
        fits 5
