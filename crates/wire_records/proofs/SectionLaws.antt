-- A section that is read stands there, and one that stands there is read.
use Rattle.std.proofs.Common.{◌≡◌, ℕ, zero, suc, ◌+◌, ◌*◌, true, false, List, [], ◌∷◌, ◌++◌, length, Ok, Some, None, refl, sym, ap, subst, ◌∙◌}
use Rattle.std.specs.List.{flat_map}
use Rattle.std.specs.Option.{is_some}
use Rattle.dns_core.specs.declared.message.Query.{Query}
use Rattle.dns_core.specs.declared.record.Record.{Record}
use Rattle.wire_names.specs.Reading.{◌>>=◌}
use Rattle.wire_names.proofs.Binds.{bind_ok, ok_is}
use Rattle.wire_names.proofs.RunLaws.{IsBytes}
use Rattle.wire_records.specs.Numbers.{two, four, Read}
use Rattle.wire_records.specs.Records.{bit, InTurn, QuestionAt, RecordAt, ExtraAt, plain_of, said_of, IsSaid}
use Rattle.wire_records.specs.Reading.{question_of, record_of, extra_of}
use Rattle.wire_records.specs.Sections.{in_turn, Told, told_after, extras_of}
use Rattle.wire_records.specs.declared.edns.Edns.{Edns}
use Rattle.wire_records.specs.declared.edns.Extra.{Extra}
use Rattle.wire_records.specs.declared.edns.Extra.TheVariants.{Plain, Opt}
use Rattle.wire_records.proofs.Following.{Follows, further, bytes_after}
use Rattle.wire_records.proofs.QuestionLaws.{name_follows, question_takes, question_again}
use Rattle.wire_records.proofs.RecordLaws.{record_takes, record_again}
use Rattle.wire_records.proofs.ExtraLaws.{Alone, extra_takes, extra_again}

-- ---- what follows an item

question_follows : (message bytes : List ℕ) (query : Query) (rest : List ℕ) → QuestionAt message bytes query rest → Follows bytes rest
question_follows message bytes query rest at =
    further bytes at.0 rest (name_follows at.1.named) (record { front = two query.query_type.code ++ two query.query_class.code; parts = at.2 })

record_follows : (message bytes : List ℕ) (plain : Record) (rest : List ℕ) → RecordAt message bytes plain rest → Follows bytes rest
record_follows message bytes plain rest at =
    let front : List ℕ = two plain.record_type.code ++ (two plain.dns_class.code ++ (four plain.ttl ++ two (length at.1))) in
    further bytes at.0 rest (name_follows at.2.named) (further at.0 (at.1 ++ rest) rest (record { front = front; parts = at.3 }) (record { front = at.1; parts = refl }))

extra_follows : (message bytes : List ℕ) (x : Extra) (rest : List ℕ) → ExtraAt message bytes x rest → Follows bytes rest
extra_follows message bytes (Plain plain) rest at = record_follows message bytes plain rest at
extra_follows message bytes (Opt upper edns) rest at =
    let front : List ℕ = two 41 ++ (two edns.payload ++ (upper ∷ edns.version ∷ (two (32768 * bit edns.dnssec_ok + at.1) ++ two (length edns.options)))) in
    further bytes at.0 rest (name_follows at.2) (further at.0 (edns.options ++ rest) rest (record { front = front; parts = at.4 }) (record { front = edns.options; parts = refl }))

-- ---- items that are read in one way

pub record IsReader {X : Type 0} (read : List ℕ → List ℕ → Read X) (At : List ℕ → List ℕ → X → List ℕ → Type 0) : Type 0 where
  pub takes : (message bytes : List ℕ) (x : X × List ℕ) → IsBytes message → IsBytes bytes → read message bytes ≡ Ok x → At message bytes x.0 x.1
  pub again : (message bytes : List ℕ) (x : X) (rest : List ℕ) → At message bytes x rest → read message bytes ≡ Ok (x, rest)
  pub follows : (message bytes : List ℕ) (x : X) (rest : List ℕ) → At message bytes x rest → Follows bytes rest

pub question_reader : IsReader question_of QuestionAt
question_reader = record { takes = question_takes; again = question_again; follows = question_follows }

pub record_reader : IsReader record_of RecordAt
record_reader = record { takes = record_takes; again = record_again; follows = record_follows }

abbrev TurnsAre : {X : Type 0} → (List ℕ → List ℕ → X → List ℕ → Type 0) → ℕ → List ℕ → List ℕ → List X × List ℕ → Type 0
TurnsAre At count message bytes xs = InTurn At message bytes xs.0 xs.1 × (length xs.0 ≡ count)

pub turns_take : {X : Type 0} (read : List ℕ → List ℕ → Read X) (At : List ℕ → List ℕ → X → List ℕ → Type 0) → IsReader read At → (count : ℕ) (message bytes : List ℕ) (xs : List X × List ℕ) → IsBytes message → IsBytes bytes
    → in_turn read count message bytes ≡ Ok xs → TurnsAre At count message bytes xs
unfolding in_turn
turns_take {X} read At law zero message bytes xs fits these e =
    let none : List X × List ℕ = ([], bytes) in
    subst (TurnsAre At 0 message bytes) (ok_is none xs e) (refl, refl)
turns_take {X} read At law (suc count) message bytes xs fits these e =
    let tail : X × List ℕ → Read (List X) = λ x. in_turn read count message x.1 >>= λ ys. Ok (x.0 ∷ ys.0, ys.1) in
    let x = bind_ok (read message bytes) tail xs e in
    let last : List X × List ℕ → Read (List X) = λ ys. Ok (x.0.0 ∷ ys.0, ys.1) in
    let ys = bind_ok (in_turn read count message x.0.1) last xs x.2 in
    let here = law.takes message bytes x.0 fits these x.1 in
    let below = turns_take read At law count message x.0.1 ys.0 fits (bytes_after bytes x.0.1 these (law.follows message bytes x.0.0 x.0.1 here)) ys.1 in
    let all : List X × List ℕ = (x.0.0 ∷ ys.0.0, ys.0.1) in
    subst (TurnsAre At (suc count) message bytes) (ok_is all xs ys.2) ((x.0.1, here, below.0), ap suc below.1)

pub turns_again : {X : Type 0} (read : List ℕ → List ℕ → Read X) (At : List ℕ → List ℕ → X → List ℕ → Type 0) → IsReader read At → (message bytes : List ℕ) (items : List X) (rest : List ℕ) → InTurn At message bytes items rest
    → in_turn read (length items) message bytes ≡ Ok (items, rest)
unfolding in_turn
turns_again read At law message bytes [] rest at = ap (λ (r : List ℕ). Ok ([], r)) at
turns_again {X} read At law message bytes (x ∷ xs) rest at =
    let tail : X × List ℕ → Read (List X) = λ y. in_turn read (length xs) message y.1 >>= λ ys. Ok (y.0 ∷ ys.0, ys.1) in
    let last : List X × List ℕ → Read (List X) = λ ys. Ok (x ∷ ys.0, ys.1) in
    ap (λ (r : Read X). r >>= tail) (law.again message bytes x at.0 at.1) ∙ ap (λ (r : Read (List X)). r >>= last) (turns_again read At law message at.0 xs rest at.2)

pub turns_follow : {X : Type 0} (At : List ℕ → List ℕ → X → List ℕ → Type 0) → ((message bytes : List ℕ) (x : X) (rest : List ℕ) → At message bytes x rest → Follows bytes rest) → (message bytes : List ℕ) (items : List X) (rest : List ℕ)
    → InTurn At message bytes items rest → Follows bytes rest
turns_follow At follows message bytes [] rest at = record { front = []; parts = at }
turns_follow At follows message bytes (x ∷ xs) rest at = further bytes at.0 rest (follows message bytes x at.0 at.1) (turns_follow At follows message at.0 xs rest at.2)

-- ---- the additional section

abbrev Tells : Told → List Extra → Told → Type 0
Tells told [] last = last ≡ told
Tells told (x ∷ xs) last = Alone (is_some told) x × Tells (told_after told x) xs last

abbrev ExtrasAre : ℕ → Told → List ℕ → List ℕ → (List Record × Told) × List ℕ → Type 0
ExtrasAre count told message bytes xs = (extras : List Extra) × InTurn ExtraAt message bytes extras xs.1 × (length extras ≡ count) × (flat_map plain_of extras ≡ xs.0.0) × Tells told extras xs.0.1

told_takes : (count : ℕ) (told : Told) (message bytes : List ℕ) (xs : (List Record × Told) × List ℕ) → IsBytes message → IsBytes bytes → extras_of count told message bytes ≡ Ok xs → ExtrasAre count told message bytes xs
unfolding extras_of
told_takes zero told message bytes xs fits these e =
    let none : (List Record × Told) × List ℕ = (([], told), bytes) in
    subst (ExtrasAre 0 told message bytes) (ok_is none xs e) ([], refl, refl, refl, refl)
told_takes (suc count) told message bytes xs fits these e =
    let tail : Extra × List ℕ → Read (List Record × Told) = λ x. extras_of count (told_after told x.0) message x.1 >>= λ ys. Ok ((plain_of x.0 ++ ys.0.0, ys.0.1), ys.1) in
    let x = bind_ok (extra_of (is_some told) message bytes) tail xs e in
    let last : (List Record × Told) × List ℕ → Read (List Record × Told) = λ ys. Ok ((plain_of x.0.0 ++ ys.0.0, ys.0.1), ys.1) in
    let ys = bind_ok (extras_of count (told_after told x.0.0) message x.0.1) last xs x.2 in
    let here = extra_takes (is_some told) message bytes x.0 fits these x.1 in
    let below = told_takes count (told_after told x.0.0) message x.0.1 ys.0 fits (bytes_after bytes x.0.1 these (extra_follows message bytes x.0.0 x.0.1 here.0)) ys.1 in
    let all : (List Record × Told) × List ℕ = ((plain_of x.0.0 ++ ys.0.0.0, ys.0.0.1), ys.0.1) in
    subst (ExtrasAre (suc count) told message bytes) (ok_is all xs ys.2) (x.0.0 ∷ below.0, (x.0.1, here.0, below.1), ap suc below.2, ap (λ (rs : List Record). plain_of x.0.0 ++ rs) below.3, (here.1, below.4))

told_again : (told last : Told) (message bytes : List ℕ) (extras : List Extra) (rest : List ℕ) → IsBytes bytes → InTurn ExtraAt message bytes extras rest → Tells told extras last
    → extras_of (length extras) told message bytes ≡ Ok ((flat_map plain_of extras, last), rest)
unfolding extras_of
told_again told last message bytes [] rest these at tells = ap (λ (r : List ℕ). Ok (([], told), r)) at ∙ ap (λ (t : Told). Ok (([], t), rest)) (sym tells)
told_again told last message bytes (x ∷ xs) rest these at tells =
    let tail : Extra × List ℕ → Read (List Record × Told) = λ y. extras_of (length xs) (told_after told y.0) message y.1 >>= λ ys. Ok ((plain_of y.0 ++ ys.0.0, ys.0.1), ys.1) in
    let end : (List Record × Told) × List ℕ → Read (List Record × Told) = λ ys. Ok ((plain_of x ++ ys.0.0, ys.0.1), ys.1) in
    let after = bytes_after bytes at.0 these (extra_follows message bytes x at.0 at.1) in
    ap (λ (r : Read Extra). r >>= tail) (extra_again (is_some told) message bytes x at.0 these at.1 tells.0)
    ∙ ap (λ (r : Read (List Record × Told)). r >>= end) (told_again (told_after told x) last message at.0 xs rest after at.2 tells.1)

-- after an OPT record there is none
none_said : (said : ℕ × Edns) (extras : List Extra) (last : Told) → Tells (Some said) extras last → (flat_map said_of extras ≡ []) × (last ≡ Some said)
none_said said [] last tells = (refl, tells)
none_said said (Plain plain ∷ xs) last tells = none_said said xs last tells.1
none_said said (Opt upper edns ∷ xs) last tells = absurd (let seen : true ≡ false = tells.0 in cc)

said_once : (extras : List Extra) (last : Told) → Tells None extras last → IsSaid (flat_map said_of extras) last
said_once [] last tells = tells
said_once (Plain plain ∷ xs) last tells = said_once xs last tells.1
said_once (Opt upper edns ∷ xs) last tells =
    let none = none_said (upper, edns) xs last tells.1 in
    subst (λ (more : List (ℕ × Edns)). IsSaid ((upper, edns) ∷ more) last) (sym none.0) none.1

tells_none : (said : ℕ × Edns) (extras : List Extra) (last : Told) → IsSaid (said ∷ flat_map said_of extras) last → Tells (Some said) extras last
tells_none said [] last is = is
tells_none said (Plain plain ∷ xs) last is = (tt, tells_none said xs last is)
tells_none said (Opt upper edns ∷ xs) last is = absurd is

tells_once : (extras : List Extra) (last : Told) → IsSaid (flat_map said_of extras) last → Tells None extras last
tells_once [] last is = is
tells_once (Plain plain ∷ xs) last is = (tt, tells_once xs last is)
tells_once (Opt upper edns ∷ xs) last is = (refl, tells_none (upper, edns) xs last is)

pub record ExtrasAt (message bytes : List ℕ) (count : ℕ) (records : List Record) (told : Told) (rest : List ℕ) : Type 0 where
  pub extras : List Extra
  pub in_turn : InTurn ExtraAt message bytes extras rest
  pub counted : length extras ≡ count
  pub plain : records ≡ flat_map plain_of extras
  pub said : IsSaid (flat_map said_of extras) told

pub extras_take : (count : ℕ) (message bytes : List ℕ) (xs : (List Record × Told) × List ℕ) → IsBytes message → IsBytes bytes → extras_of count None message bytes ≡ Ok xs → ExtrasAt message bytes count xs.0.0 xs.0.1 xs.1
extras_take count message bytes xs fits these e =
    let all = told_takes count None message bytes xs fits these e in
    record { extras = all.0; in_turn = all.1; counted = all.2; plain = sym all.3; said = said_once all.0 xs.0.1 all.4 }

pub extras_again : (message bytes : List ℕ) (extras : List Extra) (told : Told) (rest : List ℕ) → IsBytes bytes → InTurn ExtraAt message bytes extras rest → IsSaid (flat_map said_of extras) told
    → extras_of (length extras) None message bytes ≡ Ok ((flat_map plain_of extras, told), rest)
extras_again message bytes extras told rest these at said = told_again None told message bytes extras rest these at (tells_once extras told said)

pub extras_follow : (message bytes : List ℕ) (extras : List Extra) (rest : List ℕ) → InTurn ExtraAt message bytes extras rest → Follows bytes rest
extras_follow = turns_follow ExtraAt extra_follows
