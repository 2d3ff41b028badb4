-- What reads later is the same but for TTLs.
use Rattle.recursor_walk.proofs.QueryWords.{◌≡◌, ℕ, List, [], ◌∷◌, Option, Some, None, refl, ap, arith, map, option_map, AllZip, Record, Message, ForwardNsData, NoRecords, lowered_record, lowered_message, lowered_delegation, lowered_denial, SameRecord, SameRecords, Same, SameRecords-refl, SameIfAny, SameReferral, SameReferrals, SameNoRecords, SameNegative, received_negative}

-- ---- itself

record_same : (r : Record) → SameRecord r r
record_same r = record { life = omega arith; rest = refl }

any_same : {X : Type 0} (Alike : X → X → Type 0) → ((x : X) → Alike x x) → (o : Option X) → SameIfAny Alike o o
any_same Alike itself None = tt
any_same Alike itself (Some x) = itself x

referrals_same : (xs : List ForwardNsData) → SameReferrals xs xs
referrals_same [] = tt
referrals_same (x ∷ xs) = (record { ns = record_same x.ns; glue = SameRecords-refl x.glue }, referrals_same xs)

pub negative_same : (n : NoRecords) → SameNoRecords n n
negative_same n = record { soa = any_same SameRecord record_same n.soa; ns = any_same SameReferrals referrals_same n.ns; authorities = SameRecords-refl n.authorities; rest = refl }

-- ---- lowered

lower_record : (n : ℕ) (r : Record) → SameRecord (lowered_record n r) r
lower_record n r = record { life = omega arith; rest = refl }

lower_all : {X : Type 0} (Alike : X → X → Type 0) (f : X → X) → ((x : X) → Alike (f x) x) → (xs : List X) → AllZip Alike (map f xs) xs
lower_all Alike f each [] = tt
lower_all Alike f each (x ∷ xs) = (each x, lower_all Alike f each xs)

lower_any : {X : Type 0} (Alike : X → X → Type 0) (f : X → X) → ((x : X) → Alike (f x) x) → (o : Option X) → SameIfAny Alike (option_map f o) o
lower_any Alike f each None = tt
lower_any Alike f each (Some x) = each x

lower_records : (n : ℕ) (rs : List Record) → SameRecords (map (lowered_record n) rs) rs
lower_records n = lower_all SameRecord (lowered_record n) (lower_record n)

pub lower_message : (n : ℕ) (m : Message) → Same (lowered_message n m) m
lower_message n m = record {
  answers = lower_records n m.answers;
  authorities = lower_records n m.authorities;
  additionals = lower_records n m.additionals;
  rest = refl;
}

lower_referrals : (n : ℕ) (xs : List ForwardNsData) → SameReferrals (map (lowered_delegation n) xs) xs
lower_referrals n = lower_all SameReferral (lowered_delegation n) (λ x. record { ns = lower_record n x.ns; glue = lower_records n x.glue })

pub lower_denial : (n : ℕ) (d : NoRecords) → SameNoRecords (lowered_denial n d) d
lower_denial n d = record {
  soa = lower_any SameRecord (lowered_record n) (lower_record n) d.soa;
  ns = lower_any SameReferrals (map (lowered_delegation n)) (lower_referrals n) d.ns;
  authorities = lower_records n d.authorities;
  rest = refl;
}

-- ---- what is answered for a negative

-- the same but for TTLs, where the negative is
pub data_same : (a b : NoRecords) → SameNoRecords a b → SameNegative (received_negative a) (received_negative b)
data_same a b h = record {
  soa = h.soa;
  authorities = h.authorities;
  rest = data_rest (h.rest);
}
  where
    data_rest : a ≡ record b { soa = a.soa; ns = a.ns; authorities = a.authorities }
        → received_negative a ≡ record (received_negative b) { soa = a.soa; authorities = a.authorities }
    data_rest e = ap (λ (n : NoRecords). record (received_negative n) { soa = a.soa; authorities = a.authorities }) e
