-- Of which class a message is that a server of the zone tells: an answer or a denial.
use Rattle.std.proofs.Common.{◌≡◌, ℕ, Bool, true, false, cond, List, [], ◌∷◌, Option, Some, None, inl, inr, refl, ap, ◌∙◌}
use Rattle.std.specs.Prelude.{◌==◌, ◌||◌, not, find, if◌then◌else◌}
use Rattle.std.specs.declared.net.IpAddr.{IpAddr}
use Rattle.std.proofs.lemmas.Bool.Decides.{Decides-eqb}
use Rattle.dns_core.specs.Classifying.{no_records}
use Rattle.dns_core.specs.declared.message.Query.{Query}
use Rattle.dns_core.specs.declared.message.Message.{Message}
use Rattle.dns_core.specs.declared.record.Record.{Record}
use Rattle.resolution.specs.Records.{records}
use Rattle.resolution.specs.Class.{has_no_data_for, is_foreign, class_of_message}
use Rattle.resolution.specs.declared.class.Class.{Class}
use Rattle.resolution.specs.declared.class.Class.TheVariants.{Code, Truncated, Negative, Foreign, Positive}
use Rattle.resolution.proofs.ElementsFiltered.{Has}
use Rattle.zone_rules.specs.declared.world.Zone.{Zone}
use Rattle.zone_rules.specs.declared.world.World.{World}
use Rattle.zone_worlds.specs.Telling.{zone_asked, Replies, Tells}
use Rattle.zone_worlds.specs.Telling.IsByAlias.{is_by_alias}
use Rattle.zone_worlds.specs.Telling.Replies.{denies, by_alias, gives, lacks}
use Rattle.zone_worlds.specs.Telling.Tells.{refuses, refers, answers}

-- The code is none but NOERROR and NXDOMAIN, and nothing is cut off.
pub record IsWhole (m : Message) : Type 0 where
  pub code : (m.response_code.code == 0 || m.response_code.code == 3) ≡ true
  pub uncut : m.truncation ≡ false

replies_whole : (w : World) (z : Zone) (q : Query) (m : Message) → Replies w z q m → IsWhole m
replies_whole w z q m (denies e) = record { code = refl; uncut = refl }
replies_whole w z q m (by_alias e a (is_by_alias b)) = record { code = refl; uncut = refl }
replies_whole w z q m (gives e a o) = record { code = refl; uncut = refl }
replies_whole w z q m (lacks e a o) = record { code = refl; uncut = refl }

-- what is told by an address that serves a zone at or above the name
pub told_whole : (w : World) (ip : IpAddr) (q : Query) (m : Message) (z : Zone) → zone_asked w ip q ≡ Some z → Tells w ip q m → IsWhole m
told_whole w ip q m z e (refuses f) = cc
told_whole w ip q m z e (refers f g) = record { code = refl; uncut = refl }
told_whole w ip q m z e (answers {z = y} {m = n} f g r) = replies_whole w y q n r

none_found : {X : Type 0} (p : X → Bool) (xs : List X) → ((x : X) → Has xs x → p x ≡ false) → find p xs ≡ None
none_found p [] each = refl
none_found {X} p (x ∷ xs) each = ap (λ (b : Bool). cond b (Some x) (find p xs)) (each x (inl refl)) ∙ none_found p xs (λ y h. each y (inr h))

equal : (a b : ℕ) → a ≡ b → not (a == b) ≡ false
equal a b e = ap not ((Decides-eqb a b).1 e)

-- the class, by what is tested of it
abbrev class_by : Message → Bool → Bool → Bool → Option Record → Class
class_by m fine cut none foreign = if not fine then Code m.response_code else (
    if cut then Truncated else (
    if none then Negative (no_records m) else
    elim foreign [ Some r ↦ Foreign r | None ↦ Positive m ]))

module _ (m : Message) (q : Query) (whole : IsWhole m) where
  tested : class_of_message m q ≡ class_by m true false (has_no_data_for q m) (find (is_foreign q) (records m))
  tested = ap (λ (b : Bool). class_by m b m.truncation (has_no_data_for q m) (find (is_foreign q) (records m))) whole.code
      ∙ ap (λ (b : Bool). class_by m true b (has_no_data_for q m) (find (is_foreign q) (records m))) whole.uncut

  pub is_negative : has_no_data_for q m ≡ true → class_of_message m q ≡ Negative (no_records m)
  is_negative e = tested ∙ ap (λ (b : Bool). class_by m true false b (find (is_foreign q) (records m))) e

  pub is_positive : ((r : Record) → Has (records m) r → r.dns_class.code ≡ q.query_class.code) → has_no_data_for q m ≡ false → class_of_message m q ≡ Positive m
  is_positive each e = tested ∙ ap (λ (b : Bool). class_by m true false b (find (is_foreign q) (records m))) e
      ∙ ap (λ (o : Option Record). class_by m true false false o) (none_found (is_foreign q) (records m) (λ r h. equal r.dns_class.code q.query_class.code (each r h)))

-- It is an answer or a denial.
pub data IsResponse (m : Message) (q : Query) : Type 0 where
  positive : has_no_data_for q m ≡ false → class_of_message m q ≡ Positive m → IsResponse m q
  negative : has_no_data_for q m ≡ true → class_of_message m q ≡ Negative (no_records m) → IsResponse m q

pub is_response : (m : Message) (q : Query) → IsWhole m → ((r : Record) → Has (records m) r → r.dns_class.code ≡ q.query_class.code) → IsResponse m q
is_response m q whole each = by (has_no_data_for q m) refl
  where
    by : (b : Bool) → has_no_data_for q m ≡ b → IsResponse m q
    by true e = negative e (is_negative m q whole e)
    by false e = positive e (is_positive m q whole each e)
