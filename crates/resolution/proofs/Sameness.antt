-- `Same` goes through a third, and a message is the same as itself.
use Rattle.std.proofs.Common.{List, [], ◌∷◌, refl, ap, ◌∙◌, arith}
use Rattle.dns_core.specs.declared.record.Record.{Record}
use Rattle.dns_core.specs.declared.message.Message.{Message}
use Rattle.resolution.specs.Same.{SameRecord, SameRecords, Same}

SameRecord-trans : (a b c : Record) → SameRecord a b → SameRecord b c → SameRecord a c
SameRecord-trans a b c g h = record { life = omega arith; rest = g.rest ∙ ap (λ (r : Record). record r { ttl = a.ttl }) h.rest }

pub SameRecords-trans : (xs ys zs : List Record) → SameRecords xs ys → SameRecords ys zs → SameRecords xs zs
SameRecords-trans [] [] [] g h = tt
SameRecords-trans [] [] (z ∷ zs) g h = elim h [ ]
SameRecords-trans [] (y ∷ ys) zs g h = elim g [ ]
SameRecords-trans (x ∷ xs) [] zs g h = elim g [ ]
SameRecords-trans (x ∷ xs) (y ∷ ys) [] g h = elim h [ ]
SameRecords-trans (x ∷ xs) (y ∷ ys) (z ∷ zs) (a, g) (b, h) = (SameRecord-trans x y z a b, SameRecords-trans xs ys zs g h)

pub SameRecords-refl : (xs : List Record) → SameRecords xs xs
SameRecords-refl [] = tt
SameRecords-refl (x ∷ xs) = (record { life = omega arith; rest = refl }, SameRecords-refl xs)

pub Same-refl : (a : Message) → Same a a
Same-refl a = record { answers = SameRecords-refl a.answers; authorities = SameRecords-refl a.authorities; additionals = SameRecords-refl a.additionals; rest = refl }

pub Same-trans : (a b c : Message) → Same a b → Same b c → Same a c
Same-trans a b c g h = record {
  answers = SameRecords-trans a.answers b.answers c.answers g.answers h.answers;
  authorities = SameRecords-trans a.authorities b.authorities c.authorities g.authorities h.authorities;
  additionals = SameRecords-trans a.additionals b.additionals c.additionals g.additionals h.additionals;
  rest = g.rest ∙ ap (λ (m : Message). record m { answers = a.answers; authorities = a.authorities; additionals = a.additionals }) h.rest;
}
