-- Names in a message (RFC 1035 sections 3.1 and 4.1.4).
use Rattle.std.specs.Prelude.{◌≡◌, ◌<◌, ◌≤◌, ◌-◌, ◌+◌, ◌/◌, ◌%◌, ◌++◌, ℕ, List, [], ◌∷◌, length, drop, true}
use Rattle.std.specs.List.{AllByRecursion}
use Rattle.dns_core.specs.Labels.{IsLabel}
use Rattle.dns_core.specs.Name.{DomainName}
use Rattle.dns_core.specs.NameText.{wire_length}

-- labels one after the other, each as its length and its bytes
abbrev pub run : List (List ℕ) → List ℕ
run [] = []
run (label ∷ labels) = (length label ∷ label) ++ run labels

-- two bytes that lead to a place of the message: two bits that are set, and the place
abbrev pub pointer : ℕ → List ℕ
pointer to = (192 + to / 256) ∷ (to % 256) ∷ []

-- The bytes, a rest of the message, begin with a name of these labels, and `rest` follows it there: the labels and the root;
-- or the first labels and a pointer to a name of the others, which begins before these bytes do.
pub data NameAt (message : List ℕ) : List ℕ → List (List ℕ) → List ℕ → Type 0 where
  whole : {bytes : List ℕ} {labels : List (List ℕ)} {rest : List ℕ}
      → AllByRecursion IsLabel labels → bytes ≡ run labels ++ 0 ∷ rest → NameAt message bytes labels rest
  led : {bytes : List ℕ} (first : List (List ℕ)) {others : List (List ℕ)} {rest after : List ℕ} {to : ℕ}
      → AllByRecursion IsLabel first → bytes ≡ run first ++ (pointer to ++ rest) → to < 16384 → to < length message - length bytes
      → NameAt message (drop to message) others after → NameAt message bytes (first ++ others) rest

-- a name of at most 255 bytes, and what follows it
pub record IsName (message bytes : List ℕ) (name : DomainName) (rest : List ℕ) : Type 0 where
  pub named : NameAt message bytes name.labels rest
  pub absolute : name.fqdn ≡ true
  pub short : wire_length name.labels ≤ 255

-- a name written out
abbrev pub written : List (List ℕ) → List ℕ
written labels = run labels ++ 0 ∷ []
