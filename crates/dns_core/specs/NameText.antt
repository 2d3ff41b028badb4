-- Names as text.
use Rattle.std.specs.Prelude.{◌≡◌, ℕ, ◌+◌, ◌-◌, Bool, true, false, not, ◌&&◌, ◌||◌, ◌==◌, nat_lt, List, [], ◌∷◌, ◌++◌, length, take, drop, if◌then◌else◌, Option, Some, None, Result, Ok, Err}
use Rattle.std.specs.List.{list_all}
use Rattle.std.specs.Char.{is_ascii_alphanumeric}
use Rattle.dns_core.specs.Name.{DomainName}
use Rattle.dns_core.specs.declared.name_text.NameError.{NameError}
use Rattle.dns_core.specs.declared.name_text.NameError.TheVariants.{EmptyLabel, BadByte, LongLabel, LongName, NoMemory}

-- the pieces of a text between its dots, the first of them begun
abbrev pub pieces_from : List ℕ → List ℕ → List (List ℕ)
pieces_from begun [] = begun ∷ []
pieces_from begun (b ∷ bs) = if b == 46 then begun ∷ pieces_from [] bs else pieces_from (begun ++ b ∷ []) bs

abbrev pub pieces : List ℕ → List (List ℕ)
pieces text = pieces_from [] text

abbrev pub is_allowed : Bool → ℕ → Bool
is_allowed strict b = if strict then is_ascii_alphanumeric b || b == 45 || b == 95 || b == 42 else nat_lt 32 b && nat_lt b 127 && not (b == 92) && not (b == 46)

abbrev pub label_fault : Bool → List ℕ → Option NameError
label_fault strict label =
    if length label == 0 then Some EmptyLabel else (
    if not (list_all (is_allowed strict) label) then Some BadByte else (
    if nat_lt 63 (length label) then Some LongLabel else None))

abbrev pub first_fault : Bool → List (List ℕ) → Option NameError
first_fault strict [] = None
first_fault strict (l ∷ ls) = elim (label_fault strict l) [ Some e ↦ Some e | None ↦ first_fault strict ls ]

-- each label with its length, and the root
abbrev pub wire_length : List (List ℕ) → ℕ
wire_length [] = 1
wire_length (l ∷ ls) = length l + 1 + wire_length ls

-- A last piece that is empty makes the name fully qualified.
abbrev pub is_dotted : List (List ℕ) → Bool
is_dotted ps = nat_lt 1 (length ps) && list_all (λ p. length p == 0) (drop (length ps - 1) ps)

abbrev pub labels_of : List (List ℕ) → List (List ℕ)
labels_of ps = if is_dotted ps then take (length ps - 1) ps else ps

abbrev pub checked : Bool → List (List ℕ) → Bool → Result DomainName NameError
checked strict labels fqdn = elim (first_fault strict labels) [ Some e ↦ Err e | None ↦ (if nat_lt 255 (wire_length labels) then Err LongName else Ok (record { labels = labels; fqdn = fqdn })) ]

abbrev pub is_dot : List ℕ → Bool
is_dot [] = false
is_dot (b ∷ []) = b == 46
is_dot (b ∷ c ∷ bs) = false

-- what a text says
abbrev pub name_of : Bool → List ℕ → Result DomainName NameError
name_of strict text = if is_dot text then Ok (record { labels = []; fqdn = true }) else checked strict (labels_of (pieces text)) (is_dotted (pieces text))

-- it is what reading gives, unless memory ran out
abbrev pub Gives : Result DomainName NameError → Result DomainName NameError → Type 0
Gives (Ok n) read = read ≡ Ok n
Gives (Err NoMemory) read = Unit {0}
Gives (Err e) read = read ≡ Err e

-- the labels with a dot between any two
abbrev pub dotted : List (List ℕ) → List ℕ
dotted [] = []
dotted (l ∷ []) = l
dotted (l ∷ m ∷ ls) = l ++ 46 ∷ dotted (m ∷ ls)

-- what stands before the label at a place
abbrev pub separator : ℕ → List ℕ
separator place = if place == 0 then [] else 46 ∷ []

-- its text
abbrev pub text_of : DomainName → List ℕ
text_of n = dotted n.labels ++ (if n.fqdn then 46 ∷ [] else [])
