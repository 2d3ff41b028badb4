-- The types, classes and response codes that words name.
use Rattle.std.specs.Prelude.{ℕ, ◌&&◌, nat_lt, List, [], ◌∷◌, length, take, drop, Option, Some, None, is_some, if◌then◌else◌, codes}
use Rattle.std.specs.Str.{bytes_eq}
use Rattle.dns_core.specs.declared.codes.RecordType.{RecordType}
use Rattle.dns_core.specs.declared.codes.DnsClass.{DnsClass}
use Rattle.dns_core.specs.declared.codes.ResponseCode.{ResponseCode}
use Rattle.text_lines.specs.Numbers.{◌>>=◌, number_of}
use Rattle.dns_core.specs.CodeTexts.{name_in, type_names, class_names, code_names}

-- the number that a table names so
abbrev pub code_in : List (ℕ × List ℕ) → List ℕ → Option ℕ
code_in [] w = None
code_in (e ∷ es) w = if bytes_eq w e.1 then Some e.0 else code_in es w

-- the number behind a word
abbrev pub number_behind : List ℕ → List ℕ → Option ℕ
number_behind other w = if nat_lt (length other) (length w) && bytes_eq (take (length other) w) other then number_of 65535 (drop (length other) w) else None

-- the first value, or else the second
abbrev pub first_of : Option ℕ → Option ℕ → Option ℕ
first_of (Some n) r = Some n
first_of None r = r

-- a number that a table names, or another one behind a word
abbrev pub code_of : List (ℕ × List ℕ) → List ℕ → List ℕ → Option ℕ
code_of names other w = first_of (code_in names w) (number_behind other w >>= λ n. if is_some (name_in names n) then None else Some n)

-- a type, by its name or as TYPE and its number
unfoldable pub type_of : List ℕ → Option RecordType
type_of w = code_of type_names (codes "TYPE") w >>= λ n. Some (record { code = n })

-- a class, by its name or as CLASS and its number
unfoldable pub class_of : List ℕ → Option DnsClass
class_of w = code_of class_names (codes "CLASS") w >>= λ n. Some (record { code = n })

-- a response code, by its name or as RCODE and its number
unfoldable pub response_code_of : List ℕ → Option ResponseCode
response_code_of w = code_of code_names (codes "RCODE") w >>= λ n. Some (record { code = n })

-- the class that every question has
abbrev pub class_in : DnsClass
class_in = record { code = 1 }
