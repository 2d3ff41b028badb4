-- The texts of types, classes and response codes.
use Rattle.std.specs.Prelude.{ℕ, ◌==◌, List, [], ◌∷◌, ◌++◌, Option, Some, None, if◌then◌else◌, unwrap_or, codes, decimal}
use Rattle.dns_core.specs.declared.codes.RecordType.{RecordType}
use Rattle.dns_core.specs.declared.codes.DnsClass.{DnsClass}
use Rattle.dns_core.specs.declared.codes.ResponseCode.{ResponseCode}

-- the name that a table gives a number
abbrev pub name_in : List (ℕ × List ℕ) → ℕ → Option (List ℕ)
name_in [] n = None
name_in (e ∷ es) n = if n == e.0 then Some e.1 else name_in es n

-- the name of a number, or its number behind a word
abbrev pub code_text : List (ℕ × List ℕ) → List ℕ → ℕ → List ℕ
code_text names other n = unwrap_or (name_in names n) (other ++ decimal n)

-- the types of records that have names
unfoldable pub type_names : List (ℕ × List ℕ)
type_names =
    (1, codes "A") ∷ (2, codes "NS") ∷ (5, codes "CNAME") ∷ (6, codes "SOA") ∷ (10, codes "NULL") ∷ (12, codes "PTR")
    ∷ (15, codes "MX") ∷ (16, codes "TXT") ∷ (28, codes "AAAA") ∷ (33, codes "SRV") ∷ (41, codes "OPT") ∷ (43, codes "DS")
    ∷ (46, codes "RRSIG") ∷ (47, codes "NSEC") ∷ (48, codes "DNSKEY") ∷ (50, codes "NSEC3") ∷ (51, codes "NSEC3PARAM")
    ∷ (64, codes "SVCB") ∷ (65, codes "HTTPS") ∷ (251, codes "IXFR") ∷ (252, codes "AXFR") ∷ (255, codes "ANY")
    ∷ (257, codes "CAA") ∷ []

-- the classes that have names
unfoldable pub class_names : List (ℕ × List ℕ)
class_names = (1, codes "IN") ∷ (3, codes "CH") ∷ (4, codes "HS") ∷ []

-- the response codes that have names
unfoldable pub code_names : List (ℕ × List ℕ)
code_names =
    (0, codes "NOERROR") ∷ (1, codes "FORMERR") ∷ (2, codes "SERVFAIL") ∷ (3, codes "NXDOMAIN") ∷ (4, codes "NOTIMP")
    ∷ (5, codes "REFUSED") ∷ []

-- a type by its name, or as TYPE and its number (RFC 3597 section 5)
unfoldable pub type_text : RecordType → List ℕ
type_text t = code_text type_names (codes "TYPE") t.code

-- likewise a class
unfoldable pub class_text : DnsClass → List ℕ
class_text c = code_text class_names (codes "CLASS") c.code

-- likewise a response code
unfoldable pub response_code_text : ResponseCode → List ℕ
response_code_text c = code_text code_names (codes "RCODE") c.code
