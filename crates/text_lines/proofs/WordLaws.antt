-- Words that stand for values: each is read exactly where it is spelled so, in bytes that no line
-- is cut at.
use Rattle.std.proofs.Common.{◌≡◌, ℕ, suc, ◌^◌, ◌<◌, ◌≤◌, Bool, true, List, [], ◌∷◌, length, refl, arith, lit<, inl, inr}
use Rattle.std.specs.Prelude.{decimal, All}
use Rattle.std.specs.declared.net.ip_addr.IpAddr.{IpAddr}
use Rattle.std.specs.declared.net.ip_addr.IpAddr.TheVariants.{V4, V6}
use Rattle.std.specs.declared.net.ipv6_addr.Ipv6Addr.{Ipv6Addr}
use Rattle.std.specs.Net.Addr.{ipv6_segments, IsIpv6Addr}
use Rattle.std.specs.Net.Text.{hex_groups_text}
use Rattle.std.proofs.lemmas.Bool.{lt-ltb}
use Rattle.std.proofs.NetLemmas.Alphabet.{IsHexOrColon, All-hex_groups_text}
use Rattle.dns_core.specs.Name.{DomainName}
use Rattle.dns_core.specs.NameText.{text_of as name_text}
use Rattle.text_lines.specs.Pieces.{pieces}
use Rattle.text_lines.specs.Fields.{field, wide_field}
use Rattle.text_lines.specs.Names.{full_name}
use Rattle.text_lines.specs.Texts.{ip_text}
use Rattle.text_lines.specs.Spelling.{spelled, IsName, IsFullName, IsAddress}
use Rattle.text_lines.proofs.PlainLaws.{AllBytes, AllPlain, pieces_again}
use Rattle.text_lines.proofs.NumberLaws.{is_word_byte, decimal_plain, ipv4_plain}
use Rattle.text_lines.proofs.NameLaws.{name_plain}
use Rattle.text_lines.proofs.FieldLaws.{IsSeq, one, IsWithin, number_field, full_name_field}

-- ---- names and numbers

pub full_law : IsSeq (field full_name) (λ n. name_text n ∷ []) IsFullName
full_law = one _ _ _ full_name_field

pub wide_law : IsSeq wide_field (λ n. decimal n ∷ []) (IsWithin 0 4294967295)
wide_law = one _ _ _ (number_field 0 4294967295 (lit< tt))

pub low : (most n : ℕ) → n ≤ most → IsWithin 0 most n
low most n le = (omega arith, le)

-- ---- plain bytes

hex_bytes : (q : ℕ → Bool) → ((c : ℕ) → IsHexOrColon c → q c ≡ true) → (xs : List ℕ) → All IsHexOrColon xs → AllBytes q xs
hex_bytes q byte [] all = refl
hex_bytes q byte (x ∷ xs) all = rw (byte x (all 0 0 (omega arith)), hex_bytes q byte xs (λ k d lt. all (suc k) d (omega arith))) refl

-- its bytes pass a test that digits in base 16 and colons pass
pub ipv6_bytes : (q : ℕ → Bool) → ((c : ℕ) → IsHexOrColon c → q c ≡ true) → (a : Ipv6Addr) → IsIpv6Addr a → AllBytes q (hex_groups_text (ipv6_segments a))
ipv6_bytes q byte a fits = hex_bytes q byte (hex_groups_text (ipv6_segments a)) (All-hex_groups_text (ipv6_segments a) fits.1)

pub ipv6_plain : (a : Ipv6Addr) → IsIpv6Addr a → AllBytes is_word_byte (hex_groups_text (ipv6_segments a))
ipv6_plain = ipv6_bytes is_word_byte plain
  where
    within : (c : ℕ) → 32 < c → c < 127 → is_word_byte c ≡ true
    within c above below = rw (lt-ltb 32 c above, lt-ltb c 127 below) refl

    plain : (c : ℕ) → IsHexOrColon c → is_word_byte c ≡ true
    plain c (inl h) = within c (omega arith) (omega arith)
    plain c (inr h) = within c (omega arith) (omega arith)

pub address_plain : (ip : IpAddr) → IsAddress ip → AllBytes is_word_byte (ip_text ip)
address_plain (V4 a) fits = ipv4_plain a fits
address_plain (V6 a) fits = ipv6_plain a fits

pub named_plain : (n : DomainName) → IsName n → AllBytes is_word_byte (name_text n)
named_plain n fits = name_plain (name_text n) n fits

pub small : (most n : ℕ) → n ≤ most → most < 2 ^ 64 → AllBytes is_word_byte (decimal n)
small most n le wide = decimal_plain n (omega arith)

pub words_again : (ws : List (List ℕ)) → 0 < length ws → AllPlain is_word_byte ws → pieces 32 (spelled ws) ≡ ws
words_again [] lt all = absurd (omega arith)
words_again (w ∷ ws) lt all = pieces_again is_word_byte 32 w ws refl all
