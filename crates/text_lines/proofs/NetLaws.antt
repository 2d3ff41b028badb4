-- Networks: what a word spells is read again, and what is read is spelled so.
use Rattle.std.proofs.Common.{◌≡◌, ℕ, ◌^◌, ◌<◌, ◌≤◌, Bool, true, false, ◌||◌, eqb, ltb, leb, List, [], ◌∷◌, map, Some, None, refl, sym, ap, subst, ◌∙◌, arith, lit<, inl, inr}
use Rattle.std.specs.Prelude.{codes, decimal}
use Rattle.std.specs.Char.{is_ascii_digit}
use Rattle.std.specs.Str.{bytes_eq}
use Rattle.std.specs.List.{AllByRecursion}
use Rattle.std.proofs.lemmas.Bool.{and_parts, cases_Bool, eqb-true, leb-true, ltb-true, lt-ltb}
use Rattle.std.proofs.NetLemmas.Alphabet.{IsHexOrColon}
use Rattle.std.specs.declared.net.ip_addr.IpAddr.{IpAddr}
use Rattle.std.specs.declared.net.ip_addr.IpAddr.TheVariants.{V4, V6}
use Rattle.resolver_settings.specs.Net.{Network, width_of}
use Rattle.text_lines.specs.Addresses.{ip_of}
use Rattle.text_lines.specs.Networks.{prefix_of, net_from, net_of, each_net, nets_of}
use Rattle.text_lines.specs.Numbers.{◌>>=◌, number_of}
use Rattle.text_lines.specs.Pieces.{pieces}
use Rattle.text_lines.specs.Spelling.{net_text, nets_text, IsAddress, IsNet}
use Rattle.text_lines.specs.Texts.{ip_text}
use Rattle.text_lines.proofs.AddressLaws.{ip_field}
use Rattle.text_lines.proofs.StepsThatFail.{bind_some, some_is, chosen}
use Rattle.text_lines.proofs.TextIsCut.{split_cons}
use Rattle.text_lines.proofs.FieldLaws.{IsField, bytes_same}
use Rattle.text_lines.proofs.NumberLaws.{is_word_byte, number_takes, number_again, decimal_bytes, decimal_plain, ipv4_bytes}
use Rattle.text_lines.proofs.PlainLaws.{AllBytes, AllPlain, pieces_again, pieces_take, weaker, append_plain, joined_plain}
use Rattle.text_lines.proofs.WordLaws.{address_plain, ipv6_bytes}

-- ---- bytes

-- what stands in an address: above the slash, or a dot
abbrev is_address_byte : ℕ → Bool
is_address_byte b = ltb 47 b || eqb b 46

-- what stands in a network: above the comma
abbrev is_net_byte : ℕ → Bool
is_net_byte b = ltb 44 b

above : (c : ℕ) → 47 < c → is_address_byte c ≡ true
above c lt = rw (lt-ltb 47 c lt) refl

digit_above : (c : ℕ) → is_ascii_digit c ≡ true → is_address_byte c ≡ true
digit_above c e =
    let p = and_parts (leb 48 c) (leb c 57) e in
    let low : 48 ≤ c = leb-true 48 c p.0 in
    above c (omega arith)

hex_above : (c : ℕ) → IsHexOrColon c → is_address_byte c ≡ true
hex_above c (inl h) = above c (omega arith)
hex_above c (inr h) = above c (omega arith)

address_bytes : (ip : IpAddr) → IsAddress ip → AllBytes is_address_byte (ip_text ip)
address_bytes (V4 a) fits = ipv4_bytes is_address_byte digit_above refl a fits
address_bytes (V6 a) fits = ipv6_bytes is_address_byte hex_above a fits

wide : (ip : IpAddr) → width_of ip < 2 ^ 64
wide (V4 a) = lit< tt
wide (V6 a) = lit< tt

narrow : (n : Network) → IsNet n → n.prefix < 2 ^ 64
narrow n fits = let s = fits.short in let w = wide n.addr in omega arith

in_net : (c : ℕ) → is_address_byte c ≡ true → is_net_byte c ≡ true
in_net c e = elim (cases_Bool (ltb 47 c)) [
  | inl h ↦ let lt : 47 < c = ltb-true 47 c h in lt-ltb 44 c (omega arith)
  | inr h ↦ let dot : eqb c 46 ≡ true = rw h at e in let is : c ≡ 46 = eqb-true c 46 dot in rw is refl
]

net_bytes : (n : Network) → IsNet n → AllBytes is_net_byte (net_text n)
net_bytes n fits =
    append_plain is_net_byte (ip_text n.addr) (47 ∷ decimal n.prefix)
    (weaker is_address_byte is_net_byte (ip_text n.addr) in_net (address_bytes n.addr fits.address))
    (decimal_bytes is_net_byte (λ c e. in_net c (digit_above c e)) n.prefix (narrow n fits))

net_plain : (n : Network) → IsNet n → AllBytes is_word_byte (net_text n)
net_plain n fits = append_plain is_word_byte (ip_text n.addr) (47 ∷ decimal n.prefix) (address_plain n.addr fits.address) (decimal_plain n.prefix (narrow n fits))

-- ---- one network

abbrev net_words : Network → List (List ℕ)
net_words n = ip_text n.addr ∷ decimal n.prefix ∷ []

abbrev made : IpAddr → ℕ → Network
made ip n = record { addr = ip; prefix = n }

same_two : (a b c d : List ℕ) → a ≡ c → b ≡ d → (a ∷ b ∷ []) ≡ (c ∷ d ∷ [])
same_two a b c d p q = cc

from_takes : (ws : List (List ℕ)) (n : Network) → net_from ws ≡ Some n → (ws ≡ net_words n) × IsNet n
from_takes [] n e = absurd cc
from_takes (a ∷ []) n e = absurd cc
from_takes (a ∷ p ∷ []) n e =
    let b = bind_some (ip_of a) (λ ip. prefix_of ip p) n e in
    let c = bind_some (number_of (width_of b.0) p) (λ k. Some (made b.0 k)) n b.2 in
    let t = ip_field.takes a b.0 b.1 in
    let u = number_takes (width_of b.0) p c.0 (wide b.0) c.1 in
    subst (λ (m : Network). (a ∷ p ∷ [] ≡ net_words m) × IsNet m) (some_is (made b.0 c.0) n c.2)
    (same_two a p _ _ t.0 u.0, record { address = t.1; short = u.1 })
from_takes (a ∷ p ∷ q ∷ rest) n e = absurd cc

net_takes : (w : List ℕ) (n : Network) → net_of w ≡ Some n → (w ≡ net_text n) × IsNet n
net_takes w n e = let t = from_takes (pieces 47 w) n e in (pieces_take 47 w (net_words n) t.0, t.1)

net_again : (n : Network) → IsNet n → net_of (net_text n) ≡ Some n
net_again n fits =
    let cut : pieces 47 (net_text n) ≡ net_words n =
    pieces_again is_address_byte 47 (ip_text n.addr) (decimal n.prefix ∷ []) refl (address_bytes n.addr fits.address, (decimal_bytes is_address_byte digit_above n.prefix (narrow n fits), tt)) in
    ap net_from cut ∙ rw (ip_field.again n.addr fits.address, number_again (width_of n.addr) n.prefix (wide n.addr) fits.short) refl

-- ---- lists

abbrev Spells : List (List ℕ) → List Network → Type 0
Spells ws ns = (ws ≡ map net_text ns) × AllByRecursion IsNet ns

each_takes : (ws : List (List ℕ)) (ns : List Network) → each_net ws ≡ Some ns → Spells ws ns
each_takes [] ns e = subst (Spells []) (some_is [] ns e) (refl, tt)
each_takes (w ∷ ws) ns e =
    let b = bind_some (net_of w) (λ n. each_net ws >>= λ ms. Some (n ∷ ms)) ns e in
    let c = bind_some (each_net ws) (λ ms. Some (b.0 ∷ ms)) ns b.2 in
    let t = net_takes w b.0 b.1 in
    let r = each_takes ws c.0 c.1 in
    subst (Spells (w ∷ ws)) (some_is (b.0 ∷ c.0) ns c.2) (ap (λ (v : List ℕ). v ∷ ws) t.0 ∙ ap (λ (l : List (List ℕ)). net_text b.0 ∷ l) r.0, (t.1, r.1))

each_again : (ns : List Network) → AllByRecursion IsNet ns → each_net (map net_text ns) ≡ Some ns
each_again [] all = refl
each_again (n ∷ ns) all = rw (net_again n all.0, each_again ns all.1) refl

each_bytes : (ns : List Network) → AllByRecursion IsNet ns → AllPlain is_net_byte (map net_text ns)
each_bytes [] all = tt
each_bytes (n ∷ ns) all = (net_bytes n all.0, each_bytes ns all.1)

each_plain : (ns : List Network) → AllByRecursion IsNet ns → AllPlain is_word_byte (map net_text ns)
each_plain [] all = tt
each_plain (n ∷ ns) all = (net_plain n all.0, each_plain ns all.1)

joined : (w : List ℕ) (ns : List Network) → pieces 44 w ≡ map net_text ns → w ≡ nets_text ns
joined w [] e = let c = split_cons (λ b. eqb b 44) w in absurd (let both : [] ≡ c.0 ∷ c.1 = sym e ∙ c.2 in cc)
joined w (n ∷ ns) e = pieces_take 44 w (map net_text (n ∷ ns)) e

nets_take : (w : List ℕ) (ns : List Network) → nets_of w ≡ Some ns → (w ≡ nets_text ns) × AllByRecursion IsNet ns
nets_take w ns e = elim (chosen (bytes_eq w (codes "-")) (Some []) (each_net (pieces 44 w)) (Some ns) e) [
  | inl h ↦ subst (λ (l : List Network). (w ≡ nets_text l) × AllByRecursion IsNet l) (some_is [] ns h.1) (bytes_same w (codes "-") h.0, tt)
  | inr h ↦ let t = each_takes (pieces 44 w) ns h.1 in (joined w ns t.0, t.1)
]

-- a network is no dash
no_dash : (n : Network) → IsNet n → net_text n ≡ codes "-" → ⊥
no_dash n fits e = let both : None ≡ Some n = sym (ap net_of e) ∙ net_again n fits in cc

first_is : (v w : List ℕ) (vs ws : List (List ℕ)) → v ∷ vs ≡ w ∷ ws → v ≡ w
first_is v w vs ws e = cc

nets_again : (ns : List Network) → AllByRecursion IsNet ns → nets_of (nets_text ns) ≡ Some ns
nets_again [] all = refl
nets_again (n ∷ ns) all =
    let text = nets_text (n ∷ ns) in
    let cut : pieces 44 text ≡ map net_text (n ∷ ns) = pieces_again is_net_byte 44 (net_text n) (map net_text ns) refl (each_bytes (n ∷ ns) all) in
    let other : bytes_eq text (codes "-") ≡ false = elim (cases_Bool (bytes_eq text (codes "-"))) [
      | inl dash ↦ absurd (no_dash n all.0 (first_is (net_text n) (codes "-") (map net_text ns) [] (sym cut ∙ ap (pieces 44) (bytes_same text (codes "-") dash))))
      | inr other ↦ other
    ] in
    rw other (ap each_net cut ∙ each_again (n ∷ ns) all)

pub nets_are : IsField nets_of nets_text (λ ns. AllByRecursion IsNet ns)
nets_are = record { takes = nets_take; again = nets_again }

pub nets_plain : (ns : List Network) → AllByRecursion IsNet ns → AllBytes is_word_byte (nets_text ns)
nets_plain [] all = refl
nets_plain (n ∷ ns) all = joined_plain is_word_byte 44 (map net_text (n ∷ ns)) refl (each_plain (n ∷ ns) all)
