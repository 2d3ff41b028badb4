-- Which words are texts of addresses.
use Rattle.std.proofs.Common.{◌≡◌, ℕ, zero, suc, ◌+◌, ◌-◌, ◌^◌, ◌<◌, ◌≤◌, List, [], ◌∷◌, ◌++◌, length, get_or, replicate, Option, Some, None, Bool, true, false, cond, refl, sym, ap, ◌∙◌, subst, append-nil, length-append, ne_eqb, arith, lit≤, inl, inr}
use Rattle.std.specs.Str.{bytes_eq}
use Rattle.std.specs.declared.net.ip_addr.IpAddr.{IpAddr}
use Rattle.std.specs.declared.net.ip_addr.IpAddr.TheVariants.{V4, V6}
use Rattle.std.specs.declared.net.ipv4_addr.Ipv4Addr.{Ipv4Addr}
use Rattle.std.specs.declared.net.ipv6_addr.Ipv6Addr.{Ipv6Addr}
use Rattle.std.specs.Net.Addr.{ipv4_octets, ipv6_segments, segments_of, IsIpv6Addr}
use Rattle.std.specs.Net.Grammar.{IsDotted, IsGroup, IsGroupsAfter, IsColonHex, IsIpv6Text}
use Rattle.std.specs.Net.Reader.{whole_value, read_ipv6}
use Rattle.std.specs.Net.Text.{hex_groups_text}
use Rattle.std.proofs.Math.Nat.{pow-le-pow_right}
use Rattle.std.proofs.lemmas.Int.Digits.{digits_value-lt}
use Rattle.std.proofs.lemmas.List.{length-replicate}
use Rattle.std.proofs.lemmas.Slice.Eq.{bytes_eq-Decides}
use Rattle.std.proofs.NetLemmas.Ipv6.{read_ipv6_complete, read_ipv6_sound, EndsGroups-nil, IsDotted-not_colon_hex}
use Rattle.std.proofs.NetLemmas.Texts.{AllSegments, IsDotted-ipv4_text, IsColonHex-hex_groups_text}
use Rattle.text_lines.specs.Addresses.{IsIpv6Word, ipv6_of, either_family, ip_of}
use Rattle.text_lines.specs.Numbers.{ipv4_of}
use Rattle.text_lines.specs.Spelling.{IsAddress}
use Rattle.text_lines.specs.Texts.{ip_text}
use Rattle.text_lines.proofs.StepsThatFail.{bind_some, guard_some, some_is}
use Rattle.text_lines.proofs.FieldLaws.{IsField}
use Rattle.text_lines.proofs.NumberLaws.{ipv4_takes, ipv4_again}

-- ---- groups have 16 bits

group_small : (group : List ℕ) (s : ℕ) → IsGroup group s → s < 2 ^ 16
group_small group s h =
    let below = digits_value-lt 16 group h.0.0.1 in
    let most : 16 ^ length group ≤ 16 ^ 4 = pow-le-pow_right (lit≤ tt) h.1 in
    omega (arith, h.0.1)

pairs_small : (a b c d : ℕ) → (a < 256) × (b < 256) × (c < 256) × (d < 256) → AllSegments (segments_of (a ∷ b ∷ c ∷ d ∷ []))
pairs_small a b c d fit zero = omega arith
pairs_small a b c d fit (suc zero) = omega arith
pairs_small a b c d fit (suc (suc k)) = omega arith

dotted_small : (last octets : List ℕ) → IsDotted last octets → AllSegments (segments_of octets)
dotted_small last octets h = subst (λ (o : List ℕ). AllSegments (segments_of o)) (sym h.value) (pairs_small h.a h.b h.c h.d h.fit)

groups_small : (ipv4 : Bool) (lead text segments : List ℕ) → IsGroupsAfter ipv4 lead text segments → AllSegments segments
groups_small ipv4 lead text [] h k = omega arith
groups_small ipv4 lead text (s ∷ segments) (inl h) zero = group_small h.0 s h.3
groups_small ipv4 lead text (s ∷ segments) (inl h) (suc k) = groups_small ipv4 (58 ∷ []) h.1 segments h.4 k
groups_small ipv4 lead text (s ∷ segments) (inr h) k = subst (λ (xs : List ℕ). get_or xs k 0 < 2 ^ 16) (sym h.5) (dotted_small h.0 h.1 h.4 k)

append_small : (xs ys : List ℕ) → AllSegments xs → AllSegments ys → AllSegments (xs ++ ys)
append_small [] ys a b k = b k
append_small (x ∷ xs) ys a b zero = a 0
append_small (x ∷ xs) ys a b (suc k) = append_small xs ys (λ j. a (suc j)) b k

zeros_small : (n : ℕ) → AllSegments (replicate n 0)
zeros_small zero k = omega arith
zeros_small (suc n) zero = omega arith
zeros_small (suc n) (suc k) = zeros_small n k

filled : (n : ℕ) (head tail : List ℕ) → n + length head + length tail ≡ 8 → length (head ++ replicate n 0 ++ tail) ≡ 8
filled n head tail e = omega (arith, length-append (head ++ replicate n 0) tail, length-append head (replicate n 0), length-replicate {A = ℕ} n 0)

colon_hex_fits : (text segments : List ℕ) → IsColonHex text segments → (length segments ≡ 8) × AllSegments segments
colon_hex_fits text segments (inl h) = (h.1, groups_small true [] text segments h.0)
colon_hex_fits text segments (inr e) =
    let n = 8 - length e.head - length e.tail in
    subst (λ (xs : List ℕ). (length xs ≡ 8) × AllSegments xs) (sym e.value) (
      filled n e.head e.tail (let r = e.room in omega arith),
      append_small (e.head ++ replicate n 0) e.tail (append_small e.head (replicate n 0) (groups_small false [] e.head_text e.head e.head_groups) (zeros_small n))
          (groups_small true [] e.tail_text e.tail e.tail_groups),
    )

-- ---- IPv6

whole_ipv6 : (w : List ℕ) (a : Ipv6Addr) → IsIpv6Text w a → whole_value (read_ipv6 w) ≡ Some (ipv6_segments a)
whole_ipv6 w a spelled =
    ap whole_value (ap read_ipv6 (sym (append-nil w)) ∙ read_ipv6_complete w (ipv6_segments a) [] spelled EndsGroups-nil)

no_ipv6_at : (w : List ℕ) (r : Option (List ℕ × List ℕ)) → read_ipv6 w ≡ r → ((a : Ipv6Addr) → ¬ (IsIpv6Text w a)) → whole_value r ≡ None
no_ipv6_at w None e never = refl
no_ipv6_at w (Some (groups, [])) e never =
    let (front, split, spelled) = read_ipv6_sound w groups [] e in
    absurd (never (record { segments = groups }) (subst (λ t. IsColonHex t groups) (sym (split ∙ append-nil front)) spelled))
no_ipv6_at w (Some (groups, c ∷ rest)) e never = rw (ne_eqb (length (c ∷ rest)) 0 (omega arith)) refl

-- a word that is read is the text of what it is read as, or no address
ipv6_read : (w : List ℕ) (a : Ipv6Addr) → IsIpv6Text w a → ipv6_of w ≡ cond (bytes_eq (hex_groups_text (ipv6_segments a)) w) (Some a) None
unfolding ipv6_of
ipv6_read w a spelled = rw (ipv6_of, whole_ipv6 w a spelled) refl

pub ipv6_same : (w : List ℕ) (a : Ipv6Addr) (same : Bool) → IsIpv6Text w a → same ≡ bytes_eq (hex_groups_text (ipv6_segments a)) w → same ≡ true → ipv6_of w ≡ Some a
ipv6_same w a same spelled e is = ipv6_read w a spelled ∙ ap (λ (b : Bool). cond b (Some a) None) (sym e ∙ is)

pub ipv6_other : (w : List ℕ) (a : Ipv6Addr) (same : Bool) → IsIpv6Text w a → same ≡ bytes_eq (hex_groups_text (ipv6_segments a)) w → same ≡ false → ipv6_of w ≡ None
ipv6_other w a same spelled e is = ipv6_read w a spelled ∙ ap (λ (b : Bool). cond b (Some a) None) (sym e ∙ is)

pub ipv6_unread : (w : List ℕ) → ((a : Ipv6Addr) → ¬ (IsIpv6Text w a)) → ipv6_of w ≡ None
unfolding ipv6_of
ipv6_unread w never = rw (ipv6_of, no_ipv6_at w (read_ipv6 w) refl never) refl

spelled_by : (w : List ℕ) (a : Ipv6Addr) → IsIpv6Addr a → w ≡ hex_groups_text (ipv6_segments a) → IsIpv6Text w a
spelled_by w a fits e = subst (λ t. IsIpv6Text t a) (sym e) (IsColonHex-hex_groups_text (ipv6_segments a) fits.0 fits.1)

whole_spelled : (w : List ℕ) (r : Option (List ℕ × List ℕ)) → read_ipv6 w ≡ r → (groups : List ℕ) → whole_value r ≡ Some groups → IsColonHex w groups
whole_spelled w None e groups is = absurd cc
whole_spelled w (Some (found, [])) e groups is =
    let (front, split, spelled) = read_ipv6_sound w found [] e in
    subst (IsColonHex w) (some_is found groups is) (subst (λ t. IsColonHex t found) (sym (split ∙ append-nil front)) spelled)
whole_spelled w (Some (found, c ∷ rest)) e groups is =
    absurd (let none : whole_value (Some (found, c ∷ rest)) ≡ None = rw (ne_eqb (length (c ∷ rest)) 0 (omega arith)) refl in let both : None ≡ Some groups = sym none ∙ is in cc)

abbrev made : List ℕ → Ipv6Addr
made groups = record { segments = groups }

pub ipv6_takes : (w : List ℕ) (a : Ipv6Addr) → ipv6_of w ≡ Some a → (w ≡ hex_groups_text (ipv6_segments a)) × IsIpv6Addr a
unfolding ipv6_of
ipv6_takes w a e =
    let b = bind_some (whole_value (read_ipv6 w)) (λ groups. cond (bytes_eq (hex_groups_text groups) w) (Some (made groups)) None) a e in
    let g = guard_some (bytes_eq (hex_groups_text b.0) w) (Some (made b.0)) a b.2 in
    let same : hex_groups_text b.0 ≡ w = (bytes_eq-Decides _ _).0 g.0 in
    subst (λ (x : Ipv6Addr). (w ≡ hex_groups_text (ipv6_segments x)) × IsIpv6Addr x) (some_is (made b.0) a g.1) (sym same, colon_hex_fits w b.0 (whole_spelled w (read_ipv6 w) refl b.0 b.1))

pub ipv6_again : (a : Ipv6Addr) → IsIpv6Addr a → ipv6_of (hex_groups_text (ipv6_segments a)) ≡ Some a
ipv6_again a fits =
    let text = hex_groups_text (ipv6_segments a) in
    ipv6_read text a (spelled_by text a fits refl) ∙ ap (λ (b : Bool). cond b (Some a) None) ((bytes_eq-Decides text text).1 refl)

pub ipv6_field : IsField ipv6_of (λ a. hex_groups_text (ipv6_segments a)) IsIpv6Addr
ipv6_field = record { takes = ipv6_takes; again = ipv6_again }

-- what a word is read as, where no memory is wanted
pub is_word : (w : List ℕ) (a : Ipv6Addr) → ipv6_of w ≡ Some a → IsIpv6Addr a × (w ≡ hex_groups_text (ipv6_segments a))
is_word w a e = let t = ipv6_takes w a e in (t.1, t.0)

pub is_no_word : (w : List ℕ) → ipv6_of w ≡ None → IsIpv6Word w → ⊥
is_no_word w e h = let again : ipv6_of w ≡ Some h.0 = ap ipv6_of h.2 ∙ ipv6_again h.0 h.1 in let both : None ≡ Some h.0 = sym e ∙ again in cc

-- ---- either family

not_ipv4 : (a : Ipv6Addr) → IsIpv6Addr a → (r : Option Ipv4Addr) → ipv4_of (hex_groups_text (ipv6_segments a)) ≡ r → r ≡ None
not_ipv4 a fits None e = refl
not_ipv4 a fits (Some b) e =
    let text = hex_groups_text (ipv6_segments a) in
    let t = ipv4_takes text b e in
    let dotted : IsDotted text (ipv4_octets b) = subst (λ w. IsDotted w (ipv4_octets b)) (sym t.0) (IsDotted-ipv4_text (ipv4_octets b) t.1.0 t.1.1) in
    absurd (IsDotted-not_colon_hex text (ipv4_octets b) (ipv6_segments a) dotted (IsColonHex-hex_groups_text (ipv6_segments a) fits.0 fits.1))

abbrev Spells : List ℕ → IpAddr → Type 0
Spells w x = (w ≡ ip_text x) × IsAddress x

ip_takes : (w : List ℕ) (r : Option Ipv4Addr) → ipv4_of w ≡ r → (x : IpAddr) → either_family r (ipv6_of w) ≡ Some x → Spells w x
ip_takes w (Some a) is x e = subst (Spells w) (some_is (V4 a) x e) (ipv4_takes w a is)
ip_takes w None is x e =
    let b = bind_some (ipv6_of w) (λ a. Some (V6 a)) x e in
    subst (Spells w) (some_is (V6 b.0) x b.2) (ipv6_takes w b.0 b.1)

ip_again : (x : IpAddr) → IsAddress x → ip_of (ip_text x) ≡ Some x
ip_again (V4 a) fits = rw (ipv4_again a fits) refl
ip_again (V6 a) fits = rw (not_ipv4 a fits (ipv4_of (hex_groups_text (ipv6_segments a))) refl, ipv6_again a fits) refl

pub ip_field : IsField ip_of ip_text IsAddress
ip_field = record { takes = λ w x e. ip_takes w (ipv4_of w) refl x e; again = ip_again }
