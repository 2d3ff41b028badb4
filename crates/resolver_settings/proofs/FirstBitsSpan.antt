-- The numbers that begin with some bits are those from the lowest to the highest of them.
use Rattle.std.proofs.Common.{◌≡◌, ℕ, ◌+◌, ◌-◌, ◌*◌, ◌/◌, ◌%◌, ◌<◌, ◌≤◌, Bool, true, false, ◌&&◌, ◌^◌, Option, None, Some, SomeIff, unwrap_or, eqb, leb, zero, suc, List, sym, ap, ◌∙◌, refl, subst, arith}
use Rattle.std.specs.Bool.{beq}
use Rattle.std.specs.List.{list_any}
use Rattle.std.specs.declared.net.ip_addr.IpAddr.{IpAddr}
use Rattle.std.specs.declared.net.ip_addr.IpAddr.TheVariants.{V4, V6}
use Rattle.std.specs.Net.Addr.{is_ipv4}
use Rattle.std.proofs.lemmas.Bool.{and_parts, and_from, leb-true, le-leb, eqb-true, eq-eqb}
use Rattle.std.proofs.lemmas.Nat.{div-add-mod', div_below, le-div, mod_below, pow-add, pow_pos, mul-le}
use Rattle.resolver_settings.specs.Net.{Network, width_of, number_of, lowest_of, highest_of, holds, contains, begins_with}

same_test : (a b : Bool) → (a ≡ true → b ≡ true) → (b ≡ true → a ≡ true) → a ≡ b
same_test true b f g = sym (f refl)
same_test false true f g = g refl
same_test false false f g = refl

row_above : (f s : ℕ) → suc f * s ≡ f * s + s
row_above f s = omega arith

begun : (n f s : ℕ) → 0 < s → f * s ≤ n → n ≤ f * s + (s - 1) → n / s ≡ f
begun n f s some from to =
    let least : f ≤ n / s = le-div f n s some from in
    let most : n / s < suc f = div_below n s (suc f) some (omega (arith, row_above f s)) in
    omega arith

within : (n f s : ℕ) → 0 < s → n / s ≡ f → (f * s ≤ n) × (n ≤ f * s + (s - 1))
within n f s some e =
    let row : n / s * s ≡ f * s = ap (λ x. x * s) e in
    let parts : n / s * s + n % s ≡ n = div-add-mod' n s in
    let rest : n % s < s = mod_below n s some in
    (omega arith, omega arith)

ones_of : (front rest whole : ℕ) → 0 < front → 0 < rest → whole ≡ front * rest → (whole - 1) / rest ≡ front - 1
ones_of zero rest whole some any is = omega arith
ones_of (suc f) rest whole some any is =
    let same : (whole - 1) / rest ≡ f = begun (whole - 1) f rest any (omega (arith, row_above f rest, is)) (omega (arith, row_above f rest, is)) in
    omega (arith, same)

-- the last ones are what is left of all ones
pub ones_left : (behind : ℕ) (shifted : Option ℕ) → behind ≤ 128 → SomeIff shifted (128 - behind < 128) ((2 ^ 128 - 1) / 2 ^ (128 - behind)) → unwrap_or shifted 0 ≡ 2 ^ behind - 1
ones_left zero None fits given = refl
ones_left (suc k) None fits given = absurd (given (omega arith))
ones_left behind (Some x) fits given =
    let width : behind + (128 - behind) ≡ 128 = omega arith in
    let front : 0 < 2 ^ behind = pow_pos behind in
    let rest : 0 < 2 ^ (128 - behind) = pow_pos (128 - behind) in
    let split : 2 ^ 128 ≡ 2 ^ behind * 2 ^ (128 - behind) = sym (ap (λ w. 2 ^ w) width) ∙ pow-add 2 behind (128 - behind) in
    given.1 ∙ ones_of (2 ^ behind) (2 ^ (128 - behind)) (2 ^ 128) front rest split

-- the highest number of a network has no more bits than its family
below_width : (w n b : ℕ) → b ≤ w → n < 2 ^ w → n / 2 ^ b * 2 ^ b + (2 ^ b - 1) < 2 ^ w
below_width w n b few fits =
    let width : (w - b) + b ≡ w = omega arith in
    let split : 2 ^ w ≡ 2 ^ (w - b) * 2 ^ b = sym (ap (λ k. 2 ^ k) width) ∙ pow-add 2 (w - b) b in
    let some : 0 < 2 ^ b = pow_pos b in
    let row : n / 2 ^ b < 2 ^ (w - b) = div_below n (2 ^ b) (2 ^ (w - b)) some (subst (λ k. n < k) split fits) in
    let rows : suc (n / 2 ^ b) * 2 ^ b ≤ 2 ^ (w - b) * 2 ^ b = mul-le (suc (n / 2 ^ b)) (2 ^ b) (2 ^ (w - b)) (2 ^ b) row (omega arith) in
    omega (arith, row_above (n / 2 ^ b) (2 ^ b), rows, split, some)

pub fits_below : (addr : IpAddr) (n b : ℕ) → b ≤ width_of addr → n < 2 ^ width_of addr → n / 2 ^ b * 2 ^ b + (2 ^ b - 1) < 2 ^ 128
fits_below (V4 ip) n b few fits =
    let below : n / 2 ^ b * 2 ^ b + (2 ^ b - 1) < 2 ^ 32 = below_width 32 n b few fits in
    omega (arith, below)
fits_below (V6 ip) n b few fits = below_width 128 n b few fits

spanned : (n f s : ℕ) → 0 < s → (leb (f * s) n && leb n (f * s + (s - 1))) ≡ eqb (n / s) f
spanned n f s some =
    same_test _ _
    (λ t. let p = and_parts _ _ t in eq-eqb _ _ (begun n f s some (leb-true _ _ p.0) (leb-true _ _ p.1)))
    (λ t. let p = within n f s some (eqb-true _ _ t) in and_from _ _ (le-leb _ _ p.0) (le-leb _ _ p.1))

pub held_between : (net : Network) (addr : IpAddr) (prefix lowest highest n : ℕ) (four between : Bool) → record { addr = addr; prefix = prefix } ≡ net
    → lowest ≡ lowest_of addr prefix → highest ≡ highest_of addr prefix → beq (is_ipv4 addr) four ≡ true
    → between ≡ (leb lowest n && leb n highest) → between ≡ holds net four n
held_between net addr prefix lowest highest n four between is_net is_lowest is_highest same is =
    rw (← is_net, same, is, is_lowest, is_highest) (spanned n _ (2 ^ (width_of addr - prefix)) (pow_pos _))

held : (a ip : IpAddr) (prefix : ℕ) → holds (record { addr = a; prefix = prefix }) (is_ipv4 ip) (number_of ip) ≡ begins_with a prefix ip
held (V4 a) (V4 ip) prefix = refl
held (V4 a) (V6 ip) prefix = refl
held (V6 a) (V4 ip) prefix = refl
held (V6 a) (V6 ip) prefix = refl

-- a network holds the number of an address of its family exactly where it contains the address
held_as_contained : (net : Network) (ip : IpAddr) → holds net (is_ipv4 ip) (number_of ip) ≡ contains net ip
held_as_contained net ip = held net.addr ip net.prefix

pub contained : (net : Network) (ip : IpAddr) (four : Bool) (n : ℕ) (is_held : Bool) → four ≡ is_ipv4 ip → n ≡ number_of ip → is_held ≡ holds net four n → is_held ≡ contains net ip
contained net ip four n is_held is_four is_n is = is ∙ rw (is_four, is_n) (held_as_contained net ip)

pub any_contained : (nets : List Network) (ip : IpAddr) (four : Bool) (n : ℕ) (is_held : Bool) → four ≡ is_ipv4 ip → n ≡ number_of ip
    → is_held ≡ list_any (λ net. holds net four n) nets → is_held ≡ list_any (λ net. contains net ip) nets
any_contained nets ip four n is_held is_four is_n is =
    is ∙ rw (is_four, is_n) (λ i. list_any (λ net. held_as_contained net ip i) nets)
