-- A word spells one address at most.
use Rattle.std.proofs.Common.{◌≡◌, ℕ, true, List, sym, ◌∙◌, true≢false}
use Rattle.std.specs.declared.net.ip_addr.IpAddr.{IpAddr}
use Rattle.std.specs.declared.net.ip_addr.IpAddr.TheVariants.{V4, V6}
use Rattle.std.specs.Net.Addr.{is_ipv6}
use Rattle.std.specs.Net.Grammar.{IsIpText}
use Rattle.std.proofs.NetLemmas.Theorems.{IsIpText_unique}
use Rattle.resolver_settings.specs.AddressText.{has_dot, IsAddressText}

pub address_is_ip : (word : List ℕ) (a : IpAddr) → IsAddressText word a → IsIpText word a
address_is_ip word (V4 a) spelled = spelled
address_is_ip word (V6 a) spelled = spelled.0

pub one_address : (word : List ℕ) (a b : IpAddr) → IsAddressText word a → IsAddressText word b → a ≡ b
one_address word a b h k = IsIpText_unique word a b (address_is_ip word a h) (address_is_ip word b k)

-- a word of IPv6 with a dot spells no address
pub none_with_a_dot : (word : List ℕ) (a : IpAddr) → IsIpText word a → is_ipv6 a ≡ true → has_dot word ≡ true → (b : IpAddr) → ¬ (IsAddressText word b)
none_with_a_dot word (V4 a) spelled six dot b h = absurd (true≢false (sym six))
none_with_a_dot word (V6 a) spelled six dot (V6 b) h = true≢false (sym dot ∙ h.1)
none_with_a_dot word (V6 a) spelled six dot (V4 b) h = other (IsIpText_unique word (V6 a) (V4 b) spelled h)
  where
    other : V6 a ≡ V4 b → ⊥
    other e = absurd cc
