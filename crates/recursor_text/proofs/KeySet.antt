-- A set of the keys of a list, where an item is added at its end.
use Rattle.std.proofs.Common.{◌≡◌, Bool, true, false, ◌||◌, cond, refl, sym, ap, ◌∙◌}
use Rattle.std.specs.BTreeMap.{is_at}
use Rattle.std.specs.declared.net.ip_addr.IpAddr.{IpAddr}
use Rattle.std.specs.contracts.net.ip_addr.IpAddrPartialEq.TheImpl as address
use Rattle.std.specs.contracts.net.ip_addr.IpAddrOrd.TheImpl as order
use Rattle.std.specs.contracts.net.ip_addr.IpAddrOrd.TheImpl.Laws as laws
use Rattle.dns_core.specs.Name.{DomainName, same_names, names_cmp}
use Rattle.dns_core.specs.NameLaws.{names_tie}

as_or : (b x : Bool) → cond b true x ≡ (b || x)
as_or true x = refl
as_or false x = refl

pub name_added : (apex n : DomainName) (was now : Bool) → now ≡ cond (is_at (names_cmp apex) n) true was → now ≡ (same_names apex n || was)
name_added apex n was now e = e ∙ as_or (is_at (names_cmp apex) n) was ∙ ap (λ (b : Bool). b || was) (sym (names_tie apex n))

pub address_added : (ip a : IpAddr) (was now : Bool) → now ≡ cond (is_at (order.ghosts.cmp ip) a) true was → now ≡ (address.ghosts.eq ip a || was)
address_added ip a was now e = e ∙ as_or (is_at (order.ghosts.cmp ip) a) was ∙ ap (λ (b : Bool). b || was) (sym (laws.matches_eq-law ip a))
