-- The laws of equality, order and hash of names.
use Rattle.std.specs.Prelude.{◌≡◌, Bool, true, false, refl}
use Rattle.std.specs.Bool.{beq}
use Rattle.std.specs.Ordering.{as_partial_cmp, eq_by_cmp, bool_cmp}
use Rattle.std.specs.Hash.{Alike, on_Alike, items_Alike, and-Alike, same_Alike}
use Rattle.std.specs.Hash as fed
use Rattle.std.specs.Cmp.{IsTotalOrder, IsEquivalence, IsPartialOrder, IsPartialEquivalence, on_total, on_equiv, then_total, and_equiv, bool_cmp_total, bool_eq_equiv, both_tied, booleans_Decides, partial_equiv_from_equiv, partial_order_from_agreeing_total}
use Rattle.std.specs.Cmp.Lexicographic.{pointwise, slice_cmp, lists_total, lists_ties, lists_equiv}
use Rattle.dns_core.specs.Letters.{same_letter, letter_cmp, same_letter_equiv, letter_cmp_total, letter_ties, letter_alike}
use Rattle.dns_core.specs.Name.{DomainName, same_names, names_cmp, names_fed}

pub same_names_equiv : IsEquivalence same_names
same_names_equiv = and_equiv (on_equiv (λ n. n.labels) (lists_equiv (lists_equiv same_letter_equiv))) (on_equiv (λ n. n.fqdn) bool_eq_equiv)

pub same_names_per : IsPartialEquivalence same_names
same_names_per = partial_equiv_from_equiv same_names_equiv

pub names_total : IsTotalOrder names_cmp
names_total = then_total (on_total (λ n. n.labels) (lists_total (lists_total letter_cmp_total))) (on_total (λ n. n.fqdn) bool_cmp_total)

pub flags_tie : (a b : Bool) → beq a b ≡ eq_by_cmp bool_cmp a b
flags_tie true true = refl
flags_tie true false = refl
flags_tie false true = refl
flags_tie false false = refl

pub names_tie : (a b : DomainName) → same_names a b ≡ eq_by_cmp names_cmp a b
names_tie a b = both_tied (pointwise (pointwise same_letter) a.labels b.labels) (beq a.fqdn b.fqdn) (slice_cmp (slice_cmp letter_cmp) a.labels b.labels) (bool_cmp a.fqdn b.fqdn) (lists_ties (slice_cmp letter_cmp) (lists_ties letter_cmp letter_ties) a.labels b.labels) (flags_tie a.fqdn b.fqdn)

pub names_po : IsPartialOrder same_names (as_partial_cmp names_cmp)
names_po = partial_order_from_agreeing_total names_cmp names_total (λ _ _. refl) names_tie

pub names_alike : Alike same_names names_fed
names_alike = and-Alike (on_Alike (λ n. n.labels) (items_Alike (items_Alike letter_alike))) (on_Alike (λ n. n.fqdn) (same_Alike fed.bool booleans_Decides))
