-- Domain names, as their labels.
use Rattle.std.specs.Prelude.{ℕ, List, Bool, not, ◌&&◌, ◌++◌, ◌-◌, ◌==◌, length, drop, nat_le}
use Rattle.std.specs.Cmp.Lexicographic.{pointwise, slice_cmp}
use Rattle.std.specs.declared.cmp.Ordering.{Ordering}
use Rattle.std.specs.Ordering.{ordering_then, bool_cmp}
use Rattle.std.specs.Bool.{beq}
use Rattle.std.specs.Hash as fed
use Rattle.std.specs.Hash.{HashWrites}
use Rattle.dns_core.specs.Letters.{same_letter, letter_cmp, letter_fed}

-- a domain name: its labels as bytes, and whether it is fully qualified
pub record DomainName : Type 0 where
  pub labels : List (List ℕ)
  pub fqdn : Bool

-- equal without ASCII case
abbrev pub same_labels : List (List ℕ) → List (List ℕ) → Bool
same_labels xs ys = pointwise (pointwise same_letter) xs ys

abbrev pub same_names : DomainName → DomainName → Bool
same_names a b = same_labels a.labels b.labels && beq a.fqdn b.fqdn

-- by the labels from the left, without ASCII case, and then what is not fully qualified first
abbrev pub names_cmp : DomainName → DomainName → Ordering
names_cmp a b = ordering_then (slice_cmp (slice_cmp letter_cmp) a.labels b.labels) (bool_cmp a.fqdn b.fqdn)

abbrev pub names_fed : DomainName → HashWrites
names_fed a = fed.slice (fed.slice letter_fed) a.labels ++ fed.bool a.fqdn

-- the last n labels, all where there are fewer
abbrev pub last_labels : ℕ → List (List ℕ) → List (List ℕ)
last_labels n ls = drop (length ls - n) ls

-- the labels of the first are the last of the second, without ASCII case
abbrev pub is_suffix : List (List ℕ) → List (List ℕ) → Bool
is_suffix zone name = nat_le (length zone) (length name) && same_labels zone (last_labels (length zone) name)

-- the name without labels that is not fully qualified
abbrev pub is_empty_name : DomainName → Bool
is_empty_name n = length n.labels == 0 && not n.fqdn

-- the child is in the zone whose apex is the parent: both are fully qualified or both are not, and the labels are a suffix
abbrev pub is_in_zone : DomainName → DomainName → Bool
is_in_zone parent child = not (is_empty_name parent) && beq parent.fqdn child.fqdn && is_suffix parent.labels child.labels
