-- The bounds of the time to live of answers, by their types (RFC 1035 section 3.2.1, RFC 2308 section 5).
use Rattle.std.specs.Prelude.{List, Option, Bool, ◌&&◌, ◌||◌, ◌==◌, nat_lt}
use Rattle.std.specs.List.{list_any}
use Rattle.std.specs.Option.{unwrap_or}
use Rattle.std.specs.Map.{lookup}
use Rattle.std.specs.BTreeMap.{insert_entry}
use Rattle.std.specs.Cmp.{IsEquivalence, IsPartialEquivalence, on_equiv, and_equiv, partial_equiv_from_equiv}
use Rattle.std.specs.Cmp.Lexicographic.{pointwise, lists_equiv}
use Rattle.dns_core.specs.declared.codes.RecordType.{RecordType}
use Rattle.dns_core.specs.contracts.codes.RecordTypePartialEq.TheImpl as type_partial
use Rattle.dns_core.specs.contracts.codes.RecordTypeEq.TheImpl.Laws as type_eq
use Rattle.dns_core.specs.contracts.codes.RecordTypeOrd.TheImpl as type_order
use Rattle.resolver_settings.specs.declared.ttl.TtlBounds.{TtlBounds}
use Rattle.resolver_settings.specs.contracts.ttl.TtlBoundsPartialEq.TheImpl as bounds_partial
use Rattle.resolver_settings.specs.contracts.ttl.TtlBoundsEq.TheImpl.Laws as bounds_eq

-- the general bounds, and those of the types that have their own
pub record TtlTable : Type 0 where
  pub general : TtlBounds
  pub own : List (RecordType × TtlBounds)

-- the same type
abbrev pub same_type : RecordType → RecordType → Bool
same_type a b = a.code == b.code

-- the bounds of a type alone, if it has any
abbrev pub own_bounds : TtlTable → RecordType → Option TtlBounds
own_bounds table t = lookup (same_type t) table.own

-- the bounds of a type: its own, or else the general ones
abbrev pub bounds_of : TtlTable → RecordType → TtlBounds
bounds_of table t = unwrap_or (own_bounds table t) table.general

-- the table with bounds at a type, in place of those that it had
abbrev pub with_own : TtlTable → RecordType → TtlBounds → TtlTable
with_own table t bounds = record table { own = insert_entry type_order.ghosts.cmp table.own t bounds }

-- from 0 to the seconds of a day
abbrev pub one_day : TtlBounds
one_day = record { positive_min = 0; positive_max = 86400; negative_min = 0; negative_max = 86400 }

-- a least time is above its greatest, of positive or of negative answers
abbrev pub is_reversed : TtlBounds → Bool
is_reversed b = nat_lt b.positive_max b.positive_min || nat_lt b.negative_max b.negative_min

-- so are the general bounds, or those of a type
abbrev pub has_reversed : TtlTable → Bool
has_reversed table = is_reversed table.general || list_any (λ e. is_reversed e.1) table.own

-- the same general bounds, and the same types with the same bounds
abbrev pub same_tables : TtlTable → TtlTable → Bool
same_tables a b = bounds_partial.ghosts.eq a.general b.general && pointwise (λ p q. type_partial.ghosts.eq p.0 q.0 && bounds_partial.ghosts.eq p.1 q.1) a.own b.own

pub same_tables_equiv : IsEquivalence same_tables
same_tables_equiv = and_equiv (on_equiv (λ t. t.general) bounds_eq.laws-law) (on_equiv (λ t. t.own) (lists_equiv (and_equiv (on_equiv (λ p. p.0) type_eq.laws-law) (on_equiv (λ p. p.1) bounds_eq.laws-law))))

pub same_tables_per : IsPartialEquivalence same_tables
same_tables_per = partial_equiv_from_equiv same_tables_equiv
