-- The lookups that are under way, by their numbers: which a request joins, and how one is changed.
use Rattle.std.specs.Prelude.{ℕ, ◌+◌, ◌-◌, nat_le, Bool, true, false, not, ◌&&◌, ◌==◌, List, [], find, if◌then◌else◌, Option, Some, None, option_map}
use Rattle.std.specs.BTreeMap.{is_at}
use Rattle.std.specs.Map.{lookup, set_value, remove_entry}
use Rattle.std.specs.Ordering.{nat_cmp}
use Rattle.dns_core.specs.declared.request.DnsRequest.{DnsRequest}
use Rattle.pool_rules.specs.Key.{same_key}
use Rattle.pool_lookup.specs.Asked.{has_order}
use Rattle.pool_lookup.specs.Lookup.{LookupState, is_decided}
use Rattle.server_pool.specs.declared.open_lookups.open_lookup.OpenLookup.{OpenLookup}

-- what stands under a number
abbrev pub under : {X : Type 0} → ℕ → List (ℕ × X) → Option X
under n entries = lookup (is_at (nat_cmp n)) entries

-- the lookup of the number, if it is there, is changed so
abbrev pub with_at : ℕ → (OpenLookup → OpenLookup) → List (ℕ × OpenLookup) → List (ℕ × OpenLookup)
with_at n f lookups = elim (under n lookups) [ None ↦ lookups | Some l ↦ set_value (is_at (nat_cmp n)) lookups (f l) ]

-- it has come to this
abbrev pub moved_to : LookupState → OpenLookup → OpenLookup
moved_to next l = record l { lookup = next }

-- ---- who waits for it

-- it has no answer yet, and is one of the pool, for a request of the same key
abbrev pub is_for : ℕ → DnsRequest → OpenLookup → Bool
is_for pool request l = not (is_decided l.lookup.state) && l.pool == pool && same_key l.lookup.request request

-- the number of the lookup that a request at the pool joins, if there is one
abbrev pub open_for : ℕ → DnsRequest → List (ℕ × OpenLookup) → Option ℕ
open_for pool request lookups = option_map (λ e. e.0) (find (λ e. is_for pool request e.1) lookups)

abbrev pub joined : OpenLookup → OpenLookup
joined l = record l { waiters = l.waiters + 1 }

abbrev pub left : OpenLookup → OpenLookup
left l = record l { waiters = l.waiters - 1 }

-- at most one waits for it
abbrev pub is_last : ℕ → List (ℕ × OpenLookup) → Bool
is_last n lookups = elim (under n lookups) [ None ↦ true | Some l ↦ nat_le l.waiters 1 ]

-- one waits less; the last one takes the lookup away, and so withdraws its open orders
abbrev pub after_leave : ℕ → List (ℕ × OpenLookup) → List (ℕ × OpenLookup)
after_leave n lookups = if is_last n lookups then remove_entry (is_at (nat_cmp n)) lookups else with_at n left lookups

-- ---- its orders

-- the order of the number is open at the lookup of the number n
abbrev pub is_open_in : ℕ → List (ℕ × OpenLookup) → ℕ → Bool
is_open_in number lookups n = elim (under n lookups) [ None ↦ false | Some l ↦ has_order number l.lookup ]

-- ---- its ends

-- the log entries that closed its attempts, if it is there
abbrev pub closed_by : Option OpenLookup → List ℕ
closed_by None = []
closed_by (Some l) = l.lookup.closed_by
