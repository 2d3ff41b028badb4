-- What slots wait for keeps its entries, and where the order of a slot stands.
use Rattle.std.proofs.Common.{◌≡◌, ◌⊎◌, ⊎_elim, ℕ, List, Option, Some, None, sym, ap, subst}
use Rattle.std.specs.Prelude.{◌≢◌, IsSome, unwrap_or}
use Rattle.std.specs.BTreeMap.{BTreeMap}
use Rattle.dns_core.specs.declared.log.LogEntry.{LogEntry}
use Rattle.dns_core.specs.declared.provider.ConnectionProvider.{Ghosts}
use Rattle.order_carrier.specs.Awaited.{IsNamed}
use Rattle.order_carrier.specs.Did.{order_in}
use Rattle.order_carrier.specs.Did.Stand.{Unseen, UnderWay, Made, Over}
use Rattle.order_carrier.specs.Growing.{Grown}
use Rattle.order_carrier.specs.Stand.{slot_at, stand_of, stand_at, IsSameElsewhere, IsSlotNamed}
use Rattle.order_carrier.specs.declared.awaited.Awaited.{Awaited}
use Rattle.order_carrier.specs.declared.awaited.Awaited.TheVariants as awaited
use Rattle.order_carrier.specs.declared.key.OrderKey.{OrderKey}
use Rattle.order_carrier.specs.declared.under_way.UnderWay.{UnderWay as Going}
use Rattle.order_carrier.specs.declared.order_state.OrderState.{OrderState}
use Rattle.order_carrier.specs.declared.order_state.OrderState.TheVariants as slot
use Rattle.order_carrier.proofs.KeysCompareEqual.{key_cases}

module _ {P C F E : Type 0} (p : Ghosts P C F E) where
  -- what is waited for keeps its number while the log grows
  pub IsNamed-grown : (now : ℕ) (old new : Option (List LogEntry)) (a : Awaited F E) → Grown now old new → IsNamed p old a → IsNamed p new a
  IsNamed-grown now old new (awaited.Connection future sent) grown named = λ es told. let l = grown es told in named l.before l.was
  IsNamed-grown now old new (awaited.Answer exchange sent) grown named = λ es told. let l = grown es told in named l.before l.was
  IsNamed-grown now old new (awaited.Moment until) grown named = tt

  -- so does what a slot waits for
  pub IsSlotNamed-grown : (now : ℕ) (old new : Option (List LogEntry)) (o : Option (OrderState P C F E p)) → Grown now old new → IsSlotNamed p old o → IsSlotNamed p new o
  IsSlotNamed-grown now old new None grown named = tt
  IsSlotNamed-grown now old new (Some slot.Reserved) grown named = tt
  IsSlotNamed-grown now old new (Some (slot.InFlight u)) grown named = IsNamed-grown now old new u.awaited grown named
  IsSlotNamed-grown now old new (Some (slot.Connected c)) grown named = tt
  IsSlotNamed-grown now old new (Some slot.Done) grown named = tt

  -- a slot of what was not started waits for nothing
  pub named-unseen : (told : Option (List LogEntry)) (o : Option (OrderState P C F E p)) → stand_of o ≡ Unseen → IsSlotNamed p told o
  named-unseen told None is = tt
  named-unseen told (Some slot.Reserved) is = tt
  named-unseen told (Some (slot.InFlight u)) is = cc
  named-unseen told (Some (slot.Connected c)) is = tt
  named-unseen told (Some slot.Done) is = tt

  -- nor does a slot of what is over
  pub named-over : (told : Option (List LogEntry)) (o : Option (OrderState P C F E p)) → stand_of o ≡ Over → IsSlotNamed p told o
  named-over told None is = tt
  named-over told (Some slot.Reserved) is = tt
  named-over told (Some (slot.InFlight u)) is = cc
  named-over told (Some (slot.Connected c)) is = tt
  named-over told (Some slot.Done) is = tt

  -- each slot is named, where the one that changed is
  pub all-named : (now : ℕ) (key : OrderKey) (old new : Option (List LogEntry)) (before after : BTreeMap OrderKey (OrderState P C F E p)) → Grown now old new
      → IsSameElsewhere key before after → IsSlotNamed p new (slot_at after key) → ((k : OrderKey) → IsSlotNamed p old (slot_at before k))
      → (k : OrderKey) → IsSlotNamed p new (slot_at after k)
  all-named now key old new before after grown same there named k = ⊎_elim
      (λ is. subst (λ (k : OrderKey). IsSlotNamed p new (slot_at after k)) (sym is) there)
      (λ differ. subst (IsSlotNamed p new) (sym (same k differ)) (IsSlotNamed-grown now old new (slot_at before k) grown (named k)))
      (key_cases key k)

  -- orders stand elsewhere where they stood
  pub stands-elsewhere : (key : OrderKey) (before after : BTreeMap OrderKey (OrderState P C F E p)) → IsSameElsewhere key before after
      → (k : OrderKey) → k ≢ key → stand_at after k ≡ stand_at before k
  stands-elsewhere key before after same k differ = ap stand_of (same k differ)

-- what is under way was taken from its place
pub taken-is : {P C F E : Type 0} {p : Ghosts P C F E} (o : Option (OrderState P C F E p)) (u : Going P C F E p) → slot.InFlight u ≡ unwrap_or o slot.Done
    → o ≡ Some (slot.InFlight u)
taken-is None u is = cc
taken-is {P} {C} {F} {E} {p} (Some s) u is = ap (λ (s : OrderState P C F E p). Some s) (sym is)

-- where an order is under way, what is taken from its place is that
pub not-taken : {P C F E : Type 0} {p : Ghosts P C F E} (o : Option (OrderState P C F E p)) (s : OrderState P C F E p) → s ≡ unwrap_or o slot.Done
    → ((u : Going P C F E p) → s ≡ slot.InFlight u → ⊥) → IsSome (order_in (stand_of o)) → ⊥
not-taken None s is other going = cc
not-taken (Some slot.Reserved) s is other going = cc
not-taken (Some (slot.InFlight u)) s is other going = other u is
not-taken (Some (slot.Connected c)) s is other going = cc
not-taken (Some slot.Done) s is other going = cc
