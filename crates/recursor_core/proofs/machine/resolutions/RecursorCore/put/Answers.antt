use Rattle.recursor_core.proofs.MachineWords.{◌≡◌, Bool, true, false, max, refl, sym, subst, Result, Ok, arith, option_copied, IsTrue, NoMemory, After, IsNext, IsPut, last_entry, seen_with, seen_by}
use Rattle.server_core.specs.Order.{entry_of}
use Rattle.walk_lookup.proofs.LogAfterPut.{kept-extends, last-chosen, last-within, later-put}
use Rattle.recursor_core.proofs.MachineAdvances.{Derived-extends, resolutions-later}
use Rattle.server_core.specs.declared.orders.order.After.TheVariants as after
use Rattle.recursor_core.proofs.machine.resolutions.RecursorCore.put.Goals as goal

-- what is not so is not so
not-both : (b : Bool) → b ≡ false → IsTrue b → ⊥
not-both true is h = cc
not-both false is h = cc

-- what is late changes nothing
abbrev was_late : Result After NoMemory
was_late = Ok after.Late

pub returns-then-not-is_next-clause-late : goal.returns-then-not-is_next-clause-late
returns-then-not-is_next-clause-late c =
    (λ is next of. not-both c.is_next.result c.if-not-is_next.true (c.is_next.ensures.1 (subst (IsNext c.args.self.now.greatest) (sym c.entry-entry.ensures) next)), λ none. refl)

pub returns-clause-late : goal.returns-clause-late
returns-clause-late c =
    let next : IsNext c.args.self.now.greatest (entry_of c.args.outcome) = rw c.entry-entry.ensures at c.is_next.ensures.0 c.if-not-is_next.false in
    (λ is was of. c.put-after.ensures.late.0 is of, λ none. c.put-after.ensures.late.1 (none next))

pub returns-then-not-is_next-clause-derived : goal.returns-then-not-is_next-clause-derived
returns-then-not-is_next-clause-derived c log longer d tells =
    let on = tells.on in
    Derived-extends c.args.self.now log longer (kept-extends c.args.self.now.moment log c.args.tick (option_copied c.args.waits) c.args.outcome was_late on.tells on.goes_on) d

pub returns-clause-derived : goal.returns-clause-derived
returns-clause-derived c log longer d tells =
    let core = c.args.self.now in
    let view = seen_by core log in
    let waits = option_copied c.args.waits in
    let o = c.args.outcome in
    let result = c.put-after.result in
    let next : IsNext core.greatest (entry_of o) = rw c.entry-entry.ensures at c.is_next.ensures.0 c.if-not-is_next.false in
    let put : IsPut view c.args.tick waits o result longer = record { patient = tells.patient; bound = d.bound; next = next; on = tells.on } in
    let after = seen_with view c.args.tick waits o result longer in
    let tables = c.put-after.ensures.holds view longer put (record { cache = d.cache; pools = d.pools }) in
    let last = last-chosen result waits o c.last_entry-last.result c.entry-entry.result c.closing_of-closing.result c.last_entry-last.ensures c.entry-entry.ensures c.closing_of-closing.ensures in
    let greatest : c.max-self.result ≡ max core.greatest (last_entry result waits o) = omega (arith, c.max-self.ensures, last) in
    let moment : c.max-self-2.result ≡ c.args.tick.now = omega (arith, c.max-self-2.ensures, tells.on.tells.later) in
    rw (greatest, moment) (record {
      bound = last-within view c.args.tick waits o result longer put;
      walks = d.walks;
      cache = tables.cache;
      pools = tables.pools;
      resolutions = resolutions-later view after (later-put view c.args.tick waits o result longer put) core.resolutions.items d.resolutions;
    })
