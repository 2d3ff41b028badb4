use Rattle.std.proofs.Common.{◌≡◌, ◌∙◌, Bool, true, if◌then◌else◌, sym, ap}
use Rattle.server_core.specs.Hearing.{changed_at}
use Rattle.server_core.proofs.ServerIsLent.{set_changed}
use Rattle.pool_lookup.specs.Cancelling.{after_cancelled, address_of, is_apart}
use Rattle.pool_lookup.proofs.losers.record_loss.Goals as goal

pub returns-then-is_apart : goal.returns-then-is_apart
returns-then-is_apart c =
    let table = c.args.table.now in
    let change = after_cancelled c.args.winner c.args.now in
    let apart : is_apart (address_of table) c.args.among.now c.args.number ≡ true = sym c.is_apart.ensures ∙ c.if-is_apart.true in
    set_changed change c.args.number table c.get_mut.result.now c.record_cancelled.new.self c.get_mut.ensures.value c.record_cancelled.ensures
    ∙ sym (ap (λ (b : Bool). if b then changed_at change c.args.number table else table) apart)
