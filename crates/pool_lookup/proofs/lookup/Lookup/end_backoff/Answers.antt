use Rattle.std.proofs.Common.{◌≡◌, ◌∙◌, ◌+◌, ℕ, Bool, true, if◌then◌else◌, ap, sym, arith}
use Rattle.pool_lookup.specs.declared.lookup.State.TheVariants.{BackingOff}
use Rattle.pool_lookup.specs.Backoff.{goes_on, woken}
use Rattle.pool_lookup.proofs.lookup.Lookup.end_backoff.Goals as goal

pub returns-then-goes_on : goal.returns-then-goes_on
returns-then-goes_on c =
    let l = c.args.self.now in
    let on : goes_on c.args.tick.patience c.args.polls c.args.outcome.now ≡ true = sym c.goes_on.ensures.same ∙ c.if-goes_on.true in
    let fits = c.goes_on.ensures.fits c.if-goes_on.true in
    let more : c.saturating_add.result ≡ c.args.polls + 1 = omega (arith, fits, c.saturating_add.ensures) in
    c.back_off.ensures
    ∙ ap (λ (n : ℕ). record l { state = BackingOff c.args.until c.args.order n }) more
    ∙ sym (ap (λ (b : Bool). if b then record l { state = BackingOff c.args.until c.args.order (c.args.polls + 1) } else woken c.args.tick.now l) on)
