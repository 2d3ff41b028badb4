use Rattle.std.proofs.Common.{◌≡◌, ◌+◌, ◌++◌, ◌∷◌, [], List, ℕ, length, ap, sym, ◌∙◌, arith}
use Rattle.std.proofs.iter.Next.{Yields-more}
use Rattle.std.proofs.lemmas.List.FromFn.{length-range_with_len}
use Rattle.std.specs.Vec.Iter.{into_iter_steps}
use Rattle.server_pool.proofs.NewServers.{numbers-last, next-number, added-more, servers-so_far, on-err, some-of}
use Rattle.server_pool.proofs.new_pool.add_all.Goals as goal

pub returns-in_err-number-clause-err : goal.returns-in_err-number-clause-err
returns-in_err-number-clause-err c =
    let it = c.into_iter-config-iterator in
    on-err c.from_residual-in_err-number.result (some-of c.args.first_delays.now c.args.servers.items c.args.shared.now c.add_one.new.shared it.result
    c.loop-config.yielded c.loop-config.config-iterator it.ensures.into_iter_gives.0 c.loop-config.yielded_by
    (c.in_err-number.ensures.err ∙ c.loop-config.invariant.shared))

pub loop-config-preserved : goal.loop-config-preserved
loop-config-preserved c =
    let old = c.args.shared.now in
    let xs = c.loop-config.yielded in
    let told = ap length c.loop-config.invariant.numbers ∙ length-range_with_len (length old.table + 1) (length xs) in
    let at : c.len-in-loop-config.result ≡ length xs = omega (arith, c.len-in-loop-config.ensures, told, c.loop-config.numbers.ok.0) in
    record {
      shared = added-more c.args.first_delays.now xs c.in-Some.config old c.loop-config.shared c.add_one.new.shared c.len-in-loop-config.result
          c.delay_at-first_delay.result c.loop-config.invariant.shared at c.delay_at-first_delay.ensures.is c.in_ok-number.ensures.ok;
      numbers = c.in_ok-push.ensures.items ∙ (ap (λ (l : List ℕ). l ++ c.in_ok-number.number ∷ []) c.loop-config.invariant.numbers
          ∙ sym (numbers-last (length old.table + 1) xs c.in-Some.config c.in_ok-number.number
          (next-number c.in_ok-number.number (length old.table) (length xs) (length c.loop-config.shared.table) c.in_ok-number.ensures.number
          (servers-so_far c.args.first_delays.now xs old c.loop-config.shared c.loop-config.invariant.shared))));
    }

pub returns-in_err-push-clause-err : goal.returns-in_err-push-clause-err
returns-in_err-push-clause-err c =
    let it = c.into_iter-config-iterator in
    let old = c.args.shared.now in
    let xs = c.loop-config.yielded in
    let x = c.in-Some.config in
    let told = ap length c.loop-config.invariant.numbers ∙ length-range_with_len (length old.table + 1) (length xs) in
    let at : c.len-in-loop-config.result ≡ length xs = omega (arith, c.len-in-loop-config.ensures, told, c.loop-config.numbers.ok.0) in
    on-err c.from_residual-in_err-push.result (some-of c.args.first_delays.now c.args.servers.items old c.add_one.new.shared it.result
    (xs ++ x ∷ []) c.next.new.self it.ensures.into_iter_gives.0
    (Yields-more into_iter_steps it.result xs c.loop-config.config-iterator x c.next.new.self c.loop-config.yielded_by c.in-Some.ensures.steps)
    (added-more c.args.first_delays.now xs x old c.loop-config.shared c.add_one.new.shared c.len-in-loop-config.result
    c.delay_at-first_delay.result c.loop-config.invariant.shared at c.delay_at-first_delay.ensures.is c.in_ok-number.ensures.ok))
