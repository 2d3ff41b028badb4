use Rattle.std.proofs.Common.{◌≡◌, ◌∙◌, true, ap}
use Rattle.std.proofs.lemmas.Result.{err_from_is_err_and}
use Rattle.server_core.specs.Sending.{end_of, after_end, after_put, takes_memory}
use Rattle.server_core.specs.declared.sends.server_send.ServerSend.{ServerSend}
use Rattle.pool_lookup.specs.declared.attempt.Attempt.{Attempt}
use Rattle.pool_lookup.specs.declared.attempt.Put.{Put}
use Rattle.pool_lookup.proofs.AttemptIsWritten.{on_error, was_taken}
use Rattle.pool_lookup.proofs.attempt.Attempt.put.Goals as goal

pub returns-in_err-after-clause-after : goal.returns-in_err-after-clause-after
returns-in_err-after-clause-after c =
    let at = c.args.self.now.send.stage in
    let p = err_from_is_err_and c.from_residual.result c.from_residual.ensures.1 in
    on_error (λ (put : Put). put.after ≡ after_put c.args.tick.patience at c.args.outcome) (takes_memory at c.args.outcome ≡ true) c.from_residual.result p.0 p.1 (was_taken (takes_memory at c.args.outcome) c.in_err-after.ensures.ample)

pub returns-clause-end : goal.returns-clause-end
returns-clause-end c = c.take_end-end.ensures.end ∙ ap (λ (s : ServerSend). end_of s.stage) c.in_ok-after.ensures.send

pub returns-clause-ok : goal.returns-clause-ok
returns-clause-ok c =
    let a : Attempt = c.args.self.now in
    ap (λ (s : ServerSend). record a { send = s }) (c.take_end-end.ensures.send ∙ ap (λ (s : ServerSend). record s { stage = after_end s.stage }) c.in_ok-after.ensures.send)
