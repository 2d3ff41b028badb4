use Rattle.recursor_walk.proofs.Names.{◌≡◌, refl, [], false, Err, NetError, is_timeout, NoNameServer, Timeout}
use Rattle.resolution.proofs.SoundOutcomes.{error-sound}
use Rattle.recursor_walk.proofs.WalkGoesOn.{stops, timed-out, leaves-failed}
use Rattle.recursor_walk.proofs.walk.Walk.skip_candidate.Goals.{in-Timeout, in_default}
use Rattle.dns_core.specs.declared.net_error.NetError.TheVariants as net
use Rattle.recursor_walk.proofs.walk.Walk.skip_candidate.Goals as goal

-- an error that is none is no timeout
not-timeout : (e : NetError) → (e ≡ net.Timeout → ⊥) → is_timeout e ≡ false
not-timeout net.Timeout h = absurd (h refl)
not-timeout _ h = refl

pub returns-clause-holds : goal.returns-clause-holds
returns-clause-holds c view t0 question h =
    let w = c.args.self.now in
    elim c.match-error.branch [
      | in-Timeout v ↦
          rw (v.self-is, v.result-is)
          (stops view t0 question w v.no_server.result (record { outcome = Err (NoNameServer w.name Timeout); grounds = [] }) v.no_server.ensures
          (error-sound (h.way.name, refl, timed-out view question.query w h.way t0 (rw v.in-Timeout.is at h.failed.concluded)), tt))
      | in_default v ↦
          rw (v.self-is, v.result-is)
          (v.next_candidate.ensures.holds view t0 question h.way
          (leaves-failed view question.query w h.way t0 c.args.error h.failed.concluded (not-timeout c.args.error v.in_default.not-Timeout)))
    ]
