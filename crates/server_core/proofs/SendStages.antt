-- Where a send stands, by what it comes to next.
use Rattle.std.proofs.Common.{◌≡◌, ℕ, List, None, refl}
use Rattle.dns_core.specs.declared.connection.Protocol.{Protocol}
use Rattle.server_core.specs.Servers.{Server}
use Rattle.server_core.specs.Hearing.{changed_at}
use Rattle.server_core.specs.Sending.{want_of, end_of, after_end, after_step, StepIs, TellsEnd}
use Rattle.server_core.specs.declared.sends.server_send.Stage.{Stage}
use Rattle.server_core.specs.declared.sends.server_send.Stage.TheVariants as stage
use Rattle.server_core.specs.declared.sends.server_send.Want.TheVariants as want
use Rattle.server_core.specs.declared.sends.server_send.SendStep.{SendStep}
use Rattle.server_core.specs.declared.sends.server_send.SendStep.TheVariants as step
use Rattle.server_core.specs.declared.sends.server_send.ServerSend.{ServerSend}
use Rattle.server_core.proofs.TableChanged.{changed_same}

pub ready_of : (s : Stage) → want_of s ≡ want.Begin → s ≡ stage.Ready
ready_of stage.Ready e = refl
ready_of (stage.Opening protocol order polls) e = cc
ready_of (stage.Opened protocol conn) e = cc
ready_of (stage.Asking asked polls) e = cc
ready_of (stage.Ended result) e = cc
ready_of stage.Over e = cc

pub opened_of : (s : Stage) (p : Protocol) (c : ℕ) → want_of s ≡ want.Ask p c → s ≡ stage.Opened p c
opened_of stage.Ready p c e = cc
opened_of (stage.Opening protocol order polls) p c e = cc
opened_of (stage.Opened protocol conn) p c e = cc
opened_of (stage.Asking asked polls) p c e = cc
opened_of (stage.Ended result) p c e = cc
opened_of stage.Over p c e = cc

-- a send that waits stays as it is
pub step_waits : (s : ServerSend) (at : Stage) (number now : ℕ) (server : Server) → want_of at ≡ want.Wait → StepIs s at number now server step.Waiting at
step_waits s stage.Ready number now server e = cc
step_waits s (stage.Opening protocol order polls) number now server e = (refl, refl)
step_waits s (stage.Opened protocol conn) number now server e = cc
step_waits s (stage.Asking asked polls) number now server e = (refl, refl)
step_waits s (stage.Ended result) number now server e = cc
step_waits s stage.Over number now server e = (refl, refl)

-- and so does its server
pub table_waits : (at : Stage) (n : ℕ) (xs : List Server) → want_of at ≡ want.Wait → changed_at (after_step at) n xs ≡ xs
table_waits stage.Ready n xs e = cc
table_waits (stage.Opening protocol order polls) n xs e = changed_same n xs
table_waits (stage.Opened protocol conn) n xs e = cc
table_waits (stage.Asking asked polls) n xs e = changed_same n xs
table_waits (stage.Ended result) n xs e = cc
table_waits stage.Over n xs e = changed_same n xs

pub step_tells : (s : ServerSend) (at next : Stage) (number now : ℕ) (server : Server) (made : SendStep) → TellsEnd at made next → StepIs s at number now server made next
step_tells s stage.Ready next number now server made t = absurd t
step_tells s (stage.Opening protocol order polls) next number now server made t = absurd t
step_tells s (stage.Opened protocol conn) next number now server made t = absurd t
step_tells s (stage.Asking asked polls) next number now server made t = absurd t
step_tells s (stage.Ended result) next number now server made t = t
step_tells s stage.Over next number now server made t = absurd t

pub table_tells : (at next : Stage) (made : SendStep) (n : ℕ) (xs : List Server) → TellsEnd at made next → changed_at (after_step at) n xs ≡ xs
table_tells stage.Ready next made n xs t = absurd t
table_tells (stage.Opening protocol order polls) next made n xs t = absurd t
table_tells (stage.Opened protocol conn) next made n xs t = absurd t
table_tells (stage.Asking asked polls) next made n xs t = absurd t
table_tells (stage.Ended result) next made n xs t = changed_same n xs
table_tells stage.Over next made n xs t = absurd t

-- a send whose end is told, or not there yet, stays as it is where it is asked for the end
pub end_stays : (at : Stage) → end_of at ≡ None → after_end at ≡ at
end_stays stage.Ready e = refl
end_stays (stage.Opening protocol order polls) e = refl
end_stays (stage.Opened protocol conn) e = refl
end_stays (stage.Asking asked polls) e = refl
end_stays (stage.Ended result) e = cc
end_stays stage.Over e = refl
