-- A lookup makes few sends, and backs off until its deadline at most.
use Rattle.std.proofs.Common.{◌≡◌, ◌∙◌, ◌+◌, Bool, List, ℕ, length, map, ap, arith, length-append}
use Rattle.std.proofs.lemmas.List.{length-map}
use Rattle.std.specs.declared.net.ip_addr.IpAddr.{IpAddr}
use Rattle.pool_lookup.specs.declared.attempt.Attempt.{Attempt}
use Rattle.pool_lookup.specs.declared.lookup.State.{State}
use Rattle.pool_lookup.specs.declared.lookup.State.TheVariants.{Asking, BackingOff, Decided}
use Rattle.pool_lookup.specs.Holds.{HeardEnd, IsAt, HoldsBy}
use Rattle.pool_lookup.specs.Lookup.{LookupState, deadline, under_way}
use Rattle.pool_lookup.specs.Promises.{WakesInTime, IsFair}

wakes_by : (denied : IpAddr → Bool) (heard : List HeardEnd) (l : LookupState) (s : State) → IsAt denied heard s l → WakesInTime s (deadline l)
wakes_by denied heard l Asking at = tt
wakes_by denied heard l (BackingOff until order polls) at = at.in_time
wakes_by denied heard l (Decided answer when) at = tt

pub is_fair : (denied : IpAddr → Bool) (heard : List HeardEnd) (l : LookupState) → HoldsBy denied heard l → IsFair heard l
is_fair denied heard l h =
    let k = h.keeps in
    let sends = k.sends in
    let ups : length (under_way l) ≡ length l.attempts + length l.ready =
    length-append (map (λ (a : Attempt). a.candidate) l.attempts) l.ready ∙ ap (λ (n : ℕ). n + length l.ready) (length-map l.attempts (λ (a : Attempt). a.candidate)) in
    record { each = k.each; all = omega (arith, sends, ups); wakes = wakes_by denied heard l l.state h.at }
