-- A poll that found nothing is one more entry by which what was sent is waited for.
use Rattle.walk_lookup.proofs.Names.{◌≡◌, ℕ, zero, suc, ◌+◌, ◌≤◌, ◌<◌, ◌⊎◌, ⊎_elim, inl, inr, Bool, cond, Option, Some, None, refl, sym, ap, subst, ◌∙◌, arith, eq-eqb, Log, Extends, LogEntry, waits, is_wait_for, Logged, waits-extend, LogView, IsStill, IsWaitedFor, WasWaitedFor}
use Rattle.dns_core.specs.declared.log.LogEntry.TheVariants as line

-- a number is the next one, or no greater than the last
le-cases : (a b : ℕ) → a ≤ suc b → (a ≡ suc b) ⊎ (a ≤ b)
le-cases zero b h = inr (omega arith)
le-cases (suc a) zero h = inl (omega (arith, h))
le-cases (suc a) (suc b) h = ⊎_elim (λ e. inl (omega (arith, e))) (λ l. inr (omega (arith, l))) (le-cases a b (omega (arith, h)))

-- it is waited for no less often below a greater number
pub waits-rise : (log : Log) (of a b : ℕ) → a ≤ b → waits log of a ≤ waits log of b
waits-rise log of a zero h = let none : a ≡ 0 = omega (arith, h) in subst (λ (k : ℕ). waits log of k ≤ waits log of 0) (sym none) (omega arith)
waits-rise log of a (suc b) h = ⊎_elim
    (λ is. subst (λ (k : ℕ). waits log of k ≤ waits log of (suc b)) (sym is) (omega arith))
    (λ less. let rest = waits-rise log of a b less in omega (arith, rest))
    (le-cases a b h)

-- an entry that says so is one more
waits-one : (log : Log) (of entry : ℕ) → Logged log entry (line.Waited of) → waits log of (entry + 1) ≡ waits log of entry + 1
waits-one log of entry logged =
    let next : entry + 1 ≡ suc entry = omega arith in
    let one : cond (is_wait_for of (log.entry entry)) 1 0 ≡ 1 =
    ap (λ (e : Option LogEntry). cond (is_wait_for of e) 1 0) logged.is ∙ ap (λ (b : Bool). cond b 1 0) (eq-eqb of of refl) in
    ap (waits log of) next ∙ ap (λ (k : ℕ). waits log of entry + k) one

-- With one more poll that found nothing it was waited for as often as it was polled.
pub polled-more : (view : LogView) (entry : ℕ) (told : Log) (x : Extends view.log told) (polled : Option ℕ) (of polls : ℕ) → IsWaitedFor view polled polls → IsStill polled of → view.greatest < entry
    → Logged told entry (line.Waited of) → polls + 1 ≤ waits told of (entry + 1)
polled-more view entry told x None of polls h still under logged = let one = waits-one told of entry logged in omega (arith, h, one)
polled-more view entry told x (Some before) of polls h still under logged =
    let one = waits-one told of entry logged in
    let was : WasWaitedFor view of polls = subst (λ (k : ℕ). WasWaitedFor view k polls) still h in
    let early = was.early in
    let enough = was.enough in
    let same = waits-extend view.log told x of was.below was.within in
    let rise = waits-rise told of was.below entry (omega (arith, early, under)) in
    omega (arith, one, enough, same, rise)

-- so it stands once that entry is put
pub polled-waited : (view : LogView) (entry of polls : ℕ) → entry ≤ view.greatest → entry < view.log.next → polls + 1 ≤ waits view.log of (entry + 1) → IsWaitedFor view (Some of) (polls + 1)
polled-waited view entry of polls low within enough = record { below = entry + 1; early = omega (arith, low); within = omega (arith, within); enough = enough }
