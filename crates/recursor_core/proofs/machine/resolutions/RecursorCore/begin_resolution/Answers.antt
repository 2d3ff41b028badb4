use Rattle.recursor_core.proofs.MachineWords.{◌≡◌, arith, ℕ, List, Option, Some, length, ap, ◌∙◌, slice_get, option_map, Box, Question, Begun, begun_of, kept_in, Resolution, All-push, seen_by, KeptHolds, seen_at, cache-later, later-by, pools-later, Extends-refl, length_push}
use Rattle.recursor_core.proofs.MachineAdvances.{resolutions-later}
use Rattle.recursor_core.proofs.MachineAfterStep.{begun-push, begun-last}
use Rattle.recursor_core.proofs.machine.resolutions.RecursorCore.begin_resolution.Goals as goal

pub returns-clause-derived : goal.returns-clause-derived
returns-clause-derived c log later d =
    let core = c.args.self.now in
    let rs = core.resolutions.items in
    let before = seen_by core log in
    let after = seen_at core.policy core.greatest c.args.now log in
    let on = later-by core.policy core.greatest core.greatest core.moment c.args.now log log (omega arith) later (Extends-refl log) in
    record {
      bound = d.bound;
      walks = d.walks;
      cache = cache-later before after on core.cache d.cache;
      pools = pools-later before after on core.pools d.pools;
      resolutions = rw c.in_ok-push.ensures.items (All-push (KeptHolds after) rs (Some c.in_ok-resolution.resolution) (resolutions-later before after on rs d.resolutions)
          (rw c.in_ok-resolution.ensures (c.begin.ensures.holds after (omega arith))));
    }

pub returns-clause-others : goal.returns-clause-others
returns-clause-others c =
    let xs = c.args.self.now.resolutions.items in
    let items = c.in_ok-push.ensures.items in
    record {
      count = let more = ap length items ∙ length_push xs (Some c.in_ok-resolution.resolution) in omega (arith, more);
      one = let more = ap length items ∙ length_push xs (Some c.in_ok-resolution.resolution) in omega (arith, more);
      before = λ k within. ap (λ (rs : List (Option (Box Resolution))). option_map begun_of (kept_in (slice_get rs k))) items
          ∙ begun-push xs (Some c.in_ok-resolution.resolution) k within;
    }

pub returns-clause-begun : goal.returns-clause-begun
returns-clause-begun c =
    let xs = c.args.self.now.resolutions.items in
    let r = c.begin.result in
    let begun = c.begin.ensures.begun in
    let count : c.len-place.result ≡ length xs = omega (arith, c.len-place.ensures) in (
      count,
      ap (λ (n : ℕ). option_map begun_of (kept_in (slice_get c.push.new.self.items n))) count
          ∙ ap (λ (rs : List (Option (Box Resolution))). option_map begun_of (kept_in (slice_get rs (length xs)))) c.in_ok-push.ensures.items
          ∙ begun-last xs (Some c.in_ok-resolution.resolution)
          ∙ ap (λ (x : Resolution). let b : Option Begun = Some (begun_of x) in b) c.in_ok-resolution.ensures
          ∙ ap (λ (q : Question). let b : Option Begun = Some (record { question = q; moment = r.begun }) in b) begun.0
          ∙ ap (λ (n : ℕ). let b : Option Begun = Some (record { question = c.args.question; moment = n }) in b) begun.1,
    )
