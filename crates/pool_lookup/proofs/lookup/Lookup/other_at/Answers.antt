use Rattle.std.proofs.Common.{◌≡◌, ◌∙◌, ◌+◌, ◌-◌, ◌<◌, List, length, slice_get, ap, sym, arith}
use Rattle.pool_lookup.specs.declared.attempt.Attempt.{Attempt}
use Rattle.pool_lookup.specs.Lookup.{LookupState}
use Rattle.pool_lookup.proofs.LosersRecorded.{others_length, other_begun, other_ready}
use Rattle.pool_lookup.proofs.AttemptIsWritten.{read_at}
use Rattle.pool_lookup.proofs.lookup.Lookup.other_at.Goals as goal

pub returns-then-place-begun : goal.returns-then-place-begun
returns-then-place-begun c =
    let l = c.args.self.now in
    let same = ap (λ (s : LookupState). s.attempts) c.self.view_is in
    let within : c.args.place < length c.self.inside.attempts.items = omega arith in
    other_begun l.attempts l.ready c.args.place c.index.result.now
    (sym (ap (λ (xs : List Attempt). slice_get xs c.args.place) same) ∙ read_at c.self.inside.attempts.items c.args.place c.index.result.now within c.index.ensures)

pub returns-else-place-begun : goal.returns-else-place-begun
returns-else-place-begun c =
    let l = c.args.self.now in
    let place = c.args.place in
    let k = place - c.len-begun.result in
    let one = ap (λ (s : LookupState). length s.attempts) c.self.view_is in
    let two = ap (λ (s : LookupState). length s.ready) c.self.view_is in
    let all = others_length l in
    let below = c.requires in
    let within : k < length c.self.inside.ready.items = omega (arith, one, two, all, below) in
    let after : place ≡ length l.attempts + k = omega (arith, one) in
    other_ready l.attempts l.ready place k c.index-else-place-begun.result.now after
    (sym (ap (λ (s : LookupState). slice_get s.ready k) c.self.view_is) ∙ read_at c.self.inside.ready.items k c.index-else-place-begun.result.now within c.index-else-place-begun.ensures)
