use Rattle.std.proofs.Common.{◌≡◌, ◌∙◌, ◌+◌, ◌-◌, ◌≤◌, ◌<◌, ℕ, suc, get_or, [], take, drop, length, ap, sym, arith}
use Rattle.std.proofs.lemmas.Option.{slice_get-get_or}
use Rattle.pool_lookup.specs.Cancelling.{others_of}
use Rattle.pool_lookup.specs.Lookup.{LookupState}
use Rattle.pool_lookup.proofs.LosersRecorded.{cancelled_from, cancelled_all, cancelled_none, cancelled_on, cancelled_rest}
use Rattle.pool_lookup.proofs.lookup.Lookup.cancel_others.Goals as goal

pub others-init : goal.others-init
others-init c = cancelled_none c.args.self.now.ended c.saturating_sub-winner.result c.args.now (others_of c.args.self.now) c.args.table.now

pub cancel_at-requires : goal.cancel_at-requires
cancel_at-requires c = omega (arith, c.count_others-place-end.ensures)

pub returns : goal.returns
returns c =
    let l = c.args.self.now in
    let over : length (others_of l) ≤ c.others.place = omega (arith, c.count_others-place-end.ensures) in
    cancelled_rest l.ended c.saturating_sub-winner.result c.args.now c.others.place (others_of l) c.others.table over
    ∙ c.others.invariant
    ∙ ap (λ (w : ℕ). cancelled_from l.ended w c.args.now [] (others_of l) c.args.table.now) (c.saturating_sub-winner.ensures ∙ ap (λ (s : LookupState). c.args.now - s.round_start) c.self.view_is)
    ∙ cancelled_all c.args.now l c.args.table.now

pub others-preserved : goal.others-preserved
others-preserved c =
    let l = c.args.self.now in
    let w = c.saturating_sub-winner.result in
    let ns = others_of l in
    let next : c.others.place + 1 ≡ suc c.others.place = omega arith in
    let within : c.others.place < length ns = omega (arith, c.count_others-place-end.ensures) in
    let n = get_or ns c.others.place 0 in
    let there = slice_get-get_or ns c.others.place 0 within in
    ap (λ (k : ℕ). cancelled_from l.ended w c.args.now (take k ns) (drop k ns) c.cancel_at.new.table) next
    ∙ ap (cancelled_from l.ended w c.args.now (take (suc c.others.place) ns) (drop (suc c.others.place) ns)) (c.cancel_at.ensures n there)
    ∙ sym (cancelled_on l.ended w c.args.now c.others.place n ns c.others.table there)
    ∙ c.others.invariant
