use Rattle.std.proofs.Common.{ℕ, List, [], ◌∷◌, ◌++◌, ◌*◌, ◌∙◌, ap, length}
use Rattle.wire_records.specs.Numbers.{two}
use Rattle.wire_records.specs.Records.{bit}
use Rattle.wire_records.proofs.Joined.{joined_three}
use Rattle.wire_records.proofs.spelling.write_opt.Goals as goal

pub returns : goal.returns
returns c =
    let edns = c.args.edns.now in
    let flags = c.in_ok-write_two.ensures ∙ ap (λ (k : ℕ). c.write_opt_head.new.out.items ++ two k) c.dnssec_flags.ensures in
    let count = c.in_ok-write_two-2.ensures ∙ ap (λ (k : ℕ). c.write_two.new.out.items ++ two k) c.len.ensures in
    let held = c.in_ok-extend_from_slice.ensures.items ∙ ap (λ (k : List ℕ). c.write_two-2.new.out.items ++ k) c.items.ensures in
    joined_three c.args.out.now.items (0 ∷ (two 41 ++ (two edns.payload ++ (c.args.upper ∷ edns.version ∷ [])))) (two (32768 * bit edns.dnssec_ok)) (two (length edns.options)) edns.options _ _ _ _ c.in_ok-write_opt_head.ensures flags count held
