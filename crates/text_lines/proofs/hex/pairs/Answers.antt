use Rattle.std.proofs.Common.{refl, sym, arith}
use Rattle.text_lines.proofs.HexLaws.{pairs_step}
use Rattle.text_lines.proofs.hex.pairs.Goals as goal

pub pairs-preserved : goal.pairs-preserved
pairs-preserved c = pairs_step c.pairs.bytes c.pairs.rest.now _ c.in-Some.b _ _ (omega arith) (sym c.in-Some.ensures) c.in_ok-push.ensures.ok refl c.pairs.invariant
