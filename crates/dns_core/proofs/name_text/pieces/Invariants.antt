use Rattle.std.proofs.Common.{◌≡◌, ◌++◌, drop}
use Rattle.dns_core.specs.NameText.{pieces, pieces_from}
use Rattle.dns_core.proofs.name_text.pieces.Given as goal

abbrev pub invariant-loop-b : goal.invariant-loop-b
invariant-loop-b l = l.labels.items ++ pieces_from l.label.items (drop l.b-index l.text) ≡ pieces l.text
