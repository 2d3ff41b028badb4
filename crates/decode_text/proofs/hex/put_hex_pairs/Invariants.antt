use Rattle.std.proofs.Common.{◌≡◌, ◌++◌, take, flat_map}
use Rattle.text_lines.specs.Texts.{hex_pair}
use Rattle.decode_text.proofs.hex.put_hex_pairs.Given as goal

abbrev pub invariant-loop-b : goal.invariant-loop-b
invariant-loop-b l = l.out.items ≡ l.fn.out.items ++ flat_map hex_pair (take l.b-index l.bytes)
