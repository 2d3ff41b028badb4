use Rattle.std.proofs.Common.{◌≡◌, ◌+◌, length, option_map, Some}
use Rattle.std.specs.Option.{option_map_or}
use Rattle.resolver_settings.specs.TextLines.{words_left}
use Rattle.resolver_settings.proofs.text_lines.first_word.Given as goal

abbrev pub invariant-pieces : goal.invariant-pieces
invariant-pieces l = words_left (Some l.text) ≡ words_left (option_map (λ r. r.now) l.left)

abbrev pub decreases-pieces : goal.decreases-pieces
decreases-pieces l = option_map_or (λ r. length r.now + 1) l.left 0
