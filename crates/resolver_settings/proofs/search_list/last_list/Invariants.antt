use Rattle.std.proofs.Common.{◌≡◌, None, length}
use Rattle.std.specs.List.{filter_map, last_or}
use Rattle.resolver_settings.specs.Directives.{search_words}
use Rattle.resolver_settings.specs.TextLines.{lines_of}
use Rattle.resolver_settings.proofs.search_list.last_list.Given as goal

abbrev pub invariant-lines : goal.invariant-lines
invariant-lines l = last_or l.last (filter_map search_words l.lines) ≡ last_or None (filter_map search_words (lines_of l.text))

abbrev pub decreases-lines : goal.decreases-lines
decreases-lines l = length l.lines
