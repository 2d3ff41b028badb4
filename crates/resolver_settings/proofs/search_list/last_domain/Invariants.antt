use Rattle.std.proofs.Common.{◌≡◌, None, length, option_map}
use Rattle.std.specs.List.{filter_map, last_or}
use Rattle.resolver_settings.specs.Directives.{domain_word}
use Rattle.resolver_settings.specs.TextLines.{lines_of}
use Rattle.resolver_settings.proofs.search_list.last_domain.Given as goal

abbrev pub invariant-lines : goal.invariant-lines
invariant-lines l = last_or (option_map (λ w. w.now) l.last) (filter_map domain_word l.lines) ≡ last_or None (filter_map domain_word (lines_of l.text))

abbrev pub decreases-lines : goal.decreases-lines
decreases-lines l = length l.lines
