use Rattle.std.proofs.Common.{◌≡◌, length}
use Rattle.std.specs.List.{flat_map}
use Rattle.resolver_settings.specs.Directives.{option_words}
use Rattle.resolver_settings.specs.TextLines.{lines_of}
use Rattle.resolver_settings.specs.TextOptions.{changed_by, options_of}
use Rattle.resolver_settings.proofs.text_options.options_of.Given as goal

abbrev pub invariant-lines : goal.invariant-lines
invariant-lines l = changed_by (flat_map option_words l.lines) l.options ≡ options_of (lines_of l.text)

abbrev pub decreases-lines : goal.decreases-lines
decreases-lines l = length l.lines
