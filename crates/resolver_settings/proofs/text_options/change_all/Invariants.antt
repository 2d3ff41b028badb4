use Rattle.std.proofs.Common.{◌≡◌, length}
use Rattle.resolver_settings.specs.TextOptions.{changed_by}
use Rattle.resolver_settings.proofs.text_options.change_all.Given as goal

abbrev pub invariant-words : goal.invariant-words
invariant-words l = changed_by l.words l.options ≡ changed_by l.fn.words l.fn.options

abbrev pub decreases-words : goal.decreases-words
decreases-words l = length l.words
