use Rattle.resolver_settings.proofs.ChangesJoin.{after_word}
use Rattle.resolver_settings.proofs.text_options.change_all.Goals as goal

pub words-preserved : goal.words-preserved
words-preserved c = after_word _ c.next.new.self c.in-Some.word.now c.words.options _ _ c.in-Some.ensures c.change.ensures c.words.invariant
