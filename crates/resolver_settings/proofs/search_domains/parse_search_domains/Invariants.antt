use Rattle.std.proofs.Common.{◌≡◌, length, drop, string_bytes}
use Rattle.std.specs.Str.{chars}
use Rattle.resolver_settings.specs.SearchDomains.{words_of, names_of}
use Rattle.resolver_settings.proofs.WordsInOrder.{read_from}
use Rattle.resolver_settings.proofs.search_domains.parse_search_domains.Given as goal

abbrev pub invariant-loop-c : goal.invariant-loop-c
invariant-loop-c l = read_from l.names (string_bytes l.word) (drop (length l.yielded) (chars l.raw)) ≡ names_of (words_of l.raw)
