use Rattle.std.proofs.Common.{◌≡◌, ◌+◌, ◌++◌, length}
use Rattle.std.specs.List.{filter_map, position_from}
use Rattle.resolver_settings.specs.SearchList.{is_unreadable, search_name}
use Rattle.resolver_settings.proofs.search_list.search_names.Given as goal

abbrev pub invariant-words : goal.invariant-words
invariant-words l = record {
  first : position_from is_unreadable 1 l.fn.words ≡ position_from is_unreadable (l.number + 1) l.words;
  names : filter_map search_name l.fn.words ≡ l.names ++ filter_map search_name l.words;
  number : l.number + length l.words ≡ length l.fn.words;
}

abbrev pub decreases-words : goal.decreases-words
decreases-words l = length l.words
