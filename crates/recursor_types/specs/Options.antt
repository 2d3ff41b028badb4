-- What the options of a recursor may say.
use Rattle.std.specs.Prelude.{ℕ, Bool, List, codes, length, not, ◌&&◌, ◌||◌, ◌==◌, nat_le}
use Rattle.std.specs.List.{list_all}
use Rattle.resolver_settings.specs.Access.{Access}
use Rattle.recursor_types.specs.declared.options.RecursorOptions.{RecursorOptions}

-- a server may start with a delay of 1 to 31 microseconds
abbrev pub is_first_delay : ℕ → Bool
is_first_delay micros = nat_le 1 micros && nat_le micros 31

-- there is no first delay, or one with which no server may start
abbrev pub has_bad_first_delays : List ℕ → Bool
has_bad_first_delays delays = length delays == 0 || not (list_all is_first_delay delays)

-- the filter of servers that the options say, and that of the addresses of answers
abbrev pub server_filter_of : RecursorOptions → Access
server_filter_of options = record { name = codes "server"; allow = options.allow_server; deny = options.deny_server }

abbrev pub answer_filter_of : RecursorOptions → Access
answer_filter_of options = record { name = codes "answers"; allow = options.allow_answers; deny = options.deny_answers }
