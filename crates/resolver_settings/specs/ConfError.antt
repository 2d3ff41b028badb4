-- Why a resolver's text gives no configuration.
use Rattle.std.specs.Prelude.{◌≡◌, ℕ, List, ◌++◌, Result, Err, codes, decimal}
use Rattle.resolver_settings.specs.declared.conf_error.ConfError.{ConfError}
use Rattle.resolver_settings.specs.declared.conf_error.ConfError.TheVariants.{NoNameServers, BadSearchName, ReadFault, TooLong, NoMemory}

-- The result is what the text says, unless memory ran out.
abbrev pub Gives : {A : Type 0} → Result A ConfError → Result A ConfError → Type 0
Gives (Err NoMemory) said = Unit {0}
Gives read said = read ≡ said

-- what it prints
abbrev pub conf_error_text : ConfError → List ℕ
conf_error_text NoNameServers = codes "no line gives the address of a name server"
conf_error_text (BadSearchName number) = codes "word " ++ decimal number ++ codes " of the search list is no domain name"
conf_error_text ReadFault = codes "the resolver text could not be read"
conf_error_text TooLong = codes "the resolver text has more than 1048576 bytes"
conf_error_text NoMemory = codes "out of memory"
