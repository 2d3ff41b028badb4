-- What entry stands in the form in which it is kept.
use Rattle.std.specs.Prelude.{Ok}
use Rattle.kept_responses.specs.declared.entry.Entry.{Entry}
use Rattle.kept_responses.specs.declared.kept_entry.Kept.{Kept}
use Rattle.kept_responses.specs.declared.kept_entry.Kept.TheVariants.{Answer, Other}

-- an answer stands under the question of its message
abbrev pub entry_of : Kept → Entry
entry_of (Answer a) = record { query = a.message.query; response = Ok a.message; written = a.written; expiry = a.expiry; source = a.source }
entry_of (Other e) = e.value
