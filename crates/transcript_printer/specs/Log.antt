-- The text of a log: how many entries, and each behind its number.
use Rattle.std.specs.Prelude.{ℕ, ◌+◌, Bool, true, List, [], ◌∷◌, ◌++◌, length, Option, Some, None, codes, decimal}
use Rattle.std.specs.List.{list_all}
use Rattle.dns_core.specs.NameText.{text_of}
use Rattle.dns_core.specs.declared.net_error.NetError.{NetError}
use Rattle.dns_core.specs.declared.record.Record.{Record}
use Rattle.dns_core.specs.declared.log.ToldOutcome.{ToldOutcome}
use Rattle.dns_core.specs.declared.log.ToldOutcome.TheVariants.{Connected, Message, Error}
use Rattle.dns_core.specs.declared.log.LogEntry.{LogEntry}
use Rattle.dns_core.specs.declared.log.LogEntry.TheVariants.{Opened, Asked, Waited, Told, GaveUp}
use Rattle.dns_core.specs.CodeTexts.{type_text}
use Rattle.text_lines.specs.Texts.{ip_text, protocol_text, error_word, has_error_word, line_of, record_lines, message_words, message_records}

-- the texts of values that are numbered from n on
unfoldable pub numbered_text : {X : Type 0} → (ℕ → X → List ℕ) → ℕ → List X → List ℕ
numbered_text text n [] = []
numbered_text text n (x ∷ xs) = text n x ++ numbered_text text (n + 1) xs

-- what stands at the end of an entry that was refused
abbrev pub refused_words : Option NetError → List (List ℕ)
refused_words None = []
refused_words (Some e) = codes "refused" ∷ error_word e ∷ []

-- what was told
abbrev pub outcome_words : ToldOutcome → List (List ℕ)
outcome_words Connected = codes "connected" ∷ []
outcome_words (Message m) = message_words m
outcome_words (Error e) = codes "error" ∷ error_word e ∷ []

-- what stands behind the number of an entry
abbrev pub entry_words : LogEntry → List (List ℕ)
entry_words (Opened ip protocol moment refused) = codes "opened" ∷ ip_text ip ∷ protocol_text protocol ∷ decimal moment ∷ refused_words refused
entry_words (Asked ip protocol query moment refused) = codes "asked" ∷ ip_text ip ∷ protocol_text protocol ∷ text_of query.name ∷ type_text query.query_type ∷ decimal moment ∷ refused_words refused
entry_words (Waited of) = codes "waited" ∷ decimal of ∷ []
entry_words (Told of moment outcome) = codes "told" ∷ decimal of ∷ decimal moment ∷ outcome_words outcome
entry_words (GaveUp of moment) = codes "gaveup" ∷ decimal of ∷ decimal moment ∷ []

-- the records that an outcome tells
abbrev pub outcome_records : ToldOutcome → List Record
outcome_records Connected = []
outcome_records (Message m) = message_records m
outcome_records (Error e) = []

-- the records that an entry tells
abbrev pub entry_records : LogEntry → List Record
entry_records (Opened ip protocol moment refused) = []
entry_records (Asked ip protocol query moment refused) = []
entry_records (Waited of) = []
entry_records (Told of moment outcome) = outcome_records outcome
entry_records (GaveUp of moment) = []

-- an entry of a number, its line and those of its records
unfoldable pub entry_text : ℕ → LogEntry → List ℕ
entry_text n entry = line_of (decimal n ∷ entry_words entry) ++ record_lines (entry_records entry)

-- a log: how many entries, and each by its number from 1
unfoldable pub log_text : List LogEntry → List ℕ
log_text es = line_of (codes "log" ∷ decimal (length es) ∷ []) ++ numbered_text entry_text 1 es

-- the error has its word, if there is one
abbrev pub has_refusal_word : Option NetError → Bool
has_refusal_word None = true
has_refusal_word (Some e) = has_error_word e

-- likewise an outcome
abbrev pub has_outcome_words : ToldOutcome → Bool
has_outcome_words Connected = true
has_outcome_words (Message m) = true
has_outcome_words (Error e) = has_error_word e

-- likewise an entry
abbrev pub has_entry_words : LogEntry → Bool
has_entry_words (Opened ip protocol moment refused) = has_refusal_word refused
has_entry_words (Asked ip protocol query moment refused) = has_refusal_word refused
has_entry_words (Waited of) = true
has_entry_words (Told of moment outcome) = has_outcome_words outcome
has_entry_words (GaveUp of moment) = true

-- each error that it tells has its word
abbrev pub has_log_words : List LogEntry → Bool
has_log_words es = list_all has_entry_words es
