-- What errors print.
use Rattle.std.specs.Prelude.{ℕ, List, ◌++◌, Option, Some, None, codes, decimal}
use Rattle.dns_core.specs.CodeTexts.{type_text}
use Rattle.dns_core.specs.ErrorTexts.{io_text, net_error_text}
use Rattle.recursor_types.specs.declared.error.RecursorError.{RecursorError}
use Rattle.recursor_types.specs.declared.error.RecursorError.TheVariants as error

-- an error of transport, where its own text is said
abbrev pub net_text : Option (List ℕ) → Option (List ℕ)
net_text None = None
net_text (Some text) = Some (codes "net error: " ++ text)

-- What a question ended in. The texts of the kinds of `Message` and of the causes of `NoNameServer` stand at these types, and a
-- zone is a name: what these print is not said here.
abbrev pub recursor_error_text : RecursorError → Option (List ℕ)
recursor_error_text (error.MaxRecordLimitExceeded count record_type) = Some (codes "maximum record limit for " ++ (type_text record_type ++ (codes " exceeded: " ++ (decimal count ++ codes " records"))))
recursor_error_text (error.Message kind) = None
recursor_error_text (error.Msg text) = Some text
recursor_error_text (error.Negative denial) = Some (codes "negative response")
recursor_error_text (error.ForwardNS servers) = Some (codes "forward NS Response")
recursor_error_text (error.Io kind) = Some (codes "io error: " ++ io_text kind)
recursor_error_text (error.Net e) = net_text (net_error_text e)
recursor_error_text error.Timeout = Some (codes "request timed out")
recursor_error_text (error.RecursionLimitExceeded count) = Some (codes "maximum recursion limit exceeded: " ++ (decimal count ++ codes " queries"))
recursor_error_text error.QueryBudgetExceeded = Some (codes "per-request query budget exceeded")
recursor_error_text (error.NoNameServer zone cause) = None
recursor_error_text error.NoMemory = Some (codes "out of memory")
