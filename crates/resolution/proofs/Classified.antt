-- What a message is for the question that it names.
use Rattle.std.proofs.Common.{◌≡◌, Bool, true, false, cond, refl, Some, None}
use Rattle.std.specs.Prelude.{not, ◌||◌, ◌==◌, find, Ok, Err}
use Rattle.dns_core.specs.Classifying.{classify_of, has_no_data, no_records}
use Rattle.dns_core.specs.declared.message.Message.{Message}
use Rattle.dns_core.specs.declared.net_error.DnsError.TheVariants as dns
use Rattle.resolution.specs.Records.{records}
use Rattle.resolution.specs.Class.{class_of_message, class_of_classified, is_foreign}
use Rattle.resolution.specs.declared.class.Class.TheVariants.{Code, Truncated, Negative, Foreign, Positive}

by_tests : (m : Message) (code cut bare : Bool) → m.truncation ≡ cut →
    cond code (Code m.response_code) (cond cut Truncated (cond bare (Negative (no_records m)) (elim (find (is_foreign m.query) (records m)) [ Some r ↦ Foreign r | None ↦ Positive m ])))
    ≡ class_of_classified m.query (cond code (Err (dns.ResponseCode m.response_code)) (cond cut (Ok m) (cond bare (Err (dns.NoRecordsFound (no_records m))) (Ok m))))
by_tests m true cut bare e = refl
by_tests m false true bare e = rw e refl
by_tests m false false true e = refl
by_tests m false false false e = rw e refl

pub class_of_message-itself : (m : Message) → class_of_message m m.query ≡ class_of_classified m.query (classify_of m)
class_of_message-itself m = by_tests m (not (m.response_code.code == 0 || m.response_code.code == 3)) m.truncation (has_no_data m) refl
