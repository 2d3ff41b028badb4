-- The errors that lines of a script tell.
use Rattle.std.proofs.Common.{◌≡◌, true, refl}
use Rattle.std.specs.Prelude.{not}
use Rattle.dns_core.specs.NetError.{is_qualified_error, is_no_records}
use Rattle.dns_core.specs.declared.message.Query.{Query}
use Rattle.dns_core.specs.declared.net_error.IoKind.{IoKind}
use Rattle.dns_core.specs.declared.net_error.IoKind.TheVariants.{Other, Closed, Refused}
use Rattle.dns_core.specs.declared.net_error.NetError.{NetError}
use Rattle.dns_core.specs.declared.net_error.NetError.TheVariants.{Busy, Io, Timeout, NoConnections, Truncated, QueryCaseMismatch, ForeignClassRecord, Dns, Msg, NoMemory}
use Rattle.script_upstream.specs.Course.{error_about}
use Rattle.text_lines.specs.Texts.{has_error_word}
use Rattle.text_lines.specs.LineSpelling.{IsFailure}

-- what holds of each error that a line tells
by_failure : (P : NetError → Type 0) → ((kind : IoKind) → P (Io kind)) → P Timeout → P NoConnections → P Busy → P QueryCaseMismatch → (e : NetError) → IsFailure e → P e
by_failure P a b c d x (Io kind) h = a kind
by_failure P a b c d x Timeout h = b
by_failure P a b c d x NoConnections h = c
by_failure P a b c d x Busy h = d
by_failure P a b c d x QueryCaseMismatch h = x
by_failure P a b c d x Truncated h = absurd h
by_failure P a b c d x (ForeignClassRecord name dns_class record_type) h = absurd h
by_failure P a b c d x (Dns error) h = absurd h
by_failure P a b c d x (Msg text) h = absurd h
by_failure P a b c d x NoMemory h = absurd h

-- it holds no name that is not fully qualified
pub failure_qualified : (e : NetError) → IsFailure e → is_qualified_error e ≡ true
failure_qualified = by_failure (λ (e : NetError). is_qualified_error e ≡ true) (λ kind. refl) refl refl refl refl

-- it is no negative response
pub failure_no_records : (e : NetError) → IsFailure e → not (is_no_records e) ≡ true
failure_no_records = by_failure (λ (e : NetError). not (is_no_records e) ≡ true) (λ kind. refl) refl refl refl refl

-- it has a word
io_word : (kind : IoKind) → has_error_word (Io kind) ≡ true
io_word Other = refl
io_word Closed = refl
io_word Refused = refl

pub failure_word : (e : NetError) → IsFailure e → has_error_word e ≡ true
failure_word = by_failure (λ (e : NetError). has_error_word e ≡ true) io_word refl refl refl refl

-- it is the same whatever was asked
pub failure_stays : (q : Query) (e : NetError) → IsFailure e → error_about q e ≡ e
failure_stays q = by_failure (λ (e : NetError). error_about q e ≡ e) (λ kind. refl) refl refl refl refl
