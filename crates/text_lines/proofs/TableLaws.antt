-- Words of tables that stand for values: each is read exactly where it is spelled so, in bytes that
-- no line is cut at.
use Rattle.std.proofs.Common.{◌≡◌, Bool, true, false, Some, refl, sym, subst, inl, inr}
use Rattle.dns_core.specs.declared.connection.Protocol.{Protocol}
use Rattle.dns_core.specs.declared.connection.Protocol.TheVariants.{Udp, Tcp}
use Rattle.dns_core.specs.declared.net_error.IoKind.TheVariants.{Closed, Refused, Other}
use Rattle.dns_core.specs.declared.net_error.NetError.{NetError}
use Rattle.dns_core.specs.declared.net_error.NetError.TheVariants.{Busy, Io, Timeout, NoConnections, Truncated, QueryCaseMismatch, ForeignClassRecord, Dns, Msg, NoMemory}
use Rattle.text_lines.specs.Fields.{in_table}
use Rattle.text_lines.specs.Lines.{protocols, failures, flags, dnssec_words}
use Rattle.text_lines.specs.Texts.{protocol_text, error_word, flags_text}
use Rattle.text_lines.specs.LineSpelling.{dnssec_text, IsTransport, IsFailure}
use Rattle.text_lines.proofs.PlainLaws.{AllBytes}
use Rattle.text_lines.proofs.NumberLaws.{is_word_byte}
use Rattle.text_lines.proofs.FieldLaws.{IsField, table_field}

-- ---- each word is read as its value

-- what holds of both transports
by_transport : (P : Protocol → Type 0) → P Udp → P Tcp → (p : Protocol) → IsTransport p → P p
by_transport P a b p (inl is) = subst P (sym is) a
by_transport P a b p (inr is) = subst P (sym is) b

pub protocol_field : IsField (in_table protocols) protocol_text IsTransport
protocol_field = table_field _ _ protocols ((refl, inl refl), ((refl, inr refl), tt)) (by_transport (λ (q : Protocol). in_table protocols (protocol_text q) ≡ Some q) refl refl)

-- what holds of each error that is told
by_failure : (P : NetError → Type 0) → P Busy → P (Io Other) → P (Io Closed) → P (Io Refused) → P Timeout → P NoConnections → P QueryCaseMismatch → (e : NetError) → IsFailure e → P e
by_failure P a b c d e f g Busy is = a
by_failure P a b c d e f g (Io Other) is = b
by_failure P a b c d e f g (Io Closed) is = c
by_failure P a b c d e f g (Io Refused) is = d
by_failure P a b c d e f g Timeout is = e
by_failure P a b c d e f g NoConnections is = f
by_failure P a b c d e f g QueryCaseMismatch is = g
by_failure P a b c d e f g Truncated is = absurd is
by_failure P a b c d e f g (ForeignClassRecord name dns_class record_type) is = absurd is
by_failure P a b c d e f g (Dns error) is = absurd is
by_failure P a b c d e f g (Msg text) is = absurd is
by_failure P a b c d e f g NoMemory is = absurd is

pub failure_is_field : IsField (in_table failures) error_word IsFailure
failure_is_field = table_field _ _ failures ((refl, tt), ((refl, tt), ((refl, tt), ((refl, tt), ((refl, tt), ((refl, tt), ((refl, tt), tt)))))))
    (by_failure (λ (e : NetError). in_table failures (error_word e) ≡ Some e) refl refl refl refl refl refl refl)

pub flags_field : IsField (in_table flags) (λ f. flags_text f.0 f.1) (λ f. Unit {0})
flags_field = table_field _ _ flags ((refl, tt), ((refl, tt), ((refl, tt), ((refl, tt), tt)))) again
  where
    again : (f : Bool × Bool) → Unit {0} → in_table flags (flags_text f.0 f.1) ≡ Some f
    again (false, false) is = refl
    again (true, false) is = refl
    again (false, true) is = refl
    again (true, true) is = refl

pub dnssec_field : IsField (in_table dnssec_words) dnssec_text (λ b. Unit {0})
dnssec_field = table_field _ _ dnssec_words ((refl, tt), ((refl, tt), tt)) again
  where
    again : (b : Bool) → Unit {0} → in_table dnssec_words (dnssec_text b) ≡ Some b
    again false is = refl
    again true is = refl

-- ---- plain bytes

pub protocol_plain : (p : Protocol) → IsTransport p → AllBytes is_word_byte (protocol_text p)
protocol_plain = by_transport (λ (q : Protocol). AllBytes is_word_byte (protocol_text q)) refl refl

pub failure_plain : (e : NetError) → IsFailure e → AllBytes is_word_byte (error_word e)
failure_plain = by_failure (λ (e : NetError). AllBytes is_word_byte (error_word e)) refl refl refl refl refl refl refl

pub flags_plain : (a t : Bool) → AllBytes is_word_byte (flags_text a t)
flags_plain false false = refl
flags_plain false true = refl
flags_plain true false = refl
flags_plain true true = refl

pub dnssec_plain : (b : Bool) → AllBytes is_word_byte (dnssec_text b)
dnssec_plain false = refl
dnssec_plain true = refl
