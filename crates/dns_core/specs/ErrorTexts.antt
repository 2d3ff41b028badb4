-- What errors print.
use Rattle.std.specs.Prelude.{ℕ, List, ◌++◌, Option, Some, None, codes}
use Rattle.dns_core.specs.CodeTexts.{response_code_text}
use Rattle.dns_core.specs.declared.name_text.NameError.{NameError}
use Rattle.dns_core.specs.declared.name_text.NameError.TheVariants.{EmptyLabel, BadByte, LongLabel, LongName, NoMemory}
use Rattle.dns_core.specs.declared.net_error.DnsError.{DnsError}
use Rattle.dns_core.specs.declared.net_error.DnsError.TheVariants.{NoRecordsFound, ResponseCode}
use Rattle.dns_core.specs.declared.net_error.IoKind.{IoKind}
use Rattle.dns_core.specs.declared.net_error.IoKind.TheVariants.{Closed, Refused, Other}
use Rattle.dns_core.specs.declared.net_error.NetError.{NetError}
use Rattle.dns_core.specs.declared.net_error.NetError.TheVariants as net
use Rattle.dns_core.specs.declared.whole_streams.ReadError.{ReadError}
use Rattle.dns_core.specs.declared.whole_streams.ReadError.TheVariants.{Failed, NoMemory as memory_for_reading}

-- what is wrong with a text that is no name
abbrev pub name_error_text : NameError → List ℕ
name_error_text EmptyLabel = codes "a label is empty"
name_error_text BadByte = codes "a label has a byte that is not allowed"
name_error_text LongLabel = codes "a label has more than 63 bytes"
name_error_text LongName = codes "the name has more than 255 bytes in wire form"
name_error_text NoMemory = codes "out of memory"

-- why a source was not read to its end
abbrev pub read_error_text : ReadError → List ℕ
read_error_text Failed = codes "the source failed"
read_error_text memory_for_reading = codes "out of memory"

-- the word of a fault of transport
abbrev pub io_text : IoKind → List ℕ
io_text Closed = codes "closed"
io_text Refused = codes "refused"
io_text Other = codes "io"

-- what a response without an answer tells
abbrev pub dns_error_text : DnsError → List ℕ
dns_error_text (NoRecordsFound n) = codes "NoRecords"
dns_error_text (ResponseCode code) = codes "Code " ++ response_code_text code

-- What an exchange ended in; that of a foreign record, which holds a name, is not said here.
abbrev pub net_error_text : NetError → Option (List ℕ)
net_error_text net.Busy = Some (codes "Busy")
net_error_text (net.Io kind) = Some (codes "Io " ++ io_text kind)
net_error_text net.Timeout = Some (codes "Timeout")
net_error_text net.NoConnections = Some (codes "NoConnections")
net_error_text net.Truncated = Some (codes "Truncated")
net_error_text net.QueryCaseMismatch = Some (codes "QueryCaseMismatch")
net_error_text (net.ForeignClassRecord name dns_class record_type) = None
net_error_text (net.Dns e) = Some (dns_error_text e)
net_error_text (net.Msg text) = Some text
net_error_text net.NoMemory = Some (codes "out of memory")
