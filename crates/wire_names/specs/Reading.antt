-- Reading a name from the left: what is read, or the first item that cannot be.
use Rattle.std.specs.Prelude.{◌≡◌, ℕ, ◌+◌, ◌-◌, ◌*◌, ◌==◌, ◌++◌, true, false, not, nat_lt, List, [], ◌∷◌, length, take, drop, Result, Ok, Err, if◌then◌else◌, suc, zero}
use Rattle.std.specs.List.{list_all}
use Rattle.dns_core.specs.Name.{DomainName}
use Rattle.dns_core.specs.NameText.{is_allowed, wire_length}
use Rattle.wire_names.specs.declared.errors.WireError.{WireError}
use Rattle.wire_names.specs.declared.errors.WireError.TheVariants.{Short, BadLabel, BadPointer, BadByte, LongName, BadData, BadOpt, Trailing, NoMemory}
use Rattle.wire_names.specs.declared.runs.RunEnd.{RunEnd}
use Rattle.wire_names.specs.declared.runs.RunEnd.TheVariants.{Root, Pointer}

infixl 10 ◌>>=◌
abbrev pub ◌>>=◌ : {A B : Type 0} → Result A WireError → (A → Result B WireError) → Result B WireError
(Ok x) >>= f = f x
(Err e) >>= f = Err e

-- reading fails with this error; out of memory says nothing of the bytes
abbrev pub Fails : {Y : Type 0} → WireError → Result Y WireError → Type 0
Fails NoMemory read = Unit {0}
Fails Short read = read ≡ Err Short
Fails BadLabel read = read ≡ Err BadLabel
Fails BadPointer read = read ≡ Err BadPointer
Fails BadByte read = read ≡ Err BadByte
Fails LongName read = read ≡ Err LongName
Fails BadData read = read ≡ Err BadData
Fails BadOpt read = read ≡ Err BadOpt
Fails Trailing read = read ≡ Err Trailing

-- what a function returned, as contracts see it, is what reading gives, unless memory ran out
abbrev pub Gives : {X Y : Type 0} → (X → Y) → Result X WireError → Result Y WireError → Type 0
Gives view (Ok x) read = read ≡ Ok (view x)
Gives view (Err e) read = Fails e read

-- a label of this length, and what follows it
abbrev pub label_of : ℕ → List ℕ → Result (List ℕ × List ℕ) WireError
label_of count bytes =
    if nat_lt (length bytes) count then Err Short else
    (if not (list_all (is_allowed false) (take count bytes)) then Err BadByte else Ok (take count bytes, drop count bytes))

abbrev pub Run : Type 0
Run = List (List ℕ) × RunEnd × List ℕ

-- a pointer whose first byte is `high`
abbrev pub pointer_of : ℕ → List ℕ → Result Run WireError
pointer_of high [] = Err Short
pointer_of high (low ∷ rest) = Ok ([], Pointer ((high - 192) * 256 + low), rest)

-- how a run ends whose next byte is no length of a label
abbrev pub end_of : ℕ → List ℕ → Result Run WireError
end_of first rest = if nat_lt first 192 then Err BadLabel else pointer_of first rest

-- The labels at the front of the bytes, once so many bytes of a label are passed; how they end; and what follows.
unfoldable pub run_of : ℕ → List ℕ → Result Run WireError
run_of passed [] = Err Short
run_of (suc passed) (byte ∷ bytes) = run_of passed bytes
run_of zero (byte ∷ bytes) =
    if byte == 0 then Ok ([], Root, bytes) else
    (if nat_lt byte 64 then (label_of byte bytes >>= λ l. run_of byte bytes >>= λ x. Ok (l.0 ∷ x.0, x.1, x.2)) else
    end_of byte bytes)

-- The labels to which the end of a run leads, in a message: those of a run that begins before a place, and so on.
unfoldable pub led_of : ℕ → List ℕ → RunEnd → Result (List (List ℕ)) WireError
led_of before message Root = Ok []
led_of zero message (Pointer to) = Err BadPointer
led_of (suc last) message (Pointer to) =
    if to == last then (run_of 0 (drop last message) >>= λ x. led_of last message x.1 >>= λ others. Ok (x.0 ++ others)) else led_of last message (Pointer to)

-- the labels of a name, and what follows it
abbrev pub whole_of : List ℕ → List ℕ → Result (List (List ℕ) × List ℕ) WireError
whole_of message bytes =
    run_of 0 bytes >>= λ x. led_of (length message - length bytes) message x.1 >>= λ others. Ok (x.0 ++ others, x.2)

-- a name of at most 255 bytes
unfoldable pub labels_of : List ℕ → List ℕ → Result (List (List ℕ) × List ℕ) WireError
labels_of message bytes = whole_of message bytes >>= λ x. if nat_lt 255 (wire_length x.0) then Err LongName else Ok x

-- the same as a name
abbrev pub name_of : List ℕ → List ℕ → Result (DomainName × List ℕ) WireError
name_of message bytes = labels_of message bytes >>= λ x. Ok (record { labels = x.0; fqdn = true }, x.1)

-- labels that were read before, and those that are read next
abbrev pub with_front : List (List ℕ) → Result Run WireError → Result Run WireError
with_front front read = read >>= λ x. Ok (front ++ x.0, x.1, x.2)

abbrev pub joined : List (List ℕ) → Result (List (List ℕ)) WireError → Result (List (List ℕ)) WireError
joined front read = read >>= λ others. Ok (front ++ others)
