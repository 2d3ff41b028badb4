-- What was read is all that the source held, where it was read to its end.
use Rattle.std.proofs.Common.{◌≡◌, ℕ, ◌<◌, ◌≤◌, List, [], ◌++◌, length, Some, None, inl, inr, refl, sym, ap, subst, ◌∙◌, arith, length-append}
use Rattle.std.specs.Prelude.{IfSome, ◌⊎◌}
use Rattle.std.specs.declared.option.Option.{Option}
use Rattle.std.specs.Io.KnownBytes.{Consumes, IsAtEnd}
use Rattle.std.proofs.lemmas.List.{append-nil}
use Rattle.recursor_text.specs.declared.scenario.Cause.{Cause}
use Rattle.recursor_text.specs.Faults.{HasFault}
use Rattle.dns_core.specs.WholeStreams.{HeldAll, TakesAtMost}
use Rattle.recursor_command.specs.declared.faults.Fault.{Fault}
use Rattle.recursor_command.specs.declared.faults.Fault.TheVariants.{Words, Line, NotBuilt, Wire, LongMessage, Read, Memory}
use Rattle.recursor_command.specs.Faults.{fault_text}
use Rattle.recursor_command.specs.declared.words.Command.{Command}
use Rattle.recursor_command.specs.declared.words.Command.TheVariants.{Resolve, Check, Decode}
use Rattle.recursor_command.proofs.UnreadTextIsTold.{too_long}
use Rattle.recursor_command.specs.Decoding.{IsUndecoded}
use Rattle.recursor_command.specs.Command.{most_for, most_by, IsRefusedAs, IsUnread, IsUnchecked, IsFaultOf, HasOutput, HasWritten, HasRefused, IsTextFor, IsTextOf, WrotePart}
use Rattle.dns_core.specs.Faults.{Rose}
use Rattle.recursor_text.specs.declared.scenario.Cause.TheVariants as cause

same_below : (most : ℕ) (all new bytes : List ℕ) → HeldAll (Some all) (Some new) bytes most → length bytes < most → bytes ≡ all
same_below most all new bytes h less =
    let nothing : new ≡ [] = h.end less in
    sym (h.taken ∙ ap (λ (r : List ℕ). bytes ++ r) nothing ∙ append-nil bytes)

same_all : (all new bytes : List ℕ) → HeldAll (Some all) (Some new) bytes 16777217 → length bytes ≤ 16777216 → bytes ≡ all
same_all all new bytes h le = same_below 16777217 all new bytes h (omega arith)

fault_all : (all new bytes : List ℕ) (n : ℕ) (why : Cause) → HeldAll (Some all) (Some new) bytes 16777217 → HasFault bytes n why → HasFault all n why
fault_all all new bytes n cause.Line h f = subst (λ (b : List ℕ). HasFault b n cause.Line) (same_all all new bytes h f.0) f
fault_all all new bytes n cause.NotBuilt h f = subst (λ (b : List ℕ). HasFault b n cause.NotBuilt) (same_all all new bytes h f.0) f
fault_all all new bytes n cause.Cut h f = subst (λ (b : List ℕ). HasFault b n cause.Cut) (same_all all new bytes h f.0) f
fault_all all new bytes n cause.Long h f = (omega (arith, ap length h.taken, length-append bytes new, f.0), f.1)
fault_all all new bytes n cause.NoMemory h f = tt

unread_all : (all new bytes : List ℕ) (fault : Fault) → HeldAll (Some all) (Some new) bytes 16777217 → IsUnread bytes fault → IsUnread all fault
unread_all all new bytes Words h f = f
unread_all all new bytes (Line n) h f =
    elim f [ inl a ↦ inl (subst (λ (b : List ℕ). IsRefusedAs b n cause.Line) (same_all all new bytes h a.0.0) a) | inr b ↦ inr (elim b [ inl c ↦ inl (fault_all all new bytes n cause.Cut h c) | inr d ↦ inr (fault_all all new bytes n cause.Long h d) ]) ]
unread_all all new bytes (NotBuilt n) h f = subst (λ (b : List ℕ). IsRefusedAs b n cause.NotBuilt) (same_all all new bytes h f.0.0) f
unread_all all new bytes (Wire error) h f = f
unread_all all new bytes LongMessage h f = f
unread_all all new bytes Read h f = f
unread_all all new bytes Memory h f = tt

-- where the bytes are short they are all that is held
all_short : (all new bytes : List ℕ) (fault : Fault) → HeldAll (Some all) (Some new) bytes 16777217 → IsUnchecked bytes fault → length bytes ≤ 16777216 → IsUnchecked all fault
all_short all new bytes fault h f short = subst (λ (b : List ℕ). IsUnchecked b fault) (same_all all new bytes h short) f

unchecked_all : (all new bytes : List ℕ) (fault : Fault) → HeldAll (Some all) (Some new) bytes 16777217 → IsUnchecked bytes fault → IsUnchecked all fault
unchecked_all all new bytes Words h f = f
unchecked_all all new bytes (Line n) h f = elim f.1 [
  | inl t ↦ all_short all new bytes (Line n) h f t.short
  | inr u ↦ elim u.1 [
    | inl a ↦ all_short all new bytes (Line n) h f a.0.0
    | inr b ↦ elim b [ inl c ↦ all_short all new bytes (Line n) h f c.0 | inr d ↦ too_long all n (fault_all all new bytes n cause.Long h d) ]
  ]
]
unchecked_all all new bytes (NotBuilt n) h f = all_short all new bytes (NotBuilt n) h f f.2.0.0
unchecked_all all new bytes (Wire error) h f = f
unchecked_all all new bytes LongMessage h f = f
unchecked_all all new bytes Read h f = f
unchecked_all all new bytes Memory h f = tt

undecoded_all : (all new bytes : List ℕ) (fault : Fault) → HeldAll (Some all) (Some new) bytes 65536 → IsUndecoded bytes fault → IsUndecoded all fault
undecoded_all all new bytes Words h f = f
undecoded_all all new bytes (Line n) h f = f
undecoded_all all new bytes (NotBuilt n) h f = f
undecoded_all all new bytes (Wire error) h f =
    let short : length bytes ≤ 65535 = f.0 in
    subst (λ (b : List ℕ). IsUndecoded b (Wire error)) (same_below 65536 all new bytes h (omega arith)) f
undecoded_all all new bytes LongMessage h f = omega (arith, ap length h.taken, length-append bytes new, f)
undecoded_all all new bytes Read h f = f
undecoded_all all new bytes Memory h f = tt

told_all : (command : Command) (all new bytes : List ℕ) (fault : Fault) → HeldAll (Some all) (Some new) bytes (most_for command) → IsFaultOf command bytes fault → IsFaultOf command all fault
told_all Resolve all new bytes fault h f = unread_all all new bytes fault h f
told_all Check all new bytes fault h f = unchecked_all all new bytes fault h f
told_all Decode all new bytes fault h f = undecoded_all all new bytes fault h f

-- what has an output is not too long
output_short : (command : Command) (bytes text : List ℕ) → HasOutput command bytes text → length bytes < most_for command
output_short Resolve bytes text o = let short = o.1.short in omega arith
output_short Check bytes text o = let short = o.1.short in omega arith
output_short Decode bytes text o = let short = o.short in omega arith

output_all : (command : Command) (all new bytes text : List ℕ) → HeldAll (Some all) (Some new) bytes (most_for command) → HasOutput command bytes text → bytes ≡ all
output_all command all new bytes text h o = same_below (most_for command) all new bytes h (output_short command bytes text o)

pub refused_held : (command : Command) (left left' old new : Option (List ℕ)) (bytes : List ℕ) → HeldAll left left' bytes (most_for command) → HasRefused command bytes old new → IfSome left (λ all. HasRefused command all old new)
refused_held command None left' old new bytes h r = tt
refused_held command (Some all) None old new bytes h r = absurd h.taken
refused_held command (Some all) (Some rest) old new bytes h r = (r.0, told_all command all rest bytes r.0 h r.1, r.2, r.3)

pub written_held : (command : Command) (left left' old new : Option (List ℕ)) (bytes : List ℕ) → HeldAll left left' bytes (most_for command) → HasWritten command bytes old new → IfSome left (λ all. HasWritten command all old new)
written_held command None left' old new bytes h w = tt
written_held command (Some all) None old new bytes h w = absurd h.taken
written_held command (Some all) (Some rest) old new bytes h w = subst (λ (b : List ℕ). HasWritten command b old new) (output_all command all rest bytes w.0 h w.1) w

pub written_to_end : (command : Command) (left left' old new : Option (List ℕ)) (bytes : List ℕ) → HeldAll left left' bytes (most_for command) → HasWritten command bytes old new → IsAtEnd left'
written_to_end command left left' old new bytes h w = h.end (output_short command bytes w.0 w.1)

-- what is to be written for what was read is so for all that the source held
pub text_held : (command : Command) (left left' : Option (List ℕ)) (bytes text : List ℕ) → HeldAll left left' bytes (most_for command) → IsTextFor command bytes text → IfSome left (λ all. IsTextFor command all text)
text_held command None left' bytes text h t = tt
text_held command (Some all) None bytes text h t = absurd h.taken
text_held command (Some all) (Some rest) bytes text h (inl o) = inl (subst (λ (b : List ℕ). HasOutput command b text) (output_all command all rest bytes text h o) o)
text_held command (Some all) (Some rest) bytes text h (inr f) = inr (f.0, told_all command all rest bytes f.0 h f.1, f.2)

-- that memory ran out may be written for all bytes
memory_told : (command : Command) (bytes : List ℕ) → IsFaultOf command bytes Memory
memory_told Resolve bytes = tt
memory_told Check bytes = tt
memory_told Decode bytes = tt

pub memory_fits : (command : Command) (left : Option (List ℕ)) → IfSome left (λ all. IsTextFor command all (fault_text Memory))
memory_fits command None = tt
memory_fits command (Some all) = inr (Memory, memory_told command all, refl)

-- a front of a text is a front of one that is to be written
pub part_fits : (IsOne IsText : List ℕ → Type 0) (before now : ℕ) (old new : Option (List ℕ)) → ((text : List ℕ) → IsOne text → IsText text) → WrotePart IsOne before now old new
    → WrotePart IsText before now old new
part_fits IsOne IsText before now old new fits w = (w.0, (w.1.0, fits w.1.0 w.1.1, w.1.2))

-- what is to be written for words that are a command
pub text_of_run : (asked : Option Command) (command : Command) (held : Option (List ℕ)) (before now : ℕ) (text : List ℕ) → asked ≡ Some command
    → (Rose before now × (text ≡ fault_text Read)) ⊎ IfSome held (λ all. IsTextFor command all text) → IsTextOf asked held before now text
text_of_run asked command held before now text is t = subst (λ (o : Option Command). IsTextOf o held before now text) (sym is) t

-- what is to be written for words that are none
pub text_of_refusal : (asked : Option Command) (held : Option (List ℕ)) (before now : ℕ) → asked ≡ None → IsTextOf asked held before now (fault_text Words)
text_of_refusal asked held before now is = subst (λ (o : Option Command). IsTextOf o held before now (fault_text Words)) (sym is) refl

-- what holds of the command that the words ask for
pub of_command : (Holds : Command → Type 0) (asked : Option Command) (command : Command) → asked ≡ Some command → Holds command → IfSome asked Holds
of_command Holds asked command is h = subst (λ (o : Option Command). IfSome o Holds) (sym is) h

-- of what stays as it was nothing was taken
none_taken : (left : Option (List ℕ)) → Consumes left left []
none_taken None = tt
none_taken (Some all) = refl

no_length : (most : ℕ) → length {A = ℕ} [] ≤ most
no_length most = omega arith

pub nothing_taken : (most : ℕ) (old new : Option (List ℕ)) → new ≡ old → TakesAtMost most old new
nothing_taken most old new same = subst (λ (x : Option (List ℕ)). TakesAtMost most old x) (sym same) ([], none_taken old, no_length most)

-- how many bytes are taken, by the words that ask for the command
pub taken_by : (asked : Option Command) (command : Command) (old new : Option (List ℕ)) → asked ≡ Some command → TakesAtMost (most_for command) old new → TakesAtMost (most_by asked) old new
taken_by asked command old new is taken = subst (λ (o : Option Command). TakesAtMost (most_by o) old new) (sym is) taken
