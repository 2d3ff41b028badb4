-- What the command writes for what it reads.
use Rattle.std.specs.Prelude.{◌≡◌, ◌≢◌, ◌≤◌, ◌⊎◌, ℕ, max, Contains, Some, None, false, List, [], ◌∷◌, length, codes, IfSome, if◌then◌else◌}
use Rattle.std.specs.declared.option.Option.{Option}
use Rattle.std.specs.Io.KnownBytes.{Appends, Keeps}
use Rattle.std.specs.Str.{bytes_eq}
use Rattle.dns_core.specs.Faults.{Rose}
use Rattle.script_upstream.specs.Giving.{Gives as ScriptGives}
use Rattle.world_upstream.specs.Giving.{Gives as WorldGives}
use Rattle.dns_core.specs.Log.{Log, log_of}
use Rattle.dns_core.specs.declared.log.LogEntry.{LogEntry}
use Rattle.recursor_types.specs.Policy.{policy_of, with_patience}
use Rattle.recursor_types.specs.declared.policy.Policy.{Policy}
use Rattle.resolver_settings.specs.Ttl.{has_reversed}
use Rattle.recursor_types.specs.Options.{has_bad_first_delays}
use Rattle.resolution.specs.Theorem.{IsRun}
use Rattle.recursor_core.specs.RecursorState.{RecursorState, RepliesHold}
use Rattle.recursor_types.specs.declared.options.RecursorOptions.{RecursorOptions}
use Rattle.std.specs.declared.net.ip_addr.IpAddr.{IpAddr}
use Rattle.dns_core.specs.declared.request.Question.{Question}
use Rattle.dns_core.specs.declared.request.Turn.{Turn}
use Rattle.recursor_types.specs.declared.reply.Reply.{Reply}
use Rattle.recursor_text.specs.declared.scenario.Cause.{Cause}
use Rattle.recursor_text.specs.declared.scenario.Scenario.{Scenario}
use Rattle.recursor_text.specs.declared.scenario.Upstream.{Upstream as Told}
use Rattle.transcript_printer.specs.declared.transcript.Transcript.{Transcript}
use Rattle.recursor_text.specs.Spelling.{Reads, IsUpstream}
use Rattle.recursor_text.specs.Reading.{fails_at, scenario_in}
use Rattle.recursor_text.specs.Faults.{HasFault}
use Rattle.transcript_printer.specs.Transcript.{transcript_text}
use Rattle.dns_core.specs.WholeStreams.{AppendsPart}
use Rattle.recursor_command.specs.Faults.{fault_text, status_of}
use Rattle.recursor_command.specs.Checking.{HasFindings, IsNoWorld, TellsScript, TellsNoScript}
use Rattle.recursor_command.specs.Decoding.{HasMessage, IsUndecoded}
use Rattle.recursor_command.specs.declared.words.Command.{Command}
use Rattle.recursor_command.specs.declared.words.Command.TheVariants.{Resolve, Check, Decode}
use Rattle.recursor_command.specs.declared.faults.Fault.{Fault}
use Rattle.recursor_command.specs.declared.faults.Fault.TheVariants.{Words, Line, NotBuilt, Wire, LongMessage, Read, Memory}
use Rattle.recursor_command.specs.declared.status.Status.{Status}
use Rattle.recursor_text.specs.declared.scenario.Cause.TheVariants as cause
use Rattle.recursor_text.specs.declared.scenario.Upstream.TheVariants as upstream
use Rattle.recursor_command.specs.declared.status.Status.TheVariants as status

-- the command of this name
abbrev pub command_named : List ℕ → Option Command
command_named name =
    if bytes_eq name (codes "resolve") then Some Resolve else if bytes_eq name (codes "check") then Some Check else if bytes_eq name (codes "decode") then Some Decode else None

-- the command that words ask for: the name of one, and no more
abbrev pub command_of : List (List ℕ) → Option Command
command_of [] = None
command_of (w ∷ []) = command_named w
command_of (w ∷ v ∷ ws) = None

-- the most bytes that a command takes: one more than a scenario or a message may have, so that one that is too long shows
abbrev pub most_for : Command → ℕ
most_for Resolve = 16777217
most_for Check = 16777217
most_for Decode = 65536

-- where the words ask for no command none is taken
abbrev pub most_by : Option Command → ℕ
most_by None = 0
most_by (Some command) = most_for command

-- What a run needs of a scenario: there is a root, no least life is above its greatest, servers may start with the first delays,
-- and its upstream is one that the format spells.
pub record IsRunnable (s : Scenario) : Type 0 where
  pub rooted : s.roots ≢ []
  pub ordered : has_reversed s.options.cache_policy ≡ false
  pub delayed : has_bad_first_delays s.options.first_delays ≡ false
  pub upstream : IsUpstream s.upstream

-- nothing was told, where a log is told
abbrev pub IsUntold : Option (List LogEntry) → Type 0
IsUntold told = (es : List LogEntry) → told ≡ Some es → es ≡ []

-- a new recursor over a provider, with these options
abbrev pub IsNewOver : {P : Type 0} → List IpAddr → RecursorOptions → P → RecursorState P → Type 0
IsNewOver roots options provider r = (r.provider ≡ provider) × (r.policy ≡ policy_of roots options) × (r.moment ≡ 0)

-- what a run is set to by these roots, by what these options say and by this patience
abbrev pub terms_by : List IpAddr → RecursorOptions → ℕ → Policy
terms_by roots options patience = with_patience patience (policy_of roots options)

abbrev pub terms_of : Scenario → Policy
terms_of s = terms_by s.roots s.options s.patience

-- What a run says by its log: it is a run of its turns over a log that was empty, and each question has its reply, in order. A reply with a message is
-- what counts of a response that a server of a zone at or above the name told since the question began, or within its life before that; the walk went
-- down to this zone. Each error has its cause.
pub record Resolves (terms : Policy) (questions : List Question) (turns : List Turn) (log : List LogEntry) (answers : List Reply) : Type 0 where
  pub last : ℕ
  pub run : IsRun terms terms.patience 0 last turns (log_of []) (log_of log)
  pub answered : length answers ≡ length questions
  pub replies : RepliesHold terms (log_of log) 0 turns questions answers

-- the upstream of a scenario gives the log
abbrev pub GivesBy : Told → List LogEntry → Type 0
GivesBy (upstream.Script script) log = ScriptGives script log
GivesBy (upstream.World world) log = WorldGives world log

-- A run of a scenario: its log is one that its upstream gives, and its replies are held by it.
pub record Ran (s : Scenario) (t : Transcript) : Type 0 where
  pub gives : GivesBy s.upstream t.log
  pub resolves : Resolves (terms_of s) s.questions s.turns t.log t.replies

-- the text of a run of the scenario
abbrev pub HasRun : Scenario → List ℕ → Type 0
HasRun s text = (t : Transcript) × Ran s t × (text ≡ transcript_text t)

-- the text is what the command writes for the bytes: for a scenario that of a run, or what there is to tell of its world; for a message its own
abbrev pub HasOutput : Command → List ℕ → List ℕ → Type 0
HasOutput Resolve bytes text = (s : Scenario) × Reads bytes s × HasRun s text
HasOutput Check bytes text = (s : Scenario) × Reads bytes s × HasFindings s text
HasOutput Decode bytes text = HasMessage bytes text

-- the line has the fault, and reading refuses it so: as one that the format does not have there, or as one that is not built
abbrev pub IsRefusedAs : List ℕ → ℕ → Cause → Type 0
IsRefusedAs bytes n why = HasFault bytes n why × (scenario_in bytes ≡ fails_at n why)

-- the bytes are no scenario of the forms that are built, for this fault
abbrev pub IsUnread : List ℕ → Fault → Type 0
IsUnread bytes Words = ⊥
IsUnread bytes (Line n) = IsRefusedAs bytes n cause.Line ⊎ (HasFault bytes n cause.Cut ⊎ HasFault bytes n cause.Long)
IsUnread bytes (NotBuilt n) = IsRefusedAs bytes n cause.NotBuilt
IsUnread bytes (Wire error) = ⊥
IsUnread bytes LongMessage = ⊥
IsUnread bytes Read = ⊥
IsUnread bytes Memory = Unit {0}

-- the bytes are no scenario over a world of the forms that are built, for this fault: they tell a script at this line, or they tell none and are no scenario
abbrev pub IsUnchecked : List ℕ → Fault → Type 0
IsUnchecked bytes Words = ⊥
IsUnchecked bytes (Line n) = IsNoWorld bytes × (TellsScript bytes n ⊎ (TellsNoScript bytes × IsUnread bytes (Line n)))
IsUnchecked bytes (NotBuilt n) = IsNoWorld bytes × TellsNoScript bytes × IsUnread bytes (NotBuilt n)
IsUnchecked bytes (Wire error) = ⊥
IsUnchecked bytes LongMessage = ⊥
IsUnchecked bytes Read = ⊥
IsUnchecked bytes Memory = Unit {0}

-- the command does not take the bytes, for this fault
abbrev pub IsFaultOf : Command → List ℕ → Fault → Type 0
IsFaultOf Resolve bytes fault = IsUnread bytes fault
IsFaultOf Check bytes fault = IsUnchecked bytes fault
IsFaultOf Decode bytes fault = IsUndecoded bytes fault

-- nothing was written, or that memory ran out
abbrev pub ToldMemory : Option (List ℕ) → Option (List ℕ) → Type 0
ToldMemory old new = Keeps old new ⊎ Appends old new (fault_text Memory)

-- the fault was told, or a front of its text and the sink failed, or memory ran out
pub record Tells (fault : Fault) (result : Status) (old new : Option (List ℕ)) (before now : ℕ) : Type 0 where
  pub whole : result ≢ status.WriteFault → result ≢ status.NoMemory → (result ≡ status_of fault) × Appends old new (fault_text fault)
  pub part : result ≡ status.WriteFault → Rose before now × AppendsPart old new (fault_text fault)
  pub memory : result ≡ status.NoMemory → ToldMemory old new

-- the output of the command for the bytes was appended
abbrev pub HasWritten : Command → List ℕ → Option (List ℕ) → Option (List ℕ) → Type 0
HasWritten command bytes old new = (text : List ℕ) × HasOutput command bytes text × Appends old new text

-- the command does not take the bytes, and what is wrong with them was appended
abbrev pub HasRefused : Command → List ℕ → Option (List ℕ) → Option (List ℕ) → Type 0
HasRefused command bytes old new = (fault : Fault) × IsFaultOf command bytes fault × (status_of fault ≡ status.BadScenario) × Appends old new (fault_text fault)

-- what a command is to write for these bytes: its output for them, or the text of their fault
abbrev pub IsTextFor : Command → List ℕ → List ℕ → Type 0
IsTextFor command bytes text = HasOutput command bytes text ⊎ ((fault : Fault) × IsFaultOf command bytes fault × (text ≡ fault_text fault))

-- What is to be written, by the command that the words ask for: that they ask for none; or that the source failed, or the text for
-- what it held.
abbrev pub IsTextOf : Option Command → Option (List ℕ) → ℕ → ℕ → List ℕ → Type 0
IsTextOf None held before now text = text ≡ fault_text Words
IsTextOf (Some command) held before now text = (Rose before now × (text ≡ fault_text Read)) ⊎ IfSome held (λ bytes. IsTextFor command bytes text)

-- the sink failed, and a front of a text that was to be written was appended
abbrev pub WrotePart : (List ℕ → Type 0) → ℕ → ℕ → Option (List ℕ) → Option (List ℕ) → Type 0
WrotePart IsText before now old new = Rose before now × ((text : List ℕ) × IsText text × AppendsPart old new text)

-- how a run ends whose words are no command
abbrev pub IsRefusal : Status → Type 0
IsRefusal s = (s ≡ status.BadWords) ⊎ ((s ≡ status.WriteFault) ⊎ (s ≡ status.NoMemory))
