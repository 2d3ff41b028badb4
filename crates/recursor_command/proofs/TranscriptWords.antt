-- The transcript of a run has its words.
use Rattle.std.proofs.Common.{◌≡◌, ℕ, Bool, true, List, Some, ap, ◌∙◌}
use Rattle.std.specs.Prelude.{◌&&◌, IsTrue}
use Rattle.std.specs.List.{list_all}
use Rattle.dns_core.specs.Log.{numbered}
use Rattle.dns_core.specs.declared.log.LogEntry.{LogEntry}
use Rattle.transcript_printer.specs.Log.{has_entry_words, has_log_words}
use Rattle.transcript_printer.specs.Transcript.{has_reply_words, has_transcript_words}
use Rattle.recursor_text.specs.Spelling.{IsUpstream}
use Rattle.recursor_text.specs.declared.scenario.Scenario.{Scenario}
use Rattle.recursor_text.specs.declared.scenario.Upstream.{Upstream}
use Rattle.recursor_text.specs.declared.scenario.Upstream.TheVariants.{Script as FromScript, World as FromWorld}
use Rattle.transcript_printer.specs.declared.transcript.Transcript.{Transcript}
use Rattle.recursor_command.specs.Command.{terms_of, GivesBy, IsRunnable, Ran}
use Rattle.recursor_command.proofs.LogWords.{log_worded, entry_worded}
use Rattle.recursor_command.proofs.WorldWords.{world_worded}
use Rattle.recursor_command.proofs.ReplyWords.{replies_worded}

both : (a b : Bool) → a ≡ true → b ≡ true → (a && b) ≡ true
both a b p q = ap (λ x. x && b) p ∙ q

-- each entry of a log that an upstream gives has its words
upstream_worded : (u : Upstream) (es : List LogEntry) → IsUpstream u → GivesBy u es → (n : ℕ) (e : LogEntry) → numbered es n ≡ Some e → has_entry_words e ≡ true
upstream_worded (FromScript script) es h g n e at = entry_worded script es n e h g at
upstream_worded (FromWorld world) es h g n e at = world_worded world es n e g at

pub transcript_worded : (s : Scenario) (t : Transcript) → IsRunnable s → Ran s t → IsTrue (has_transcript_words t)
transcript_worded s t can ran =
    let worded = upstream_worded s.upstream t.log can.upstream ran.gives in
    both (has_log_words t.log) (list_all has_reply_words t.replies) (log_worded t.log worded)
    (replies_worded (terms_of s) t.log 0 s.turns s.questions t.replies worded ran.resolves.answered ran.resolves.replies)
