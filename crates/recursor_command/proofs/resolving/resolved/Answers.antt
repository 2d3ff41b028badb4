use Rattle.recursor_command.proofs.TranscriptWords.{transcript_worded}
use Rattle.recursor_command.proofs.resolving.resolved.Goals as goal

pub printed-requires : goal.printed-requires
printed-requires c = transcript_worded c.args.scenario c.in_ok-transcript.transcript c.requires c.in_ok-transcript.ensures
