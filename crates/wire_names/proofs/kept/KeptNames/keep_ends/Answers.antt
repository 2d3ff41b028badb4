use Rattle.wire_names.proofs.KeptLaws.{kept_as}
use Rattle.wire_names.proofs.kept.KeptNames.keep_ends.Goals as goal

pub returns-in_ok-self-inside-clause-kept : goal.returns-in_ok-self-inside-clause-kept
returns-in_ok-self-inside-clause-kept c = λ kept.
    let before = kept_as c.args.message.now c.args.self.now _ c.self.view_is kept in
    record { names = before.names; ends = c.in_ok-self-inside.ensures.ends }
