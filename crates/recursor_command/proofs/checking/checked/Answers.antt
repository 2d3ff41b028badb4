use Rattle.recursor_command.proofs.CheckSays.{has_output, script_fault, short_script, some_line}
use Rattle.recursor_command.proofs.checking.checked.Goals as goal

pub told_line-requires-clause-short : goal.told_line-requires-clause-short
told_line-requires-clause-short c = short_script c.args.bytes.now c.args.scenario.now c.in-Script.field-0 c.requires c.in-Script.is

pub told_line-requires-clause-told : goal.told_line-requires-clause-told
told_line-requires-clause-told c = some_line c.args.bytes.now c.args.scenario.now c.in-Script.field-0 c.requires c.in-Script.is

pub returns-in-World-clause-ok : goal.returns-in-World-clause-ok
returns-in-World-clause-ok c = has_output c.args.bytes.now c.args.scenario.now (λ t. t.items) c.world_text.result c.requires c.world_text.ensures.ok

pub returns-in-Script-clause-err : goal.returns-in-Script-clause-err
returns-in-Script-clause-err c = script_fault c.args.bytes.now c.args.scenario.now c.in-Script.field-0 c.told_line.result c.requires c.in-Script.is c.told_line.ensures
