use Rattle.std.proofs.Common.{◌∙◌, sym}
use Rattle.pool_lookup.proofs.lookup.Lookup.give.Goals as goal

pub resume-requires-clause-want : goal.resume-requires-clause-want
resume-requires-clause-want c = sym c.want.ensures ∙ c.in-Resume.is

pub ask_first-requires-clause-want : goal.ask_first-requires-clause-want
ask_first-requires-clause-want c = sym c.want.ensures ∙ c.in-Begin.is

pub sleep-requires : goal.sleep-requires
sleep-requires c = (c.in-Sleep.until, sym c.want.ensures ∙ c.in-Sleep.is)

pub tell-requires : goal.tell-requires
tell-requires c = sym c.want.ensures ∙ c.in-Tell.is

pub returns-in-Sleep-clause-gives : goal.returns-in-Sleep-clause-gives
returns-in-Sleep-clause-gives c = c.sleep.ensures c.args.tick.now c.args.table.now

pub returns-in-Tell-clause-gives : goal.returns-in-Tell-clause-gives
returns-in-Tell-clause-gives c = c.tell.ensures c.args.number c.args.tick.now c.args.table.now

pub resume-requires-clause-can : goal.resume-requires-clause-can
resume-requires-clause-can c = (c.requires.holds, c.requires.reached)

pub ask_first-requires-clause-can : goal.ask_first-requires-clause-can
ask_first-requires-clause-can c = (c.requires.holds, c.requires.reached)
