-- What the lines so far say, and what the next may say.
use Rattle.std.specs.Prelude.{ℕ, ◌-◌, List, [], ◌∷◌, ◌++◌, length, ◌&&◌, ◌==◌, nat_lt, nat_le, Bool, true, false, Option, Some, None, Ok, if◌then◌else◌}
use Rattle.dns_core.specs.declared.record.Record.{Record}
use Rattle.dns_core.specs.declared.request.Question.{Question}
use Rattle.script_upstream.specs.declared.script.script.ScriptLine.{ScriptLine}
use Rattle.script_upstream.specs.declared.script.script.ScriptLine.TheVariants.{Reply}
use Rattle.recursor_text.specs.declared.scenario.Scenario.{Scenario}
use Rattle.recursor_text.specs.declared.scenario.Upstream.TheVariants.{Script as FromScript}
use Rattle.text_lines.specs.declared.lines.lines.Form.{Form}
use Rattle.text_lines.specs.declared.lines.lines.Form.TheVariants as form
use Rattle.text_lines.specs.declared.lines.option_form.OptionLine.{OptionLine}
use Rattle.text_lines.specs.declared.lines.rules.Counts.{Counts}
use Rattle.text_lines.specs.declared.lines.rules.OpenRule.{OpenRule}
use Rattle.recursor_text.specs.declared.reading.draft.Stage.{Stage}
use Rattle.recursor_text.specs.declared.reading.draft.Stage.TheVariants.{Start, Headed, Rooted, Optioned, Patient, Scripted, Asked, Turned, Ended}
use Rattle.recursor_text.specs.declared.reading.draft.Draft.{Draft}
use Rattle.text_lines.specs.Numbers.{◌>>=◌}
use Rattle.text_lines.specs.Lines.{form_of}
use Rattle.text_lines.specs.RecordLines.{record_of}
use Rattle.text_lines.specs.LineSpelling.{option_rank, last_rank, options_with}
use Rattle.recursor_text.specs.Spelling.{last_moment, most_roots, most_questions, most_turns}

abbrev pub may_head : Stage → Bool
may_head Start = true
may_head _ = false

abbrev pub may_root : Stage → Bool
may_root Headed = true
may_root Rooted = true
may_root _ = false

abbrev pub may_option : Stage → Bool
may_option Rooted = true
may_option Optioned = true
may_option _ = false

abbrev pub may_wait : Stage → Bool
may_wait Rooted = true
may_wait Optioned = true
may_wait _ = false

abbrev pub may_tell : Stage → Bool
may_tell Patient = true
may_tell _ = false

abbrev pub may_reply : Stage → Bool
may_reply Scripted = true
may_reply _ = false

abbrev pub may_ask : Stage → Bool
may_ask Scripted = true
may_ask Asked = true
may_ask _ = false

abbrev pub may_turn : Stage → Bool
may_turn Scripted = true
may_turn Asked = true
may_turn Turned = true
may_turn _ = false

abbrev pub may_end : Stage → Bool
may_end Scripted = true
may_end Asked = true
may_end Turned = true
may_end _ = false

abbrev pub is_ended : Stage → Bool
is_ended Ended = true
is_ended _ = false

abbrev pub start : Draft
start = record { stage = Start; roots = []; written = []; patience = 0; rules = []; pending = None; questions = []; turns = [] }

abbrev pub is_settled : Counts → Bool
is_settled c = c.answers == 0 && c.authorities == 0 && c.additionals == 0

-- the rule, with the records that are there
abbrev pub rule_of : OpenRule → ScriptLine
rule_of o = Reply o.ip o.protocol o.message.query.name o.message.query.query_type o.delay (Ok o.message)

-- the rule is whole, or still open
abbrev pub settle : Draft → OpenRule → Draft
settle d o = if is_settled o.owed then record d { rules = d.rules ++ rule_of o ∷ []; pending = None } else record d { pending = Some o }

-- a record more, in the first section that lacks one
abbrev pub add : OpenRule → Record → Option OpenRule
add o r =
    if nat_lt 0 o.owed.answers then Some (record o { message = record o.message { answers = o.message.answers ++ r ∷ [] }; owed = record o.owed { answers = o.owed.answers - 1 } })
    else if nat_lt 0 o.owed.authorities then Some (record o { message = record o.message { authorities = o.message.authorities ++ r ∷ [] }; owed = record o.owed { authorities = o.owed.authorities - 1 } })
    else if nat_lt 0 o.owed.additionals then Some (record o { message = record o.message { additionals = o.message.additionals ++ r ∷ [] }; owed = record o.owed { additionals = o.owed.additionals - 1 } })
    else None

-- the question has fewer labels than there may be zones on its way
abbrev pub is_short : List OptionLine → Question → Bool
is_short written q = nat_lt (length q.query.name.labels) (options_with written).ns_recursion_limit

abbrev pub put : Draft → Form → Option Draft
put d form.Head = if may_head d.stage then Some (record d { stage = Headed }) else None
put d (form.Root ip) = if may_root d.stage && nat_lt (length d.roots) most_roots then Some (record d { stage = Rooted; roots = d.roots ++ ip ∷ [] }) else None
put d (form.Option o) = if may_option d.stage && nat_lt (last_rank 0 d.written) (option_rank o) then Some (record d { stage = Optioned; written = d.written ++ o ∷ [] }) else None
put d (form.Patience n) = if may_wait d.stage then Some (record d { stage = Patient; patience = n }) else None
put d form.ToldScript = if may_tell d.stage then Some (record d { stage = Scripted }) else None
put d (form.Reply o) = if may_reply d.stage then Some (settle d o) else None
put d (form.Rule line) = if may_reply d.stage then Some (record d { rules = d.rules ++ line ∷ [] }) else None
put d (form.Question q) = if may_ask d.stage && nat_lt (length d.questions) most_questions && is_short d.written q then Some (record d { stage = Asked; questions = d.questions ++ q ∷ [] }) else None
put d (form.Turn t) = if may_turn d.stage && nat_lt (length d.turns) most_turns && nat_le (last_moment 0 d.turns) t.moment then Some (record d { stage = Turned; turns = d.turns ++ t ∷ [] }) else None
put d form.End = if may_end d.stage then Some (record d { stage = Ended }) else None

abbrev pub add_line : Draft → OpenRule → List ℕ → Option Draft
add_line d o line = record_of line >>= λ r. add o r >>= λ p. Some (settle d p)

-- a record line where a rule owes records, and another line elsewhere
abbrev pub taken_at : Option OpenRule → Draft → List ℕ → Option Draft
taken_at (Some o) d line = add_line d o line
taken_at None d line = form_of line >>= put d

-- one line more
abbrev pub taken : Draft → List ℕ → Option Draft
taken d line = taken_at d.pending d line

abbrev pub scenario_of : Draft → Scenario
scenario_of d = record { roots = d.roots; options = options_with d.written; patience = d.patience; upstream = FromScript (record { lines = d.rules }); questions = d.questions; turns = d.turns }
