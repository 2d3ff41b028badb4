-- What has come of a whole scenario so far: a draft, and beside it that of a world where it is told one.
use Rattle.std.specs.Prelude.{ℕ, List, Bool, true, false, not, ◌&&◌, ◌||◌, Option, Some, None, is_some, if◌then◌else◌, codes}
use Rattle.std.specs.Str.{bytes_eq}
use Rattle.text_lines.specs.Numbers.{◌>>=◌}
use Rattle.text_lines.specs.Lines.{form_of}
use Rattle.text_lines.specs.declared.lines.lines.Form.{Form}
use Rattle.text_lines.specs.declared.lines.lines.Form.TheVariants as form
use Rattle.recursor_text.specs.Lines.{is_world_line}
use Rattle.recursor_text.specs.WorldSteps as world
use Rattle.recursor_text.specs.WorldSteps.{may_close, world_of}
use Rattle.recursor_text.specs.declared.world_reading.draft.WorldDraft.{WorldDraft}
use Rattle.recursor_text.specs.declared.scenario.Scenario.{Scenario}
use Rattle.recursor_text.specs.declared.scenario.Upstream.TheVariants.{World as FromWorld}
use Rattle.recursor_text.specs.declared.reading.draft.Stage.{Stage}
use Rattle.recursor_text.specs.declared.reading.draft.Stage.TheVariants.{Start, Scripted, Asked}
use Rattle.recursor_text.specs.declared.reading.draft.Draft.{Draft}
use Rattle.recursor_text.specs.declared.reading.draft.Place.{Place}
use Rattle.recursor_text.specs.declared.reading.draft.Refusal.{Refusal}
use Rattle.recursor_text.specs.declared.reading.whole.WholeDraft.{WholeDraft}
use Rattle.recursor_text.specs.Steps as draft
use Rattle.recursor_text.specs.Steps.{may_tell, may_reply, put}
use Rattle.recursor_text.specs.Unbuilt as unbuilt
use Rattle.recursor_text.specs.Unbuilt.{refusal_at}

-- a question, a turn and the end come after the lines of the upstream
abbrev pub is_late : Form → Bool
is_late (form.Question q) = true
is_late (form.Turn t) = true
is_late form.End = true
is_late _ = false

abbrev pub late : Draft → List ℕ → Option Draft
late d line = form_of line >>= λ f. if is_late f then put d f else None

abbrev pub is_told_world : List ℕ → Bool
is_told_world line = bytes_eq line (codes "told world")

-- the line is one of the world
abbrev pub in_world : WorldDraft → Draft → List ℕ → Bool
in_world w d line = may_reply d.stage && (is_some w.pending || is_world_line line)

abbrev pub beside : Option WorldDraft → Draft → WholeDraft
beside w d = record { draft = d; world = w }

abbrev pub start : WholeDraft
start = beside None draft.start

-- one line more, where no world is told yet
abbrev pub plain_taken : Draft → List ℕ → Option WholeDraft
plain_taken d line =
    if may_tell d.stage && is_told_world line then Some (beside (Some world.start) (record d { stage = Scripted }))
    else draft.taken d line >>= λ e. Some (beside None e)

-- one line of the world more
abbrev pub world_taken : WorldDraft → Draft → List ℕ → Option WholeDraft
world_taken w d line = world.taken w line >>= λ v. Some (beside (Some v) d)

-- one line more, after those of the world, where it is whole
abbrev pub late_taken : WorldDraft → Draft → List ℕ → Option WholeDraft
late_taken w d line = if may_close w then (late d line >>= λ e. Some (beside (Some w) e)) else None

-- one line more, where this world is told
abbrev pub beside_taken : WorldDraft → Draft → List ℕ → Option WholeDraft
beside_taken w d line = if in_world w d line then world_taken w d line else late_taken w d line

abbrev pub taken_by : Option WorldDraft → Draft → List ℕ → Option WholeDraft
taken_by None d line = plain_taken d line
taken_by (Some w) d line = beside_taken w d line

-- one line more
abbrev pub taken : WholeDraft → List ℕ → Option WholeDraft
taken d line = taken_by d.world d.draft line

-- the scenario, told from a world where there is one
abbrev pub told_from : Scenario → Option WorldDraft → Scenario
told_from s None = s
told_from s (Some w) = record s { upstream = FromWorld (world_of w) }

abbrev pub scenario_of : WholeDraft → Scenario
scenario_of d = told_from (draft.scenario_of d.draft) d.world

-- ---- where the next line stands

abbrev pub stage_beside : WorldDraft → Draft → Stage
stage_beside w d = if not (may_close w) then Start else if may_reply d.stage then Asked else d.stage

-- a record that the world owes, or a question after the lines of the world
abbrev pub place_beside : WorldDraft → Draft → Place
place_beside w d = record (unbuilt.place_of d) { stage = stage_beside w d; owes = is_some w.pending }

abbrev pub place_by : Option WorldDraft → Draft → Place
place_by None d = unbuilt.place_of d
place_by (Some w) d = place_beside w d

abbrev pub place_of : WholeDraft → Place
place_of d = place_by d.world d.draft

-- how a line that a draft does not take is refused
unfoldable pub refusal_of : WholeDraft → List ℕ → Refusal
refusal_of d line = refusal_at (place_of d) line
