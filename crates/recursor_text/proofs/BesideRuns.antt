-- The lines of a scenario are taken again, and each draft can be brought to its end, also beside a world.
use Rattle.std.proofs.Common.{◌≡◌, ℕ, ◌+◌, ◌<◌, ◌≤◌, Bool, true, false, not, ◌&&◌, ◌||◌, List, [], ◌∷◌, ◌++◌, length, map, Option, Some, None, refl, sym, ap, subst, ◌∙◌, arith, append_assoc, lit<, inl, inr}
use Rattle.std.specs.Prelude.{codes, is_some}
use Rattle.std.specs.List.{AllByRecursion}
use Rattle.std.proofs.lemmas.Bool.{and_parts, cases_Bool}
use Rattle.std.proofs.lemmas.List.{append-nil, length_push}
use Rattle.dns_core.specs.declared.request.Question.{Question}
use Rattle.dns_core.specs.declared.request.Turn.{Turn}
use Rattle.text_lines.specs.Numbers.{◌>>=◌}
use Rattle.text_lines.specs.Spelling.{spelled}
use Rattle.text_lines.proofs.StepsThatFail.{bind_some}
use Rattle.text_lines.proofs.FieldLaws.{bytes_same}
use Rattle.text_lines.proofs.WordLaws.{words_again}
use Rattle.text_lines.specs.declared.lines.lines.Form.{Form}
use Rattle.text_lines.specs.declared.lines.lines.Form.TheVariants as form
use Rattle.text_lines.specs.declared.lines.option_form.OptionLine.{OptionLine}
use Rattle.text_lines.specs.declared.lines.rules.OpenRule.{OpenRule}
use Rattle.text_lines.specs.Lines.{form_of, forms_of, told_of}
use Rattle.text_lines.specs.RecordLines.{records_of, record_head}
use Rattle.text_lines.specs.LineSpelling.{question_line, turn_line, end_words, options_with, IsTurn}
use Rattle.text_lines.proofs.LineLaws.{form_words, IsForm, form_plain, form_again}
use Rattle.zone_rules.specs.declared.world.World.{World}
use Rattle.recursor_text.specs.declared.world_reading.draft.OpenZone.{OpenZone}
use Rattle.recursor_text.specs.declared.world_reading.draft.WorldDraft.{WorldDraft}
use Rattle.recursor_text.specs.Lines.{world_form_of, starts_world, is_world_line}
use Rattle.recursor_text.specs.WorldSpelling.{world_lines}
use Rattle.recursor_text.specs.WorldSteps.{may_host, may_close, world_of}
use Rattle.recursor_text.specs.WorldSteps as world
use Rattle.recursor_text.proofs.FormLaws.{form_starts}
use Rattle.recursor_text.proofs.RunLaws as told
use Rattle.recursor_text.specs.declared.scenario.Scenario.{Scenario}
use Rattle.recursor_text.specs.declared.scenario.Upstream.{Upstream}
use Rattle.recursor_text.specs.declared.scenario.Upstream.TheVariants.{Script as FromScript, World as FromWorld}
use Rattle.recursor_text.specs.declared.reading.draft.Stage.{Stage}
use Rattle.recursor_text.specs.declared.reading.draft.Stage.TheVariants.{Start, Headed, Rooted, Optioned, Patient, Scripted, Asked, Turned, Ended}
use Rattle.recursor_text.specs.declared.reading.draft.Draft.{Draft}
use Rattle.recursor_text.specs.declared.reading.whole.WholeDraft.{WholeDraft}
use Rattle.recursor_text.specs.Spelling.{to_patience, to_world, told_world_words, to_rules, to_questions, to_turns, scenario_lines, most_questions, most_turns, last_moment, NoneFalls, IsAsked, IsScenario}
use Rattle.recursor_text.specs.Steps as draft
use Rattle.recursor_text.specs.Steps.{may_tell, may_reply, may_end, put, taken_at}
use Rattle.recursor_text.specs.Whole.{is_late, is_told_world, in_world, beside, start, taken, scenario_of}
use Rattle.recursor_text.proofs.TurnLaws.{moment_push}
use Rattle.recursor_text.proofs.DraftLaws.{rank}
use Rattle.recursor_text.proofs.AgainLaws.{waiting, asking, turning, turning_at, puts_question, puts_turn, puts_end, with_rules, patience_again, asked_by}
use Rattle.recursor_text.proofs.AgainLaws as again
use Rattle.recursor_text.proofs.CompleteLaws as complete
use Rattle.recursor_text.proofs.BesideLaws.{GoodBeside, GoodBy, Good}

abbrev pub run : WholeDraft → List (List ℕ) → Option WholeDraft
run d [] = Some d
run d (l ∷ ls) = taken d l >>= λ e. run e ls

abbrev some : WholeDraft → Option WholeDraft
some d = Some d

pub draft_is : (d e : WholeDraft) → some d ≡ some e → d ≡ e
draft_is d e h = cc

pub run_append : (d e : WholeDraft) (xs ys : List (List ℕ)) → run d xs ≡ Some e → run d (xs ++ ys) ≡ run e ys
run_append d e [] ys h = ap (λ (x : WholeDraft). run x ys) (draft_is d e h)
run_append d e (x ∷ xs) ys h =
    let b = bind_some (taken d x) (λ m. run m xs) e h in
    ap (λ (o : Option WholeDraft). o >>= λ m. run m (xs ++ ys)) b.1 ∙ run_append b.0 e xs ys b.2

takes : (d e : WholeDraft) (line : List ℕ) (ls : List (List ℕ)) → taken d line ≡ Some e → run d (line ∷ ls) ≡ run e ls
takes d e line ls h = ap (λ (o : Option WholeDraft). o >>= λ m. run m ls) h

-- ---- without a world

abbrev plainly : Option Draft → Option WholeDraft
plainly o = o >>= λ e. Some (beside None e)

no_form : (d : Draft) → form_of (codes "told world") >>= put d ≡ None
unfolding forms_of told_of
no_form d = refl

not_told : (p : Option OpenRule) (d e : Draft) → taken_at p d (codes "told world") ≡ Some e → ⊥
unfolding records_of record_head
not_told None d e h = let both : None ≡ Some e = sym (no_form d) ∙ h in cc
not_told (Some o) d e h = cc

no_world : (d e : Draft) (line : List ℕ) → draft.taken d line ≡ Some e → (may_tell d.stage && is_told_world line) ≡ false
no_world d e line h = elim (cases_Bool (may_tell d.stage && is_told_world line)) [
  | inl k ↦
      let p = and_parts (may_tell d.stage) (is_told_world line) k in
      absurd (not_told d.pending d e (sym (ap (draft.taken d) (bytes_same line (codes "told world") p.1)) ∙ h))
  | inr k ↦ k
]

plain_step : (d e : Draft) (line : List ℕ) → draft.taken d line ≡ Some e → taken (beside None d) line ≡ Some (beside None e)
plain_step d e line h = rw (no_world d e line h) (ap plainly h)

plain_run : (d e : Draft) (ls : List (List ℕ)) → again.run d ls ≡ Some e → run (beside None d) ls ≡ Some (beside None e)
plain_run d e [] h = ap (λ (x : Draft). Some (beside None x)) (again.draft_is d e h)
plain_run d e (l ∷ ls) h =
    let b = bind_some (draft.taken d l) (λ m. again.run m ls) e h in
    takes (beside None d) (beside None b.0) l ls (plain_step d b.0 l b.1) ∙ plain_run b.0 e ls b.2

-- ---- the world's own lines

own_line : (p : Option OpenZone) (w v : WorldDraft) (line : List ℕ) → world.taken_at p w line ≡ Some v → (is_some p || is_world_line line) ≡ true
own_line (Some o) w v line h = refl
own_line None w v line h = let b = bind_some (world_form_of line) (world.put w) v h in form_starts line b.0 b.1

world_step : (w v : WorldDraft) (d : Draft) (line : List ℕ) → may_reply d.stage ≡ true → world.taken w line ≡ Some v → taken (beside (Some w) d) line ≡ Some (beside (Some v) d)
world_step w v d line may h = rw (may, own_line w.pending w v line h) (ap (λ (o : Option WorldDraft). o >>= λ x. Some (beside (Some x) d)) h)

world_run : (w v : WorldDraft) (d : Draft) (ls : List (List ℕ)) → may_reply d.stage ≡ true → world.run w ls ≡ Some v → run (beside (Some w) d) ls ≡ Some (beside (Some v) d)
world_run w v d [] may h = ap (λ (x : WorldDraft). Some (beside (Some x) d)) (told.draft_is w v h)
world_run w v d (l ∷ ls) may h =
    let b = bind_some (world.taken w l) (λ m. world.run m ls) v h in
    takes (beside (Some w) d) (beside (Some b.0) d) l ls (world_step w b.0 d l may b.1) ∙ world_run b.0 v d ls may b.2

-- ---- lines after those of the world

late_some : (f : Form) → is_late f ≡ true → 0 < length (form_words f)
late_some (form.Question q) e = lit< tt
late_some (form.Turn t) e = lit< tt
late_some form.End e = lit< tt
late_some form.Head e = absurd cc
late_some (form.Root ip) e = absurd cc
late_some (form.Option o) e = absurd cc
late_some (form.Patience n) e = absurd cc
late_some form.ToldScript e = absurd cc
late_some (form.Reply o) e = absurd cc
late_some (form.Rule r) e = absurd cc

late_starts : (f : Form) → is_late f ≡ true → starts_world (form_words f) ≡ false
unfolding starts_world
late_starts (form.Question q) e = refl
late_starts (form.Turn t) e = refl
late_starts form.End e = refl
late_starts form.Head e = absurd cc
late_starts (form.Root ip) e = absurd cc
late_starts (form.Option o) e = absurd cc
late_starts (form.Patience n) e = absurd cc
late_starts form.ToldScript e = absurd cc
late_starts (form.Reply o) e = absurd cc
late_starts (form.Rule r) e = absurd cc

late_line : (f : Form) → IsForm f → is_late f ≡ true → is_world_line (spelled (form_words f)) ≡ false
late_line f fits late = ap starts_world (words_again (form_words f) (late_some f late) (form_plain f fits)) ∙ late_starts f late

none_owed : (p : Option OpenZone) → not (is_some p) ≡ true → is_some p ≡ false
none_owed None e = refl
none_owed (Some o) e = absurd cc

and_none : (b : Bool) → (b && false) ≡ false
and_none true = refl
and_none false = refl

not_in_world : (w : WorldDraft) (d : Draft) (line : List ℕ) → may_close w ≡ true → is_world_line line ≡ false → in_world w d line ≡ false
not_in_world w d line shut other =
    let p = and_parts (may_host w.stage) (not (is_some w.pending)) shut in
    rw (none_owed w.pending p.1, other) (and_none (may_reply d.stage))

late_step : (w : WorldDraft) (d e : Draft) (f : Form) → may_close w ≡ true → IsForm f → is_late f ≡ true → put d f ≡ Some e → taken (beside (Some w) d) (spelled (form_words f)) ≡ Some (beside (Some w) e)
late_step w d e f shut fits late h =
    rw (not_in_world w d (spelled (form_words f)) shut (late_line f fits late), shut, form_again f fits, late, h) refl

late_takes : (w : WorldDraft) (d e : Draft) (f : Form) (ls : List (List ℕ)) → may_close w ≡ true → IsForm f → is_late f ≡ true → put d f ≡ Some e → run (beside (Some w) d) (spelled (form_words f) ∷ ls) ≡ run (beside (Some w) e) ls
late_takes w d e f ls shut fits late h = takes (beside (Some w) d) (beside (Some w) e) (spelled (form_words f)) ls (late_step w d e f shut fits late h)

questions_again : (w : WorldDraft) (written : List OptionLine) (sc : Scenario) (front qs : List Question) → may_close w ≡ true → length front + length qs ≤ most_questions → AllByRecursion (IsAsked (options_with written)) qs
    → run (beside (Some w) (asking written sc front)) (map question_line qs) ≡ Some (beside (Some w) (asking written sc (front ++ qs)))
questions_again w written sc front [] shut few all = ap (λ (l : List Question). Some (beside (Some w) (asking written sc l))) (sym (append-nil front))
questions_again w written sc front (q ∷ qs) shut few all =
    late_takes w (asking written sc front) (asking written sc (front ++ q ∷ [])) (form.Question q) (map question_line qs) shut all.0.0 refl (puts_question written sc front q (omega arith) all.0)
    ∙ questions_again w written sc (front ++ q ∷ []) qs shut (omega (arith, length_push front q)) all.1
    ∙ ap (λ (l : List Question). Some (beside (Some w) (asking written sc l))) (append_assoc front (q ∷ []) qs)

turns_again : (w : WorldDraft) (written : List OptionLine) (sc : Scenario) (front ts : List Turn) → may_close w ≡ true → length front + length ts ≤ most_turns → AllByRecursion IsTurn ts → NoneFalls (last_moment 0 front) ts
    → run (beside (Some w) (turning written sc front)) (map turn_line ts) ≡ Some (beside (Some w) (turning written sc (front ++ ts)))
turns_again w written sc front [] shut few all timed = ap (λ (l : List Turn). Some (beside (Some w) (turning written sc l))) (sym (append-nil front))
turns_again w written sc front (t ∷ ts) shut few all timed =
    late_takes w (turning written sc front) (turning written sc (front ++ t ∷ [])) (form.Turn t) (map turn_line ts) shut all.0 refl (puts_turn written sc front t (omega arith) timed.0)
    ∙ turns_again w written sc (front ++ t ∷ []) ts shut (omega (arith, length_push front t)) all.1 (subst (λ (n : ℕ). NoneFalls n ts) (sym (moment_push 0 front t)) timed.1)
    ∙ ap (λ (l : List Turn). Some (beside (Some w) (turning written sc l))) (append_assoc front (t ∷ []) ts)

-- ---- all of it

abbrev Again : List OptionLine → Scenario → Type 0
Again written sc = (d : WholeDraft) × (run start (scenario_lines written sc) ≡ Some d) × (d.draft.stage ≡ Ended) × (scenario_of d ≡ sc)

abbrev from : Scenario → Upstream → Scenario
from sc u = record sc { upstream = u }

scenario_is : (written : List OptionLine) (sc : Scenario) (w : World) (v : WorldDraft) → sc.options ≡ options_with written → world_of v ≡ w
    → scenario_of (beside (Some v) (turning_at Ended written (from sc (FromWorld w)) sc.turns)) ≡ from sc (FromWorld w)
scenario_is written sc w v is same = λ i. record { roots = sc.roots; options = sym is i; patience = sc.patience; upstream = FromWorld (same i); questions = sc.questions; turns = sc.turns }

from_world : (written : List OptionLine) (of : Scenario) (w : World) → IsScenario written (from of (FromWorld w)) → Again written (from of (FromWorld w))
from_world written of w fits =
    let sc = from of (FromWorld w) in
    let rested = waiting sc.roots written sc.patience in
    let v = told.run_again w fits.upstream in
    let r1 : run start (to_patience sc.roots written sc.patience) ≡ Some (beside None rested) = plain_run draft.start rested (to_patience sc.roots written sc.patience) (patience_again written sc fits) in
    let r2 : run start (to_world sc.roots written sc.patience) ≡ Some (beside (Some world.start) (asking written sc [])) =
    run_append start (beside None rested) (to_patience sc.roots written sc.patience) (spelled told_world_words ∷ []) r1 in
    let r3 : run start (to_rules written sc) ≡ Some (beside (Some v.0) (asking written sc [])) = run_append start (beside (Some world.start) (asking written sc [])) (to_world sc.roots written sc.patience) (world_lines w) r2
    ∙ world_run world.start v.0 (asking written sc []) (world_lines w) refl v.1 in
    let r4 : run start (to_questions written sc) ≡ Some (beside (Some v.0) (turning written sc [])) = run_append start (beside (Some v.0) (asking written sc [])) (to_rules written sc) (map question_line sc.questions) r3
    ∙ questions_again v.0 written sc [] sc.questions v.2 (omega (arith, fits.few_questions)) (asked_by written sc fits) in
    let r5 : run start (to_turns written sc) ≡ Some (beside (Some v.0) (turning written sc sc.turns)) = run_append start (beside (Some v.0) (turning written sc [])) (to_questions written sc) (map turn_line sc.turns) r4
    ∙ turns_again v.0 written sc [] sc.turns v.2 (omega (arith, fits.few_turns)) fits.turns fits.timed in
    let r6 : run start (scenario_lines written sc) ≡ Some (beside (Some v.0) (turning_at Ended written sc sc.turns)) = run_append start (beside (Some v.0) (turning written sc sc.turns)) (to_turns written sc) (spelled end_words ∷ []) r5
    ∙ late_takes v.0 (turning written sc sc.turns) (turning_at Ended written sc sc.turns) form.End [] v.2 tt refl (puts_end written sc) in
    (beside (Some v.0) (turning_at Ended written sc sc.turns), r6, refl, scenario_is written of w v.0 fits.options v.3)

by_upstream : (u : Upstream) (written : List OptionLine) (sc : Scenario) → IsScenario written (from sc u) → Again written (from sc u)
by_upstream (FromScript script) written sc fits =
    let r = again.run_again written sc script.lines fits in
    (beside None r.0, plain_run draft.start r.0 (scenario_lines written (from sc (FromScript script))) r.1, r.2, r.3)
by_upstream (FromWorld w) written sc fits = from_world written sc w fits

pub run_again : (written : List OptionLine) (sc : Scenario) → IsScenario written sc → Again written sc
run_again written sc fits = by_upstream sc.upstream written sc fits

-- ---- each draft can be brought to its end

abbrev Completes : WholeDraft → Type 0
Completes d = (ls : List (List ℕ)) × (e : WholeDraft) × (run d ls ≡ Some e) × (e.draft.stage ≡ Ended)

from_whole : (w : WorldDraft) (d : Draft) → may_close w ≡ true → may_end d.stage ≡ true → Completes (beside (Some w) d)
from_whole w d shut may =
    let e : Draft = record d { stage = Ended } in
    (spelled end_words ∷ [], beside (Some w) e, late_takes w d e form.End [] shut tt refl (rw may refl), refl)

from_told : (w : WorldDraft) (d : Draft) → d.stage ≡ Scripted → GoodBeside w d → Completes (beside (Some w) d)
from_told w d is g =
    let c = told.completes w.stage w refl g.world in
    let f = from_whole c.1 d c.3 (ap may_end is) in
    (c.0 ++ f.0, f.1, run_append (beside (Some w) d) (beside (Some c.1) d) c.0 f.0 (world_run w c.1 d c.0 (ap may_reply is) c.2) ∙ f.2, f.3)

early : (s : Stage) (w : WorldDraft) (d : Draft) → d.stage ≡ s → GoodBeside w d → rank s < 5 → Completes (beside (Some w) d)
early s w d is g low = absurd (let r : rank d.stage ≡ rank s = ap rank is in let later : 5 ≤ rank d.stage = g.later in omega arith)

beside_completes : (s : Stage) (w : WorldDraft) (d : Draft) → d.stage ≡ s → GoodBeside w d → Completes (beside (Some w) d)
beside_completes Scripted w d is g = from_told w d is g
beside_completes Asked w d is g = let r : rank d.stage ≡ 6 = ap rank is in from_whole w d (g.closed (omega arith)) (ap may_end is)
beside_completes Turned w d is g = let r : rank d.stage ≡ 7 = ap rank is in from_whole w d (g.closed (omega arith)) (ap may_end is)
beside_completes Ended w d is g = ([], beside (Some w) d, refl, is)
beside_completes Start w d is g = early Start w d is g (lit< tt)
beside_completes Headed w d is g = early Headed w d is g (lit< tt)
beside_completes Rooted w d is g = early Rooted w d is g (lit< tt)
beside_completes Optioned w d is g = early Optioned w d is g (lit< tt)
beside_completes Patient w d is g = early Patient w d is g (lit< tt)

by_world : (w : Option WorldDraft) (d : Draft) → GoodBy w d → Completes (beside w d)
by_world None d g = let c = complete.completes d.stage d refl g in (c.0, beside None c.1, plain_run d c.1 c.0 c.2, c.3)
by_world (Some w) d g = beside_completes d.stage w d refl g

pub completes : (d : WholeDraft) → Good d → Completes d
completes d g = by_world d.world d.draft g
