-- What a draft holds beside a world is what the lines so far say.
use Rattle.std.proofs.Common.{◌≡◌, ℕ, ◌<◌, ◌≤◌, true, ◌&&◌, cond, ltb, leb, List, [], ◌∷◌, ◌++◌, length, Option, Some, None, refl, sym, ap, subst, ◌∙◌, arith, append_assoc, lit<, inl, inr}
use Rattle.std.specs.Prelude.{codes}
use Rattle.std.proofs.lemmas.Bool.{and_parts, ltb-true, leb-true}
use Rattle.std.proofs.lemmas.List.{append-nil}
use Rattle.text_lines.specs.Numbers.{◌>>=◌}
use Rattle.text_lines.specs.Spelling.{spelled}
use Rattle.text_lines.proofs.StepsThatFail.{bind_some, guard_some, some_is, chosen}
use Rattle.text_lines.proofs.FieldLaws.{bytes_same}
use Rattle.text_lines.specs.declared.lines.lines.Form.{Form}
use Rattle.text_lines.specs.declared.lines.lines.Form.TheVariants as form
use Rattle.text_lines.specs.Lines.{form_of}
use Rattle.text_lines.specs.LineSpelling.{question_line, turn_line, end_words}
use Rattle.text_lines.proofs.LineLaws.{form_words, IsForm, form_takes}
use Rattle.recursor_text.specs.declared.world_reading.draft.WorldDraft.{WorldDraft}
use Rattle.recursor_text.specs.WorldSteps.{may_close, world_of}
use Rattle.recursor_text.specs.WorldSteps as world
use Rattle.recursor_text.proofs.WorldDraftLaws as told
use Rattle.recursor_text.specs.declared.scenario.Scenario.{Scenario}
use Rattle.recursor_text.specs.declared.reading.draft.Stage.{Stage}
use Rattle.recursor_text.specs.declared.reading.draft.Stage.TheVariants.{Start, Headed, Rooted, Optioned, Patient, Scripted, Asked, Turned, Ended}
use Rattle.recursor_text.specs.declared.reading.draft.Draft.{Draft}
use Rattle.recursor_text.specs.declared.reading.whole.WholeDraft.{WholeDraft}
use Rattle.recursor_text.specs.Spelling.{to_patience, to_world, told_world_words, to_rules, to_questions, to_turns, scenario_lines, most_questions, most_turns, last_moment, IsScenario}
use Rattle.recursor_text.specs.Steps as draft
use Rattle.recursor_text.specs.Steps.{may_tell, may_reply, may_ask, may_turn, may_end, is_ended, is_short, put}
use Rattle.recursor_text.specs.Whole.{is_late, late, is_told_world, in_world, beside, start, plain_taken, world_taken, late_taken, beside_taken, taken_by, taken, told_from, scenario_of}
use Rattle.recursor_text.proofs.OpenRuleLaws.{mapped_push}
use Rattle.recursor_text.proofs.DraftLaws.{rank, with_question, with_turn}
use Rattle.recursor_text.proofs.DraftLaws as plain

-- what the lines say, told from a world
abbrev pub told_of : WorldDraft → Draft → Scenario
told_of w d = told_from (draft.scenario_of d) (Some w)

-- a draft that is told a world, after all that stands before the world's lines
pub record GoodBeside (w : WorldDraft) (d : Draft) : Type 0 where
  pub draft : plain.Good d
  pub world : told.Good w
  pub later : 5 ≤ rank d.stage
  pub no_rules : d.rules ≡ []
  pub shut : d.pending ≡ None
  pub closed : 6 ≤ rank d.stage → may_close w ≡ true

abbrev pub GoodBy : Option WorldDraft → Draft → Type 0
GoodBy None d = plain.Good d
GoodBy (Some w) d = GoodBeside w d

abbrev pub Good : WholeDraft → Type 0
Good d = GoodBy d.world d.draft

abbrev pub so_far_beside : Stage → WorldDraft → Draft → List (List ℕ)
so_far_beside Scripted w d = to_world d.roots d.written d.patience ++ told.so_far w
so_far_beside Asked w d = to_questions d.written (told_of w d)
so_far_beside Turned w d = to_turns d.written (told_of w d)
so_far_beside Ended w d = scenario_lines d.written (told_of w d)
so_far_beside _ w d = []

abbrev pub so_far_by : Option WorldDraft → Draft → List (List ℕ)
so_far_by None d = plain.so_far d
so_far_by (Some w) d = so_far_beside d.stage w d

-- the lines so far
abbrev pub so_far : WholeDraft → List (List ℕ)
so_far d = so_far_by d.world d.draft

-- a line more
abbrev pub Takes : WholeDraft → List ℕ → WholeDraft → Type 0
Takes d line e = Good e × (so_far e ≡ so_far d ++ line ∷ [])

-- ---- where the world is whole

world_told : (w : WorldDraft) (d : Draft) → told.Good w → may_close w ≡ true → so_far_beside Scripted w d ≡ to_rules d.written (told_of w d)
world_told w d g e = ap (λ (l : List (List ℕ)). to_world d.roots d.written d.patience ++ l) (told.closed_is w g e).1

at_questions : (s : Stage) (w : WorldDraft) (d : Draft) → may_ask s ≡ true → told.Good w → may_close w ≡ true → (rank s < 6 → d.questions ≡ []) → so_far_beside s w d ≡ to_questions d.written (told_of w d)
at_questions Scripted w d e g shut none = rw (none (lit< tt)) (world_told w d g shut ∙ sym (append-nil (to_rules d.written (told_of w d))))
at_questions Asked w d e g shut none = refl
at_questions Start w d e g shut none = absurd cc
at_questions Headed w d e g shut none = absurd cc
at_questions Rooted w d e g shut none = absurd cc
at_questions Optioned w d e g shut none = absurd cc
at_questions Patient w d e g shut none = absurd cc
at_questions Turned w d e g shut none = absurd cc
at_questions Ended w d e g shut none = absurd cc

at_turns : (s : Stage) (w : WorldDraft) (d : Draft) → may_turn s ≡ true → told.Good w → may_close w ≡ true → (rank s < 6 → d.questions ≡ []) → (rank s < 7 → d.turns ≡ []) → so_far_beside s w d ≡ to_turns d.written (told_of w d)
at_turns Scripted w d e g shut none neither =
    at_questions Scripted w d refl g shut none ∙ rw (neither (lit< tt)) (sym (append-nil (to_questions d.written (told_of w d))))
at_turns Asked w d e g shut none neither = rw (neither (lit< tt)) (sym (append-nil (to_questions d.written (told_of w d))))
at_turns Turned w d e g shut none neither = refl
at_turns Start w d e g shut none neither = absurd cc
at_turns Headed w d e g shut none neither = absurd cc
at_turns Rooted w d e g shut none neither = absurd cc
at_turns Optioned w d e g shut none neither = absurd cc
at_turns Patient w d e g shut none neither = absurd cc
at_turns Ended w d e g shut none neither = absurd cc

end_as : (s : Stage) → may_end s ≡ may_turn s
end_as Start = refl
end_as Headed = refl
end_as Rooted = refl
end_as Optioned = refl
end_as Patient = refl
end_as Scripted = refl
end_as Asked = refl
end_as Turned = refl
end_as Ended = refl

abbrev Late : WorldDraft → Draft → List ℕ → Draft → Type 0
Late w d line e = Takes (beside (Some w) d) line (beside (Some w) e)

put_late : (w : WorldDraft) (d : Draft) (f : Form) (e : Draft) → GoodBeside w d → may_close w ≡ true → IsForm f → is_late f ≡ true → put d f ≡ Some e → Late w d (spelled (form_words f)) e
put_late w d (form.Question q) e g shut fits late h =
    let k = guard_some (may_ask d.stage && ltb (length d.questions) most_questions && is_short d.written q) (Some (with_question d q)) e h in
    let a = plain.may_be_asked d q k.0 in
    let t = plain.asked d q g.draft (fits, a.short) a.may a.room g.shut in
    let at = at_questions d.stage w d a.may g.world shut g.draft.no_questions in
    subst (Late w d (question_line q)) (some_is (with_question d q) e k.1) (
      record { draft = t.0; world = g.world; later = omega arith; no_rules = g.no_rules; shut = g.shut; closed = λ h. shut },
      mapped_push question_line (to_rules d.written (told_of w d)) d.questions q ∙ sym (ap (λ (l : List (List ℕ)). l ++ question_line q ∷ []) at),
    )
put_late w d (form.Turn t) e g shut fits late h =
    let k = guard_some (may_turn d.stage && ltb (length d.turns) most_turns && leb (last_moment 0 d.turns) t.moment) (Some (with_turn d t)) e h in
    let p = and_parts (may_turn d.stage && ltb (length d.turns) most_turns) (leb (last_moment 0 d.turns) t.moment) k.0 in
    let q = and_parts (may_turn d.stage) (ltb (length d.turns) most_turns) p.0 in
    let u = plain.turned d t g.draft fits q.0 (ltb-true _ _ q.1) (leb-true _ _ p.1) g.shut in
    let at = at_turns d.stage w d q.0 g.world shut g.draft.no_questions g.draft.no_turns in
    subst (Late w d (turn_line t)) (some_is (with_turn d t) e k.1) (
      record { draft = u.0; world = g.world; later = omega arith; no_rules = g.no_rules; shut = g.shut; closed = λ h. shut },
      mapped_push turn_line (to_questions d.written (told_of w d)) d.turns t ∙ sym (ap (λ (l : List (List ℕ)). l ++ turn_line t ∷ []) at),
    )
put_late w d form.End e g shut fits late h =
    let k = guard_some (may_end d.stage) (Some (record d { stage = Ended })) e h in
    let t = plain.ended d g.draft k.0 g.shut in
    let at = at_turns d.stage w d (sym (end_as d.stage) ∙ k.0) g.world shut g.draft.no_questions g.draft.no_turns in
    subst (Late w d (spelled end_words)) (some_is (record d { stage = Ended }) e k.1) (
      record { draft = t.0; world = g.world; later = omega arith; no_rules = g.no_rules; shut = g.shut; closed = λ h. shut },
      sym (ap (λ (l : List (List ℕ)). l ++ spelled end_words ∷ []) at),
    )
put_late w d form.Head e g shut fits late h = absurd cc
put_late w d (form.Root ip) e g shut fits late h = absurd cc
put_late w d (form.Option o) e g shut fits late h = absurd cc
put_late w d (form.Patience n) e g shut fits late h = absurd cc
put_late w d form.ToldScript e g shut fits late h = absurd cc
put_late w d (form.Reply o) e g shut fits late h = absurd cc
put_late w d (form.Rule r) e g shut fits late h = absurd cc

late_takes : (w : WorldDraft) (d : Draft) (line : List ℕ) (e : WholeDraft) → GoodBeside w d → late_taken w d line ≡ Some e → Takes (beside (Some w) d) line e
late_takes w d line e g h =
    let k = guard_some (may_close w) (late d line >>= λ x. Some (beside (Some w) x)) e h in
    let b = bind_some (late d line) (λ x. Some (beside (Some w) x)) e k.1 in
    let c = bind_some (form_of line) (λ f. cond (is_late f) (put d f) None) b.0 b.1 in
    let i = guard_some (is_late c.0) (put d c.0) b.0 c.2 in
    let t = form_takes line c.0 c.1 in
    subst (λ (l : List ℕ). Takes (beside (Some w) d) l e) (sym t.0) (subst (Takes (beside (Some w) d) (spelled (form_words c.0))) (some_is (beside (Some w) b.0) e b.2) (put_late w d c.0 b.0 g k.0 t.1 i.0 i.1))

-- ---- the world's own lines

world_takes : (w : WorldDraft) (d : Draft) (line : List ℕ) (e : WholeDraft) → GoodBeside w d → may_reply d.stage ≡ true → world_taken w d line ≡ Some e → Takes (beside (Some w) d) line e
world_takes w d line e g may h =
    let b = bind_some (world.taken w line) (λ v. Some (beside (Some v) d)) e h in
    let t = told.taken_takes w line b.0 g.world b.1 in
    let is : d.stage ≡ Scripted = plain.reply_rank d.stage may in
    let r : rank d.stage ≡ 5 = ap rank is in
    let front = to_world d.roots d.written d.patience in
    subst (Takes (beside (Some w) d) line) (some_is (beside (Some b.0) d) e b.2) (
      record { draft = g.draft; world = t.0; later = g.later; no_rules = g.no_rules; shut = g.shut; closed = λ k. absurd (omega arith) },
      ap (λ (s : Stage). so_far_beside s b.0 d) is ∙ ap (λ (l : List (List ℕ)). front ++ l) t.1 ∙ sym (append_assoc front (told.so_far w) (line ∷ []))
          ∙ sym (ap (λ (s : Stage). so_far_beside s w d ++ line ∷ []) is),
    )

beside_takes : (w : WorldDraft) (d : Draft) (line : List ℕ) (e : WholeDraft) → GoodBeside w d → beside_taken w d line ≡ Some e → Takes (beside (Some w) d) line e
beside_takes w d line e g h = elim (chosen (in_world w d line) (world_taken w d line) (late_taken w d line) (Some e) h) [
  | inl k ↦ let p = and_parts (may_reply d.stage) _ k.0 in world_takes w d line e g p.0 k.1
  | inr k ↦ late_takes w d line e g k.1
]

-- ---- the line that tells a world

abbrev begun : Draft → WholeDraft
begun d = beside (Some world.start) (record d { stage = Scripted })

begins : (d : Draft) (line : List ℕ) → plain.Good d → may_tell d.stage ≡ true → is_told_world line ≡ true → Takes (beside None d) line (begun d)
begins d line g may same =
    let is : d.stage ≡ Patient = plain.tell_rank d.stage may in
    let r : rank d.stage ≡ 4 = ap rank is in
    let shut : d.pending ≡ None = g.no_pending (λ e. omega arith) in
    let t = plain.told d g may shut in
    let spelt : line ≡ spelled told_world_words = bytes_same line (codes "told world") same in (
      record { draft = t.0; world = told.start_good; later = omega arith; no_rules = g.no_rules (omega arith); shut = shut; closed = λ k. absurd (omega arith) },
      append-nil (to_world d.roots d.written d.patience) ∙ ap (λ (l : List ℕ). to_patience d.roots d.written d.patience ++ l ∷ []) (sym spelt) ∙ sym (ap (λ (s : Stage). plain.so_far_at s d ++ line ∷ []) is),
    )

plain_takes : (d : Draft) (line : List ℕ) (e : WholeDraft) → plain.Good d → plain_taken d line ≡ Some e → Takes (beside None d) line e
plain_takes d line e g h = elim (chosen (may_tell d.stage && is_told_world line) (Some (begun d)) (draft.taken d line >>= λ x. Some (beside None x)) (Some e) h) [
  | inl k ↦ let p = and_parts (may_tell d.stage) (is_told_world line) k.0 in subst (Takes (beside None d) line) (some_is (begun d) e k.1) (begins d line g p.0 p.1)
  | inr k ↦
      let b = bind_some (draft.taken d line) (λ x. Some (beside None x)) e k.1 in
      subst (Takes (beside None d) line) (some_is (beside None b.0) e b.2) (plain.taken_takes d line b.0 g b.1)
]

by_world : (w : Option WorldDraft) (d : Draft) (line : List ℕ) (e : WholeDraft) → GoodBy w d → taken_by w d line ≡ Some e → Takes (beside w d) line e
by_world None d line e g h = plain_takes d line e g h
by_world (Some w) d line e g h = beside_takes w d line e g h

pub taken_takes : (d : WholeDraft) (line : List ℕ) (e : WholeDraft) → Good d → taken d line ≡ Some e → Takes d line e
taken_takes d line e g h = by_world d.world d.draft line e g h

pub start_good : Good start
start_good = plain.start_good

-- ---- a whole scenario

abbrev Whole : WholeDraft → Type 0
Whole d = IsScenario d.draft.written (scenario_of d) × (so_far d ≡ scenario_lines d.draft.written (scenario_of d))

ended_beside : (w : WorldDraft) (d : Draft) → GoodBeside w d → is_ended d.stage ≡ true → Whole (beside (Some w) d)
ended_beside w d g e =
    let is : d.stage ≡ Ended = plain.end_rank d.stage e in
    let r : rank d.stage ≡ 8 = ap rank is in
    let t = (plain.ended_is d g.draft e).0 in (
      record {
        rooted = t.rooted;
        few_roots = t.few_roots;
        roots = t.roots;
        ordered = t.ordered;
        valued = t.valued;
        options = t.options;
        patience = t.patience;
        upstream = (told.closed_is w g.world (g.closed (omega arith))).0;
        few_questions = t.few_questions;
        questions = t.questions;
        few_turns = t.few_turns;
        turns = t.turns;
        timed = t.timed;
      },
      ap (λ (s : Stage). so_far_beside s w d) is,
    )

ended_by : (w : Option WorldDraft) (d : Draft) → GoodBy w d → is_ended d.stage ≡ true → Whole (beside w d)
ended_by None d g e = plain.ended_is d g e
ended_by (Some w) d g e = ended_beside w d g e

pub ended_is : (d : WholeDraft) → Good d → is_ended d.draft.stage ≡ true → Whole d
ended_is d g e = ended_by d.world d.draft g e
