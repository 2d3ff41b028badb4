-- The text of a scenario, as bytes, is read again.
use Rattle.std.proofs.Common.{◌≡◌, ℕ, ◌+◌, Bool, true, false, ◌&&◌, ◌||◌, cond, eqb, ltb, List, [], ◌∷◌, ◌++◌, length, Option, Some, None, Result, Ok, Err, refl, sym, ap, subst, ◌∙◌, append_assoc, inl, inr}
use Rattle.std.specs.Prelude.{IfOk, codes}
use Rattle.std.proofs.lemmas.Bool.{le-ltb, and_parts}
use Rattle.text_lines.specs.Pieces.{pieces}
use Rattle.text_lines.specs.Numbers.{◌>>=◌}
use Rattle.text_lines.specs.declared.lines.rules.OpenRule.{OpenRule}
use Rattle.recursor_text.specs.declared.reading.draft.Stage.TheVariants.{Ended}
use Rattle.recursor_text.specs.declared.reading.draft.Draft.{Draft}
use Rattle.recursor_text.specs.declared.reading.whole.WholeDraft.{WholeDraft}
use Rattle.recursor_text.specs.declared.scenario.Scenario.{Scenario}
use Rattle.recursor_text.specs.declared.scenario.ScenarioError.{ScenarioError}
use Rattle.text_lines.specs.Lines.{form_of}
use Rattle.text_lines.specs.RecordLines.{record_of}
use Rattle.recursor_text.specs.Steps.{may_tell, settle, add, put, taken_at, is_ended}
use Rattle.recursor_text.specs.Steps as draft
use Rattle.recursor_text.specs.Whole.{start, is_late, late, is_told_world, in_world, beside, world_taken, late_taken, taken_by, taken, scenario_of, refusal_of}
use Rattle.recursor_text.specs.declared.world_reading.draft.OpenZone.{OpenZone}
use Rattle.recursor_text.specs.declared.world_reading.draft.WorldDraft.{WorldDraft}
use Rattle.recursor_text.specs.Lines.{world_form_of}
use Rattle.recursor_text.specs.WorldSteps.{may_close}
use Rattle.recursor_text.specs.WorldSteps as told
use Rattle.recursor_text.proofs.FormLaws as world
use Rattle.text_lines.specs.Texts.{record_words}
use Rattle.recursor_text.specs.Reading.{step_by, step, finish, onward, read_from, scenario_in, GivesScenario}
use Rattle.text_lines.specs.Spelling.{spelled}
use Rattle.recursor_text.specs.Spelling.{scenario_lines, text_of, Reads}
use Rattle.text_lines.proofs.StepsThatFail.{bind_some, guard_some, chosen}
use Rattle.text_lines.proofs.FieldLaws.{bytes_same}
use Rattle.text_lines.proofs.PlainLaws.{AllBytes, AllPlain, split_at_byte, weaker, joined_plain}
use Rattle.text_lines.proofs.NumberLaws.{is_word_byte}
use Rattle.text_lines.proofs.LineLaws.{form_words, form_takes, form_plain}
use Rattle.text_lines.proofs.RecordLaws.{record_takes, record_plain}
use Rattle.recursor_text.proofs.BesideRuns.{run, run_again, draft_is}
use Rattle.recursor_text.proofs.WholeLaws.{found}

abbrev is_line_byte : ℕ → Bool
is_line_byte b = is_word_byte b || eqb b 32

word_in_line : (x : ℕ) → is_word_byte x ≡ true → is_line_byte x ≡ true
word_in_line x e = rw e refl

plain_words : (ws : List (List ℕ)) → AllPlain is_word_byte ws → AllPlain is_line_byte ws
plain_words [] all = tt
plain_words (w ∷ ws) all = (weaker is_word_byte is_line_byte w word_in_line all.0, plain_words ws all.1)

plain_line : (ws : List (List ℕ)) → AllPlain is_word_byte ws → AllBytes is_line_byte (spelled ws)
plain_line ws all = joined_plain is_line_byte 32 ws refl (plain_words ws all)

taken_plain : (p : Option OpenRule) (d : Draft) (line : List ℕ) (e : Draft) → taken_at p d line ≡ Some e → AllBytes is_line_byte line
taken_plain None d line e h =
    let b = bind_some (form_of line) (put d) e h in
    let t = form_takes line b.0 b.1 in
    subst (AllBytes is_line_byte) (sym t.0) (plain_line (form_words b.0) (form_plain b.0 t.1))
taken_plain (Some o) d line e h =
    let b = bind_some (record_of line) (λ r. add o r >>= λ p. Some (settle d p)) e h in
    let t = record_takes line b.0 b.1 in
    subst (AllBytes is_line_byte) (sym t.0) (plain_line (record_words b.0) (record_plain b.0 t.1))

world_plain : (p : Option OpenZone) (w : WorldDraft) (line : List ℕ) (v : WorldDraft) → told.taken_at p w line ≡ Some v → AllBytes is_line_byte line
world_plain None w line v h =
    let b = bind_some (world_form_of line) (told.put w) v h in
    let t = world.form_takes line b.0 b.1 in
    subst (AllBytes is_line_byte) (sym t.0) (plain_line (world.form_words b.0) (world.form_plain b.0 t.1))
world_plain (Some o) w line v h =
    let b = bind_some (record_of line) (λ r. cond (eqb r.dns_class.code 1) (Some (told.settled w (told.filled o r))) None) v h in
    let t = record_takes line b.0 b.1 in
    subst (AllBytes is_line_byte) (sym t.0) (plain_line (record_words b.0) (record_plain b.0 t.1))

late_plain : (d : Draft) (line : List ℕ) (e : Draft) → late d line ≡ Some e → AllBytes is_line_byte line
late_plain d line e h =
    let b = bind_some (form_of line) (λ f. cond (is_late f) (put d f) None) e h in
    let t = form_takes line b.0 b.1 in
    subst (AllBytes is_line_byte) (sym t.0) (plain_line (form_words b.0) (form_plain b.0 t.1))

whole_plain : (w : Option WorldDraft) (d : Draft) (line : List ℕ) (e : WholeDraft) → taken_by w d line ≡ Some e → AllBytes is_line_byte line
whole_plain None d line e h = elim (chosen (may_tell d.stage && is_told_world line) _ (draft.taken d line >>= λ x. Some (beside None x)) (Some e) h) [
  | inl k ↦ let p = and_parts (may_tell d.stage) (is_told_world line) k.0 in subst (AllBytes is_line_byte) (sym (bytes_same line (codes "told world") p.1)) refl
  | inr k ↦ let b = bind_some (draft.taken d line) (λ x. Some (beside None x)) e k.1 in taken_plain d.pending d line b.0 b.1
]
whole_plain (Some w) d line e h = elim (chosen (in_world w d line) (world_taken w d line) (late_taken w d line) (Some e) h) [
  | inl k ↦ let b = bind_some (told.taken w line) (λ v. Some (beside (Some v) d)) e k.1 in world_plain w.pending w line b.0 b.1
  | inr k ↦
      let g = guard_some (may_close w) (late d line >>= λ x. Some (beside (Some w) x)) e k.1 in
      let b = bind_some (late d line) (λ x. Some (beside (Some w) x)) e g.1 in
      late_plain d line b.0 b.1
]

run_plain : (d e : WholeDraft) (ls : List (List ℕ)) → run d ls ≡ Some e → AllPlain is_line_byte ls
run_plain d e [] h = tt
run_plain d e (l ∷ ls) h = let b = bind_some (taken d l) (λ m. run m ls) e h in (whole_plain d.world d.draft l b.0 b.1, run_plain b.0 e ls b.2)

text_pieces : (ls : List (List ℕ)) → AllPlain is_line_byte ls → pieces 10 (text_of ls) ≡ ls ++ [] ∷ []
text_pieces [] all = refl
text_pieces (l ∷ ls) all =
    ap (pieces 10) (append_assoc l (10 ∷ []) (text_of ls)) ∙ split_at_byte is_line_byte 10 l (text_of ls) refl all.0 ∙ ap (λ (r : List (List ℕ)). l ∷ r) (text_pieces ls all.1)

ends_well : (d : WholeDraft) (n : ℕ) → d.draft.stage ≡ Ended → finish d n [] ≡ Ok (scenario_of d)
ends_well d n is = let e : is_ended d.draft.stage ≡ true = ap is_ended is in rw e refl

-- where a line comes first, it does not stand last
read_cons : (d : WholeDraft) (n : ℕ) (l : List ℕ) (ls : List (List ℕ)) → read_from d n (l ∷ (ls ++ [] ∷ [])) ≡ onward n (step d l) (λ e. read_from e (n + 1) (ls ++ [] ∷ []))
unfolding read_from
read_cons d n l [] = refl
read_cons d n l (m ∷ ls) = refl

read_end : (d : WholeDraft) (n : ℕ) → read_from d n ([] ∷ []) ≡ finish d n []
unfolding read_from
read_end d n = refl

read_run : (d e : WholeDraft) (n : ℕ) (ls : List (List ℕ)) → run d ls ≡ Some e → e.draft.stage ≡ Ended → read_from d n (ls ++ [] ∷ []) ≡ Ok (scenario_of e)
read_run d e n [] h is =
    read_end d n ∙ ap (λ (x : WholeDraft). finish x n []) (draft_is d e h) ∙ ends_well e n is
read_run d e n (l ∷ ls) h is =
    let b = bind_some (taken d l) (λ m. run m ls) e h in
    read_cons d n l ls ∙ ap (λ (o : Option WholeDraft). onward n (step_by o (refusal_of d l)) (λ e. read_from e (n + 1) (ls ++ [] ∷ []))) b.1 ∙ read_run b.0 e (n + 1) ls b.2 is

only : (bytes : List ℕ) (s : Scenario) → Reads bytes s → scenario_in bytes ≡ Ok s
only bytes s reads =
    let r = run_again reads.written s reads.fits in
    let cut : pieces 10 bytes ≡ scenario_lines reads.written s ++ [] ∷ [] = ap (pieces 10) reads.text ∙ text_pieces (scenario_lines reads.written s) (run_plain start r.0 (scenario_lines reads.written s) r.1) in
    let short : ltb 16777216 (length bytes) ≡ false = le-ltb _ _ reads.short in
    rw short (ap (read_from start 1) cut ∙ read_run start r.0 1 (scenario_lines reads.written s) r.1 r.2 ∙ ap (λ (x : Scenario). Ok x) r.3)

-- a text has one reading at most
pub one_reading : (bytes : List ℕ) (s t : Scenario) → Reads bytes s → Reads bytes t → s ≡ t
one_reading bytes s t first second = let e = sym (only bytes s first) ∙ only bytes t second in cc

pub found_in : (bytes : List ℕ) (r : Result Scenario ScenarioError) → GivesScenario r (scenario_in bytes) → IfOk r (λ s. Reads bytes s)
found_in bytes (Ok s) gives = found bytes s gives
found_in bytes (Err e) gives = tt

pub only_in : (bytes : List ℕ) (s : Scenario) (r : Result Scenario ScenarioError) → Reads bytes s → GivesScenario r (scenario_in bytes) → GivesScenario r (Ok s)
only_in bytes s r reads gives = subst (λ (x : Result Scenario ScenarioError). GivesScenario r x) (only bytes s reads) gives
