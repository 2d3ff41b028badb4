-- A whole text is read only where it is spelled so.
use Rattle.std.proofs.Common.{◌≡◌, ℕ, ◌+◌, Bool, true, false, cond, eqb, ltb, List, [], ◌∷◌, ◌++◌, length, Option, Some, None, Result, Ok, refl, sym, ap, subst, ◌∙◌, append_assoc}
use Rattle.std.specs.List.{join_with_byte}
use Rattle.std.proofs.lemmas.Bool.{ltb-false, eqb-true}
use Rattle.std.proofs.lemmas.List.{nil_from_length, append-nil}
use Rattle.text_lines.specs.Pieces.{pieces}
use Rattle.recursor_text.specs.declared.reading.whole.WholeDraft.{WholeDraft}
use Rattle.text_lines.specs.declared.lines.option_form.OptionLine.{OptionLine}
use Rattle.recursor_text.specs.declared.reading.draft.Refusal.{Refusal}
use Rattle.recursor_text.specs.declared.scenario.Scenario.{Scenario}
use Rattle.recursor_text.specs.declared.scenario.ScenarioError.{ScenarioError}
use Rattle.recursor_text.specs.declared.scenario.Cause.{Cause}
use Rattle.recursor_text.specs.declared.scenario.Cause.TheVariants as cause
use Rattle.recursor_text.specs.Steps.{is_ended}
use Rattle.recursor_text.specs.Whole.{start, taken, scenario_of, refusal_of}
use Rattle.recursor_text.specs.Reading.{fails_at, step_by, finish, onward, read_from, scenario_in}
use Rattle.recursor_text.specs.Spelling.{scenario_lines, text_of, IsScenario, Reads}
use Rattle.text_lines.proofs.TextIsCut.{split_cons}
use Rattle.text_lines.proofs.PlainLaws.{pieces_take}
use Rattle.recursor_text.proofs.BesideLaws.{Good, so_far, taken_takes, start_good, ended_is}

abbrev Read : Type 0
Read = Result Scenario ScenarioError

ok_in : (b : Bool) (r : Read) (n : ℕ) (why : Cause) (s : Scenario) → cond b r (fails_at n why) ≡ Ok s → (b ≡ true) × (r ≡ Ok s)
ok_in true r n why s e = (refl, e)
ok_in false r n why s e = absurd cc

ok_past : (b : Bool) (r : Read) (n : ℕ) (why : Cause) (s : Scenario) → cond b (fails_at n why) r ≡ Ok s → (b ≡ false) × (r ≡ Ok s)
ok_past true r n why s e = absurd cc
ok_past false r n why s e = (refl, e)

abbrev ok : Scenario → Read
ok s = Ok s

ok_is : (s t : Scenario) → ok s ≡ ok t → s ≡ t
ok_is s t e = cc

finish_takes : (d : WholeDraft) (n : ℕ) (rest : List ℕ) (s : Scenario) → Good d → finish d n rest ≡ Ok s → (rest ≡ []) × (so_far d ≡ scenario_lines d.draft.written s) × IsScenario d.draft.written s
finish_takes d n rest s g e =
    let a = ok_in (is_ended d.draft.stage) (cond (eqb (length rest) 0) (Ok (scenario_of d)) (fails_at n cause.Line)) n cause.Cut s e in
    let b = ok_in (eqb (length rest) 0) (Ok (scenario_of d)) n cause.Line s a.1 in
    let nothing : rest ≡ [] = nil_from_length rest (eqb-true _ _ b.0) in
    let is : scenario_of d ≡ s = ok_is (scenario_of d) s b.1 in
    let t = ended_is d g a.0 in
    (nothing, t.1 ∙ ap (scenario_lines d.draft.written) is, subst (IsScenario d.draft.written) is t.0)

took : (n : ℕ) (o : Option WholeDraft) (why : Refusal) (next : WholeDraft → Read) (s : Scenario) → onward n (step_by o why) next ≡ Ok s → (e : WholeDraft) × (o ≡ Some e) × (next e ≡ Ok s)
took n None why next s e = absurd cc
took n (Some d) why next s e = (d, refl, e)

read_takes : (d : WholeDraft) (n : ℕ) (line : List ℕ) (more : List (List ℕ)) (s : Scenario) → Good d → read_from d n (line ∷ more) ≡ Ok s
    → (written : List OptionLine) × (ls : List (List ℕ)) × (line ∷ more ≡ ls ++ [] ∷ []) × (so_far d ++ ls ≡ scenario_lines written s) × IsScenario written s
unfolding read_from
read_takes d n line [] s g e =
    let t = finish_takes d n line s g e in
    (d.draft.written, [], ap (λ (l : List ℕ). l ∷ []) t.0, append-nil (so_far d) ∙ t.1, t.2)
read_takes d n line (next ∷ more) s g e =
    let t = took n (taken d line) (refusal_of d line) (λ e. read_from e (n + 1) (next ∷ more)) s e in
    let p = taken_takes d line t.0 g t.1 in
    let r = read_takes t.0 (n + 1) next more s p.0 t.2 in
    (r.0, line ∷ r.1, ap (λ (l : List (List ℕ)). line ∷ l) r.2, sym (append_assoc (so_far d) (line ∷ []) r.1) ∙ ap (λ (l : List (List ℕ)). l ++ r.1) (sym p.1) ∙ r.3, r.4)

-- lines that end with a line feed, and nothing after the last
joined_lines : (ls : List (List ℕ)) → join_with_byte 10 (ls ++ [] ∷ []) ≡ text_of ls
joined_lines [] = refl
joined_lines (l ∷ []) = sym (append-nil (l ++ 10 ∷ []))
joined_lines (l ∷ m ∷ ls) = ap (λ (r : List ℕ). l ++ 10 ∷ r) (joined_lines (m ∷ ls)) ∙ sym (append_assoc l (10 ∷ []) (text_of (m ∷ ls)))

pub found : (bytes : List ℕ) (s : Scenario) → scenario_in bytes ≡ Ok s → Reads bytes s
found bytes s e =
    let a = ok_past (ltb 16777216 (length bytes)) (read_from start 1 (pieces 10 bytes)) 0 cause.Long s e in
    let c = split_cons (λ b. eqb b 10) bytes in
    let h : read_from start 1 (c.0 ∷ c.1) ≡ Ok s = ap (read_from start 1) (sym c.2) ∙ a.1 in
    let t = read_takes start 1 c.0 c.1 s start_good h in
    record {
      written = t.0;
      short = ltb-false _ _ a.0;
      fits = t.4;
      text = pieces_take 10 bytes (t.1 ++ [] ∷ []) (c.2 ∙ t.2) ∙ joined_lines t.1 ∙ ap text_of t.3;
    }
