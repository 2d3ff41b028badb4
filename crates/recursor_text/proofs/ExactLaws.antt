-- The line that is named is the first that cannot stand.
use Rattle.std.proofs.Common.{◌≡◌, ℕ, ◌+◌, ◌≤◌, true, false, eqb, ltb, List, [], ◌∷◌, ◌++◌, length, Option, Some, None, Result, Ok, Err, refl, sym, ap, subst, ◌∙◌, arith, append_assoc, inl, inr}
use Rattle.std.specs.Prelude.{IfErr}
use Rattle.std.proofs.lemmas.Bool.{ltb-true, ltb-false, eqb-false, cases_Bool}
use Rattle.std.proofs.lemmas.List.{append-nil, length_push}
use Rattle.recursor_text.specs.declared.scenario.Scenario.{Scenario}
use Rattle.recursor_text.specs.declared.scenario.ScenarioError.{ScenarioError}
use Rattle.recursor_text.specs.declared.scenario.Cause.{Cause}
use Rattle.recursor_text.specs.declared.scenario.Cause.TheVariants as cause
use Rattle.recursor_text.specs.declared.reading.whole.WholeDraft.{WholeDraft}
use Rattle.recursor_text.specs.declared.reading.draft.Refusal.{Refusal}
use Rattle.recursor_text.specs.declared.reading.draft.Refusal.TheVariants.{Bad, NotBuilt}
use Rattle.text_lines.specs.Pieces.{pieces}
use Rattle.text_lines.specs.Numbers.{◌>>=◌}
use Rattle.recursor_text.specs.Steps.{is_ended}
use Rattle.recursor_text.specs.Whole.{start, taken, scenario_of, refusal_of}
use Rattle.recursor_text.specs.Reading.{cause_of, step_by, finish, onward, read_from, scenario_in, GivesScenario, FailsBy}
use Rattle.recursor_text.specs.Faults.{CanStand, IsWhole, IsFirstBad, FaultIn, HasFault}
use Rattle.recursor_text.specs.Spelling.{scenario_lines}
use Rattle.text_lines.proofs.StepsThatFail.{bind_some}
use Rattle.text_lines.proofs.TextIsCut.{split_cons}
use Rattle.recursor_text.proofs.BesideLaws.{Good, so_far, taken_takes, start_good, ended_is}
use Rattle.recursor_text.proofs.BesideRuns.{run, run_append, run_again, draft_is, completes}

-- ---- what a run says

run_takes : (d e : WholeDraft) (ls : List (List ℕ)) → Good d → run d ls ≡ Some e → Good e × (so_far e ≡ so_far d ++ ls)
run_takes d e [] g h = let is : d ≡ e = draft_is d e h in (subst Good is g, ap so_far (sym is) ∙ sym (append-nil (so_far d)))
run_takes d e (l ∷ ls) g h =
    let b = bind_some (taken d l) (λ m. run m ls) e h in
    let t = taken_takes d l b.0 g b.1 in
    let r = run_takes b.0 e ls t.0 b.2 in
    (r.0, r.1 ∙ ap (λ (x : List (List ℕ)). x ++ ls) t.1 ∙ append_assoc (so_far d) (l ∷ []) ls)

whole_run : (ls : List (List ℕ)) (d : WholeDraft) → run start ls ≡ Some d → is_ended d.draft.stage ≡ true → IsWhole ls
whole_run ls d h e = let t = run_takes start d ls start_good h in let w = ended_is d t.0 e in (d.draft.written, scenario_of d, w.0, sym w.1 ∙ t.1)

stands : (ls : List (List ℕ)) (d : WholeDraft) → run start ls ≡ Some d → CanStand ls
stands ls d h =
    let t = run_takes start d ls start_good h in
    let c = completes d t.0 in
    let r : run start (ls ++ c.0) ≡ Some c.1 = run_append start d ls c.0 h ∙ c.2 in
    let w = whole_run (ls ++ c.0) c.1 r (ap is_ended c.3) in
    (w.0, w.1, c.0, w.2, w.3)

fails : (ls : List (List ℕ)) (d : WholeDraft) (l : List ℕ) → run start ls ≡ Some d → taken d l ≡ None → CanStand (ls ++ l ∷ []) → ⊥
fails ls d l h refused can =
    let r = run_again can.0 can.1 can.3 in
    let same : scenario_lines can.0 can.1 ≡ ls ++ (l ∷ can.2) = can.4 ∙ append_assoc ls (l ∷ []) can.2 in
    let none : run d (l ∷ can.2) ≡ None = ap (λ (o : Option WholeDraft). o >>= λ m. run m can.2) refused in
    let both : Some r.0 ≡ None = sym r.1 ∙ ap (run start) same ∙ run_append start d ls (l ∷ can.2) h ∙ none in
    cc

not_whole : (ls : List (List ℕ)) (d : WholeDraft) → run start ls ≡ Some d → is_ended d.draft.stage ≡ false → IsWhole ls → ⊥
not_whole ls d h open_end w =
    let r = run_again w.0 w.1 w.2 in
    let same : r.0 ≡ d = draft_is r.0 d (sym r.1 ∙ ap (run start) w.3 ∙ h) in
    let ended : is_ended d.draft.stage ≡ true = ap (λ (x : WholeDraft). is_ended x.draft.stage) (sym same) ∙ ap is_ended r.2 in
    absurd (let t : true ≡ false = sym ended ∙ open_end in cc)

-- ---- faults

abbrev Read : Type 0
Read = Result Scenario ScenarioError

abbrev err : ScenarioError → Read
err e = Err e

err_is : (e f : ScenarioError) → err e ≡ err f → e ≡ f
err_is e f h = cc

abbrev at : ℕ → Cause → ScenarioError
at n why = record { line = n; cause = why }

abbrev Faulty : List ℕ → ScenarioError → Type 0
Faulty bytes e = FaultIn bytes e.line e.cause

end_fault : (bytes : List ℕ) (before : List (List ℕ)) (d : WholeDraft) (n : ℕ) (rest : List ℕ) (e : ScenarioError) → pieces 10 bytes ≡ before ++ rest ∷ [] → run start before ≡ Some d → n ≡ length before + 1
    → finish d n rest ≡ Err e → Faulty bytes e
end_fault bytes before d n rest e cut h place f = elim (cases_Bool (is_ended d.draft.stage)) [
  | inl ended ↦ elim (cases_Bool (eqb (length rest) 0)) [
    | inl nothing ↦ absurd (let k : finish d n rest ≡ Ok (scenario_of d) = rw (ended, nothing) refl in let both : Ok (scenario_of d) ≡ err e = sym k ∙ f in cc)
    | inr something ↦ let k : finish d n rest ≡ err (at n cause.Line) = rw (ended, something) refl in
        subst (Faulty bytes) (err_is (at n cause.Line) e (sym k ∙ f)) (inr (record { before = before; rest = rest; cut = cut; place = place; ended = whole_run before d h ended; some = λ nil. eqb-false (length rest) 0 something (ap length nil) }))
  ]
  | inr open_end ↦ let k : finish d n rest ≡ err (at n cause.Cut) = rw open_end refl in
      subst (Faulty bytes) (err_is (at n cause.Cut) e (sym k ∙ f)) (record { before = before; rest = rest; cut = cut; place = place; stands = stands before d h; open_end = not_whole before d h open_end })
]

refused_fault : (bytes : List ℕ) (n : ℕ) (why : Refusal) → IsFirstBad bytes n → FaultIn bytes n (cause_of why)
refused_fault bytes n Bad first = inl first
refused_fault bytes n NotBuilt first = first

at_step : (bytes : List ℕ) (before : List (List ℕ)) (d : WholeDraft) (n : ℕ) (line next : List ℕ) (more : List (List ℕ)) (e : ScenarioError) → pieces 10 bytes ≡ before ++ line ∷ next ∷ more → run start before ≡ Some d → n ≡ length before + 1
    → (o : Option WholeDraft) (why : Refusal) → taken d line ≡ o → onward n (step_by o why) (λ e. read_from e (n + 1) (next ∷ more)) ≡ Err e → ((m : WholeDraft) → taken d line ≡ Some m → read_from m (n + 1) (next ∷ more) ≡ Err e → Faulty bytes e) → Faulty bytes e
at_step bytes before d n line next more e cut h place None why is f later =
    subst (Faulty bytes) (err_is (at n (cause_of why)) e f)
    (refused_fault bytes n why (record { before = before; line = line; next = next; more = more; cut = cut; place = place; stands = stands before d h; fails = fails before d line h is }))
at_step bytes before d n line next more e cut h place (Some m) why is f later = later m is f

read_fault : (bytes : List ℕ) (before : List (List ℕ)) (d : WholeDraft) (n : ℕ) (line : List ℕ) (more : List (List ℕ)) (e : ScenarioError) → pieces 10 bytes ≡ before ++ line ∷ more → run start before ≡ Some d → n ≡ length before + 1
    → read_from d n (line ∷ more) ≡ Err e → Faulty bytes e
unfolding read_from
read_fault bytes before d n line [] e cut h place f = end_fault bytes before d n line e cut h place f
read_fault bytes before d n line (next ∷ more) e cut h place f =
    at_step bytes before d n line next more e cut h place (taken d line) (refusal_of d line) refl f (λ m is g. read_fault bytes (before ++ line ∷ []) m (n + 1) next more e
    (cut ∙ sym (append_assoc before (line ∷ []) (next ∷ more)))
    (run_append start d before (line ∷ []) h ∙ ap (λ (o : Option WholeDraft). o >>= λ m. run m []) is)
    (omega (arith, length_push before line)) g)

short_fault : (bytes : List ℕ) (line : ℕ) (why : Cause) → length bytes ≤ 16777216 → FaultIn bytes line why → HasFault bytes line why
short_fault bytes line cause.Line le f = (le, f)
short_fault bytes line cause.NotBuilt le f = (le, f)
short_fault bytes line cause.Cut le f = (le, f)
short_fault bytes line cause.Long le f = f
short_fault bytes line cause.NoMemory le f = tt

abbrev Faults : List ℕ → ScenarioError → Type 0
Faults bytes e = HasFault bytes e.line e.cause

line_fault : (bytes : List ℕ) (e : ScenarioError) → scenario_in bytes ≡ Err e → Faults bytes e
line_fault bytes e f = elim (cases_Bool (ltb 16777216 (length bytes))) [
  | inl long ↦ let k : scenario_in bytes ≡ err (at 0 cause.Long) = rw long refl in subst (Faults bytes) (err_is (at 0 cause.Long) e (sym k ∙ f)) (ltb-true _ _ long, refl)
  | inr short ↦
      let c = split_cons (λ b. eqb b 10) bytes in
      let k : scenario_in bytes ≡ read_from start 1 (c.0 ∷ c.1) = rw short (ap (read_from start 1) c.2) in
      short_fault bytes e.line e.cause (ltb-false _ _ short) (read_fault bytes [] start 1 c.0 c.1 e c.2 refl refl (sym k ∙ f))
]

by_cause : (bytes : List ℕ) (e : ScenarioError) (c : Cause) → e.cause ≡ c → FailsBy e c (scenario_in bytes) → HasFault bytes e.line c
by_cause bytes e cause.Line is f = subst (HasFault bytes e.line) is (line_fault bytes e f)
by_cause bytes e cause.NotBuilt is f = subst (HasFault bytes e.line) is (line_fault bytes e f)
by_cause bytes e cause.Cut is f = subst (HasFault bytes e.line) is (line_fault bytes e f)
by_cause bytes e cause.Long is f = subst (HasFault bytes e.line) is (line_fault bytes e f)
by_cause bytes e cause.NoMemory is f = tt

pub line_in : (bytes : List ℕ) (r : Result Scenario ScenarioError) → GivesScenario r (scenario_in bytes) → IfErr r (λ e. HasFault bytes e.line e.cause)
line_in bytes (Ok s) gives = tt
line_in bytes (Err e) gives = by_cause bytes e e.cause refl gives
