-- One line of a text that is read line by line.
use Rattle.std.proofs.Common.{◌≡◌, ℕ, ◌+◌, List, ◌∷◌, ◌==◌, Option, Some, None, Result, refl, sym, ap, ◌∙◌}
use Rattle.text_lines.specs.Pieces.{pieces}
use Rattle.recursor_text.specs.declared.reading.whole.WholeDraft.{WholeDraft}
use Rattle.recursor_text.specs.declared.scenario.Scenario.{Scenario}
use Rattle.recursor_text.specs.declared.scenario.ScenarioError.{ScenarioError}
use Rattle.recursor_text.specs.Unbuilt.{refusal_at}
use Rattle.recursor_text.specs.Whole.{taken, place_of, refusal_of}
use Rattle.recursor_text.specs.Reading.{fails_at, cause_of, step_by, step, onward, read_from}
use Rattle.text_lines.proofs.TextIsCut.{split_cons}

pub read_line : (d : WholeDraft) (n : ℕ) (line after : List ℕ) → read_from d n (line ∷ pieces 10 after) ≡ onward n (step d line) (λ e. read_from e (n + 1) (pieces 10 after))
unfolding read_from
read_line d n line after = let e = split_cons (λ b. b == 10) after in rw e.2 refl

one_line : (d : WholeDraft) (n : ℕ) (text line after : List ℕ) (o : Option WholeDraft) → pieces 10 text ≡ line ∷ pieces 10 after → taken d line ≡ o
    → read_from d n (pieces 10 text) ≡ onward n (step_by o (refusal_of d line)) (λ e. read_from e (n + 1) (pieces 10 after))
one_line d n text line after o cut took =
    ap (read_from d n) cut ∙ read_line d n line after ∙ ap (λ (o : Option WholeDraft). onward n (step_by o (refusal_of d line)) (λ e. read_from e (n + 1) (pieces 10 after))) took

pub goes_on : (d e : WholeDraft) (n : ℕ) (text line after : List ℕ) (total : Result Scenario ScenarioError) → pieces 10 text ≡ line ∷ pieces 10 after → taken d line ≡ Some e
    → read_from d n (pieces 10 text) ≡ total → read_from e (n + 1) (pieces 10 after) ≡ total
goes_on d e n text line after total cut took so_far = sym (one_line d n text line after (Some e) cut took) ∙ so_far

pub stops : (d : WholeDraft) (n : ℕ) (text line after : List ℕ) (total : Result Scenario ScenarioError) → pieces 10 text ≡ line ∷ pieces 10 after → taken d line ≡ None
    → read_from d n (pieces 10 text) ≡ total → total ≡ fails_at n (cause_of (refusal_at (place_of d) line))
unfolding refusal_of
stops d n text line after total cut refused so_far = sym so_far ∙ one_line d n text line after None cut refused
