use Rattle.recursor_core.proofs.MachineWords.{◌≡◌, ◌<◌, length, Some, slice_get, refl, sym, ◌∙◌, arith, same_Some, slice_get_read}
use Rattle.recursor_core.proofs.OnePlaceIsSet.{slice_get-set_other}
use Rattle.recursor_core.proofs.QuestionBegins.{begins_waiting, begins_else}
use Rattle.recursor_core.proofs.machine.plays.begin_at.Goals.{in-Waiting, in_default}
use Rattle.recursor_core.proofs.machine.plays.begin_at.Goals as goal

pub returns-then-matches-clause-derived : goal.returns-then-matches-clause-derived
returns-then-matches-clause-derived c log d = c.begun.ensures.derived log c.requires d

pub returns-then-matches-clause-others : goal.returns-then-matches-clause-others
returns-then-matches-clause-others c k ne = slice_get-set_other c.args.plays.now.items c.args.q k c.begun.result ne

pub returns-then-matches-clause-begins : goal.returns-then-matches-clause-begins
returns-then-matches-clause-begins c =
    let plays = c.args.plays.now.items in
    let questions = c.args.questions.now in
    let q = c.args.q in
    let played_here : q < length plays = omega (arith, c.if-q-len.false, c.len.ensures, c.args.plays.now.ok.0) in
    let asked_here : q < length questions = omega (arith, c.if-q-questions.false) in
    let here : slice_get plays q ≡ Some c.index.result.now = slice_get_read plays (length plays) q c.index.result.now refl played_here c.index.ensures in
    let asks : slice_get questions q ≡ Some c.index-questions-q.result = slice_get_read questions (length questions) q c.index-questions-q.result refl asked_here c.index-questions-q.is in
    elim c.match-matches.branch [
      | in-Waiting w ↦ begins_waiting questions plays q c.args.now c.begun.new.core c.index-questions-q.result c.begun.result asks (rw w.in-Waiting.is at here)
          c.begun.ensures.begun
      | in_default w ↦ let no = w.matches-is in let yes = c.if-matches.true in cc
    ]

pub returns-else-matches-clause-begins : goal.returns-else-matches-clause-begins
returns-else-matches-clause-begins c =
    let plays = c.args.plays.now.items in
    let q = c.args.q in
    let played_here : q < length plays = omega (arith, c.if-q-len.false, c.len.ensures, c.args.plays.now.ok.0) in
    let here : slice_get plays q ≡ Some c.index.result.now = slice_get_read plays (length plays) q c.index.result.now refl played_here c.index.ensures in
    elim c.match-matches.branch [
      | in-Waiting w ↦ let no = c.if-matches.false in let yes = w.matches-is in cc
      | in_default w ↦ begins_else (slice_get c.args.questions.now q) c.args.now c.args.core.now (slice_get plays q)
          (λ waits. w.in_default.not-Waiting (same_Some _ _ (sym here ∙ waits)))
    ]
