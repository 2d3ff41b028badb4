use Rattle.walk_tables.proofs.Names.{ap, length, ◌∙◌, option_copied, Shared, opened, NotesOutcome, first_of, polled_by, OpenOrder, later-put}
use Rattle.walk_tables.proofs.PoolsAdvance.{pools-later}
use Rattle.walk_tables.proofs.PoolsAfterOutcome.{pools-put, its-order, pools-unput}
use Rattle.walk_tables.proofs.OutcomeInCache.{took-by}
use Rattle.walk_tables.proofs.pools.Pools.take.Goals as goal

pub returns-in-Ok : goal.returns-in-Ok
returns-in-Ok c =
    let old = c.args.self.now in
    let n = c.args.lookup in
    let w = option_copied c.args.waits in
    let g = c.args.given in
    let mid = record old { shared = c.put.new.self } in
    let again : OpenOrder = record g { polled = polled_by c.args.outcome } in
    let before = length c.ends-before.result.now in
    let many = ap (λ ns. length ns) c.ends-before.ensures.ends in
    let note : NotesOutcome n again (first_of g.aim w c.args.outcome) before c.in-Ok.after c.args.tick.now mid c.note_outcome.new.self =
    rw (c.first_of-first.ensures, c.polled_by.ensures) at c.note_outcome.ensures in
    record {
      given = ap (λ (shared : Shared). shared.given) (note.noted.same.shared ∙ (let at = opened g.number n old.shared c.requires.open in c.in-Ok.ensures.puts n at.0 at.1).is);
      took = took-by old c.note_outcome.new.self c.put.new.self n g w c.args.outcome c.args.tick again (first_of g.aim w c.args.outcome) before c.in-Ok.after c.requires.given c.requires.open many note c.in-Ok.ensures.puts;
      holds = λ view longer put h.
          pools-put view old n w c.args.outcome g c.requires.given h c.args.tick c.put.new.self c.note_outcome.new.self longer before c.in-Ok.after put many note
          (c.in-Ok.ensures.puts n _ (its-order view old n w c.args.outcome g c.requires.given h));
    }

pub returns-in-Err : goal.returns-in-Err
returns-in-Err c = record {
  took = tt;
  given = ap (λ (shared : Shared). shared.given)
      (c.forget.ensures.same.shared ∙ (let at = opened c.args.given.number c.args.lookup c.args.self.now.shared c.requires.open in c.in-Err.ensures.puts c.args.lookup at.0 at.1).is);
  holds = λ view longer put h.
      let old = c.args.self.now in
      let n = c.args.lookup in
      let w = option_copied c.args.waits in
      let g = c.args.given in
      pools-later view _ (later-put view c.args.tick w c.args.outcome _ longer put) c.forget.new.self
      (pools-unput view old n w c.args.outcome g c.requires.given h c.args.tick c.put.new.self c.forget.new.self _
      (c.in-Err.ensures.puts n _ (its-order view old n w c.args.outcome g c.requires.given h)) c.forget.ensures);
}
