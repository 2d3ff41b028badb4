use Rattle.std.proofs.Common.{◌≡◌, ◌+◌, ◌++◌, length}
use Rattle.std.specs.Map.{values_of}
use Rattle.resolver_cache.specs.Writings.{AreBelow}
use Rattle.resolver_cache.specs.Index.{ArePlaced}
use Rattle.resolver_cache.proofs.index.Index.renumbered.Given as goal

abbrev pub invariant-loop-entry : goal.invariant-loop-entry
invariant-loop-entry l = record {
  same : values_of l.copy.writings ++ l.entry-iterator ≡ values_of l.self.writings;
  above : AreBelow l.number l.copy.writings;
  placed : ArePlaced l.copy.writings l.copy.places;
  few : l.number + length l.entry-iterator ≡ length (values_of l.self.writings);
}
