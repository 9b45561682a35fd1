use Rattle.std.proofs.Common.{◌≡◌, map, take}
use Rattle.std.specs.Prelude.{All}
use Rattle.aig_core.specs.Graph.{IsLiteral}
use Rattle.ic3_frames.specs.Queries.{true_after}
use Rattle.ic3_frames.proofs.search.all_true_after_step.Given as goal

abbrev pub invariant-loop-lit : goal.invariant-loop-lit
invariant-loop-lit l = record {
  value : l.literals.items ≡ map (true_after l.system) (take l.lit-index l.lit-items);
  exist : All (IsLiteral l.system.graph) l.literals.items;
}
