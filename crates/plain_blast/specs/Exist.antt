-- That literals are a circuit's.
use Rattle.std.specs.Prelude.{List, All}
use Rattle.aig_core.specs.Graph.{Graph, IsLiteral}
use Rattle.plain_blast.specs.declared.bodies.Passed.{Passed}
use Rattle.plain_blast.specs.Plain.{Wiring}

abbrev pub PathsExist : Graph → List Passed → Type 0
PathsExist g paths = All (λ (p : Passed). IsLiteral g p.path) paths

pub record Exist (w : Wiring) : Type 0 where
  pub targets_exist : All (IsLiteral w.graph) w.targets
  pub paths_exist : PathsExist w.graph w.paths
