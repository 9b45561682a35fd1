-- The system of a text's design: there is a hit literal for each point.
use Rattle.std.proofs.Common.{◌≡◌, ℕ, suc, List, [], ◌∷◌, length, refl, ap}
use Rattle.aig_core.specs.Graph.{Graph}
use Rattle.design_core.specs.declared.flat.Design.{Design}
use Rattle.plain_blast.specs.declared.bodies.Passed as path
use Rattle.plain_blast.specs.Plain.{any_of, hits_of, process_of, first_graph, first_literals, plain_of}

-- ---- hit literals

hits_long : (g : Graph) (paths : List path.Passed) (sites : List ℕ) → length (hits_of g paths sites).1 ≡ length sites
hits_long g paths [] = refl
hits_long g paths (site ∷ sites) = ap suc (hits_long (any_of g 0 paths site).0 paths sites)

pub one_hit_each : (d : Design) (order sites : List ℕ) → length (plain_of d order sites).hits ≡ length sites
unfolding plain_of
one_hit_each d order sites =
    let n = process_of d order (first_graph d) (first_literals d) in
    hits_long n.graph n.paths sites
