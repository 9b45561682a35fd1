use Rattle.std.proofs.Common.{◌≡◌, ◌<◌, ◌-◌, drop, length, get_or}
use Rattle.aig_core.specs.Graph.{IsLiteral, Extends}
use Rattle.plain_blast.specs.declared.bodies.Passed.{Passed}
use Rattle.plain_blast.specs.Plain.{any_of}
use Rattle.plain_blast.specs.Exist.{PathsExist}
use Rattle.plain_blast.proofs.points.any_path.Given as goal

abbrev pub invariant-loop-at : goal.invariant-loop-at
invariant-loop-at l = record {
  rest : any_of l.aig l.any (drop l.at l.paths) l.site ≡ any_of l.fn.aig 0 l.paths l.site;
  here : (d : Passed) → l.at < length l.paths → (get_or l.paths l.at d).site ≡ l.site;
  exists : IsLiteral l.aig l.any;
  paths_exist : PathsExist l.aig l.paths;
  kept : Extends l.fn.aig l.aig;
}

abbrev pub decreases-loop-at : goal.decreases-loop-at
decreases-loop-at l = length l.paths - l.at
