use Rattle.std.proofs.Common.{◌≡◌, ◌++◌, All, drop}
use Rattle.aig_core.specs.Graph.{IsLiteral, Extends}
use Rattle.plain_blast.specs.Plain.{hits_of}
use Rattle.plain_blast.specs.Exist.{PathsExist}
use Rattle.plain_blast.proofs.points.hit_literals.Given as goal

abbrev pub invariant-loop-site : goal.invariant-loop-site
invariant-loop-site l = record {
  graph : (hits_of l.aig l.paths (drop l.site-index l.sites)).0 ≡ (hits_of l.fn.aig l.paths l.sites).0;
  literals : l.hits.items ++ (hits_of l.aig l.paths (drop l.site-index l.sites)).1 ≡ (hits_of l.fn.aig l.paths l.sites).1;
  exist : All (IsLiteral l.aig) l.hits.items;
  paths_exist : PathsExist l.aig l.paths;
  kept : Extends l.fn.aig l.aig;
}
