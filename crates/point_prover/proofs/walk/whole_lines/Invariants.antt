use Rattle.std.proofs.Common.{◌≡◌, map, take}
use Rattle.std.specs.Prelude.{All}
use Rattle.bit_system.specs.Machine.{IsInput}
use Rattle.point_cone.specs.Parts.{part}
use Rattle.point_prover.proofs.walk.whole_lines.Given as goal

abbrev pub invariant-loop-line : goal.invariant-loop-line
invariant-loop-line l = record {
  inputs : All (IsInput l.system) l.whole;
  parts : map (part l.cone.inputs) l.whole ≡ take l.line-index l.lines;
}
