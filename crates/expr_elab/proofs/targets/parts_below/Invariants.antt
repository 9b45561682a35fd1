use Rattle.std.proofs.Common.{◌≡◌, ◌++◌}
use Rattle.expr_elab.specs.Vectors.{bits_of}
use Rattle.expr_elab.specs.Selects.{bit_named}
use Rattle.expr_elab.specs.Targets.{parts_below}
use Rattle.expr_elab.proofs.targets.parts_below.Given as goal

abbrev pub invariant-loop-k : goal.invariant-loop-k
invariant-loop-k l = l.parts ++ parts_below (bit_named (bits_of l.vector) l.window l.index) l.k ≡ parts_below (bit_named (bits_of l.vector) l.window l.index) l.window.count

abbrev pub decreases-loop-k : goal.decreases-loop-k
decreases-loop-k l = l.k
