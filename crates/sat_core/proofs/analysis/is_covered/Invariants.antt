use Rattle.std.proofs.Common.{take}
use Rattle.sat_core.proofs.Shortened.{Covered}
use Rattle.sat_core.proofs.analysis.is_covered.Given as goal

abbrev pub invariant-loop-literal : goal.invariant-loop-literal
invariant-loop-literal l = Covered l.seen.falses (take l.literal-index l.clause) l.variable
