use Rattle.std.proofs.Common.{◌≡◌, drop, map}
use Rattle.word_core.specs.Words.{any}
use Rattle.bit_exprs.specs.Named.{reads}
use Rattle.bit_exprs.proofs.names.+reads.Given as goal

abbrev pub invariant-loop-operand : goal.invariant-loop-operand
invariant-loop-operand l = any (map (λ e. reads e l.bit) (drop l.operand-index l.operand-items)) ≡ any (map (λ e. reads e l.bit) l.operand-items)
