use Rattle.std.proofs.Common.{◌≡◌, ◌-◌, ◌<◌, map, drop, length}
use Rattle.word_core.specs.Words.{number_of}
use Rattle.bit_exprs.specs.Values.{bit_at}
use Rattle.expr_value.proofs.selects.read.Given as goal

abbrev pub invariant-loop-from : goal.invariant-loop-from
invariant-loop-from l = record {
  below : l.from < length l.bits;
  width : l.word.width ≡ length l.bits - l.from;
  number : l.word.bits ≡ number_of (map (bit_at l.values) (drop l.from l.bits));
}

abbrev pub decreases-loop-from : goal.decreases-loop-from
decreases-loop-from l = l.from
