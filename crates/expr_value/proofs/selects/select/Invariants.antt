use Rattle.std.proofs.Common.{◌≡◌, ◌-◌, ◌<◌, map}
use Rattle.word_core.specs.Words.{number_of}
use Rattle.bit_exprs.specs.Values.{bit_at, bit_where, listed}
use Rattle.bit_exprs.specs.Indices.{names_place}
use Rattle.expr_value.proofs.selects.select.Given as goal

abbrev pub invariant-loop-from : goal.invariant-loop-from
invariant-loop-from l = record {
  below : l.from < l.window.count;
  width : l.word.width ≡ l.window.count - l.from;
  number : l.word.bits ≡ number_of (listed (λ k. bit_where (names_place l.window l.at.width l.signed l.at.bits k) 0 (map (bit_at l.values) l.vector)) l.from (l.window.count - l.from));
}

abbrev pub decreases-loop-from : goal.decreases-loop-from
decreases-loop-from l = l.from
