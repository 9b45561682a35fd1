use Rattle.std.proofs.Common.{◌≡◌, map, drop}
use Rattle.bit_exprs.specs.Values.{bit_at, bit_where}
use Rattle.bit_exprs.specs.Indices.{names_place}
use Rattle.expr_value.proofs.selects.selected_bit.Given as goal

abbrev pub invariant-loop-p : goal.invariant-loop-p
invariant-loop-p l =
    bit_where (names_place l.window l.at.width l.signed l.at.bits l.k) l.p (map (bit_at l.values) (drop l.p l.vector))
    ≡ bit_where (names_place l.window l.at.width l.signed l.at.bits l.k) 0 (map (bit_at l.values) l.vector)
