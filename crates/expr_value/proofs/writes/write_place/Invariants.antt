use Rattle.std.proofs.Common.{◌≡◌, drop}
use Rattle.bit_exprs.specs.Indices.{names_place}
use Rattle.bit_exprs.specs.Updates.{written_where, perform}
use Rattle.expr_value.proofs.writes.write_place.Given as goal

abbrev pub invariant-loop-p : goal.invariant-loop-p
invariant-loop-p l =
    perform (written_where (names_place l.window l.at.width l.signed l.at.bits l.k) l.p (drop l.p l.vector) l.bit) l.out
    ≡ perform (written_where (names_place l.window l.at.width l.signed l.at.bits l.k) 0 l.vector l.bit) l.initial.out
