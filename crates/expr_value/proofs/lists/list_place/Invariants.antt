use Rattle.std.proofs.Common.{◌≡◌, ◌++◌, drop}
use Rattle.bit_exprs.specs.Indices.{names_place}
use Rattle.bit_exprs.specs.Updates.{written_where}
use Rattle.expr_value.proofs.lists.list_place.Given as goal

abbrev pub invariant-loop-p : goal.invariant-loop-p
invariant-loop-p l =
    l.updates.items ++ written_where (names_place l.window l.at.width l.signed l.at.bits l.k) l.p (drop l.p l.vector) l.bit
    ≡ l.initial.updates.items ++ written_where (names_place l.window l.at.width l.signed l.at.bits l.k) 0 l.vector l.bit
