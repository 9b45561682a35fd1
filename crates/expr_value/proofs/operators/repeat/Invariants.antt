use Rattle.std.proofs.Common.{◌≡◌, ◌*◌, ◌≤◌}
use Rattle.bit_exprs.specs.Operators.{repeated}
use Rattle.expr_value.proofs.operators.repeat.Given as goal

abbrev pub invariant-loop : goal.invariant-loop
invariant-loop l = record {
  width : l.all.width ≡ l.counter * l.a.width;
  bits : l.all.bits ≡ repeated l.counter l.a.width l.a.bits;
  some : 1 ≤ l.counter;
}
