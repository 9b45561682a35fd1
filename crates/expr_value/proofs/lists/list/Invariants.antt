use Rattle.std.proofs.Common.{◌≡◌, ◌≤◌, ◌++◌, drop}
use Rattle.bit_exprs.specs.Updates.{parts_width, parts_updates}
use Rattle.expr_value.proofs.lists.list.Given as goal

abbrev pub invariant-loop-part : goal.invariant-loop-part
invariant-loop-part l = record {
  most : l.left ≤ 128;
  left : l.left ≡ parts_width (drop l.part-index l.part-items);
  so_far : l.updates.items ++ parts_updates (drop l.part-index l.part-items) l.value.bits l.values ≡ l.initial.updates.items ++ parts_updates l.part-items l.value.bits l.values;
}
