use Rattle.std.proofs.Common.{◌≡◌, ◌-◌, ◌++◌}
use Rattle.word_core.specs.Words.{bits_of}
use Rattle.bit_exprs.specs.Updates.{selected_updates}
use Rattle.expr_value.proofs.lists.list_selected.Given as goal

abbrev pub invariant-loop-k : goal.invariant-loop-k
invariant-loop-k l =
    l.updates.items ++ selected_updates l.window l.vector l.at.width l.signed l.at.bits l.k (bits_of (l.window.count - l.k) l.rest)
    ≡ l.initial.updates.items ++ selected_updates l.window l.vector l.at.width l.signed l.at.bits 0 (bits_of l.window.count l.number)
