use Rattle.std.proofs.Common.{◌≡◌, ◌-◌, ◌++◌}
use Rattle.expr_blast.specs.Circuits.{copies}
use Rattle.expr_blast.proofs.literals.copies.Given as goal

abbrev pub invariant-loop : goal.invariant-loop
invariant-loop l = l.literals.items ++ copies (l.count - l.counter) l.word ≡ copies l.count l.word
