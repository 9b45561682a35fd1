use Rattle.std.proofs.Common.{◌≡◌, ◌-◌, ◌++◌, map}
use Rattle.word_core.specs.Words.{bits_of}
use Rattle.expr_blast.specs.Circuits.{constant}
use Rattle.expr_blast.proofs.literals.constants.Given as goal

abbrev pub invariant-loop : goal.invariant-loop
invariant-loop l = l.literals.items ++ map constant (bits_of (l.fn.word.width - l.counter) l.rest) ≡ map constant (bits_of l.fn.word.width l.fn.word.bits)
