use Rattle.std.proofs.Common.{◌≡◌, ◌++◌, map, take, decimal}
use Rattle.proof_lines.specs.Spaced.{spaced}
use Rattle.proof_lines.proofs.write.put_numbers.Given as goal

abbrev pub invariant-loop-number : goal.invariant-loop-number
invariant-loop-number l = l.out.items ≡ l.initial.out.items ++ spaced (map decimal (take l.number-index l.numbers))
