use Rattle.std.proofs.Common.{◌≡◌, ◌++◌, map, take}
use Rattle.proof_lines.specs.Spelling.{literal_word}
use Rattle.proof_lines.specs.Spaced.{spaced}
use Rattle.proof_lines.proofs.write.put_literals.Given as goal

abbrev pub invariant-loop-literal : goal.invariant-loop-literal
invariant-loop-literal l = l.out.items ≡ l.initial.out.items ++ spaced (map literal_word (take l.literal-index l.lits))
