use Rattle.std.proofs.Common.{◌≡◌, map, take}
use Rattle.bit_system.specs.ProofLines.{seen}
use Rattle.clause_names.specs.Naming.{named_line}
use Rattle.clause_names.proofs.naming.named_lines.Given as goal

abbrev pub invariant-loop-line : goal.invariant-loop-line
invariant-loop-line l = l.proof ≡ map (named_line l.names.keys) (map seen (take l.line-index l.lines))
