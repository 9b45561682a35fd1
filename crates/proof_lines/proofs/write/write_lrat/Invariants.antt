use Rattle.std.proofs.Common.{◌≡◌, map, take}
use Rattle.proof_lines.specs.Spelling.{plain, spelling}
use Rattle.proof_lines.proofs.write.write_lrat.Given as goal

abbrev pub invariant-loop-line : goal.invariant-loop-line
invariant-loop-line l = l.out.items ≡ spelling (map plain (take l.line-index l.lines))
