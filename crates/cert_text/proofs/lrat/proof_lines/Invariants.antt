use Rattle.std.proofs.Common.{◌≡◌, ◌-◌}
use Rattle.line_text.proofs.Loop.{with_front}
use Rattle.cert_text.specs.Ladders.{lines_from}
use Rattle.cert_text.proofs.lrat.proof_lines.Given as goal

abbrev pub invariant-loop-i : goal.invariant-loop-i
invariant-loop-i l = with_front l.proof (lines_from (l.count - l.i) l.left l.lines) ≡ lines_from l.count l.lits l.fn.lines
