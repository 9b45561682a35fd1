use Rattle.std.proofs.Common.{◌≡◌, ◌++◌, take}
use Rattle.line_text.specs.Lines.{text_of}
use Rattle.cert_text.specs.Spelling.{step_lines}
use Rattle.cert_text.proofs.put_ladder.put_steps.Given as goal

abbrev pub invariant-loop-i : goal.invariant-loop-i
invariant-loop-i l = l.out.items ≡ l.fn.out.items ++ text_of (step_lines 1 (take l.i l.steps))
