use Rattle.std.proofs.Common.{◌≡◌, ◌+◌, length, map}
use Rattle.proof_lines.specs.Spelling.{plain}
use Rattle.proof_lines.specs.Reading.{all_lines, text_lines}
use Rattle.proof_lines.proofs.Front.{with_front}
use Rattle.proof_lines.proofs.read.all_lines.Given as goal

abbrev pub invariant-loop-lines : goal.invariant-loop-lines
invariant-loop-lines l = with_front (map plain l.read) (all_lines l.lines) ≡ text_lines l.text

abbrev pub decreases-loop-lines : goal.decreases-loop-lines
decreases-loop-lines l = length l.lines.lines + length l.lines.tail
