use Rattle.std.proofs.Common.{◌≡◌, length}
use Rattle.line_text.specs.Reading.{until, until_from}
use Rattle.cert_text.specs.Certs.{in_or_end}
use Rattle.cert_text.proofs.body.inputs.Given as goal

abbrev pub invariant-loop-inputs : goal.invariant-loop-inputs
invariant-loop-inputs l = until_from in_or_end l.inputs l.lines.line l.lines.lines l.lines.tail ≡ until in_or_end l.fn.lines

abbrev pub decreases-loop-inputs : goal.decreases-loop-inputs
decreases-loop-inputs l = length l.lines.lines
