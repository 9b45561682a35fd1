use Rattle.std.proofs.Common.{◌≡◌, ◌++◌, map, take, codes}
use Rattle.line_text.specs.Lines.{text_of}
use Rattle.line_text.specs.Tagged.{tagged}
use Rattle.cert_text.specs.Spelling.{bits_word}
use Rattle.cert_text.proofs.put.put_inputs.Given as goal

abbrev pub invariant-loop-input : goal.invariant-loop-input
invariant-loop-input l = l.out.items ≡ l.fn.out.items ++ text_of (map (λ b. tagged (codes "in") (bits_word b)) (take l.input-index l.inputs))
