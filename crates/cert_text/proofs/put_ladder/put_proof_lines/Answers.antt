use Rattle.std.proofs.Common.{List, ℕ, ◌++◌, ap, ◌∙◌}
use Rattle.line_text.specs.Lines.{text_of}
use Rattle.cert_text.proofs.Writing.{told_lines}
use Rattle.cert_text.proofs.put_ladder.put_proof_lines.Goals as goal

pub returns : goal.returns
returns c =
    c.in_ok-extend_from_slice.ensures.items
    ∙ ap (λ (t : List ℕ). c.args.out.now.items ++ t) (c.as_slice.ensures.value ∙ c.in_ok-text.ensures ∙ ap text_of (told_lines c.args.lines.now))
