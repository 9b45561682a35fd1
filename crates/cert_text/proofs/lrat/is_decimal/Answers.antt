use Rattle.std.proofs.Common.{ℕ, sym, ap, ◌∙◌}
use Rattle.line_text.specs.Number.{number_of}
use Rattle.cert_text.proofs.Decimals.{same_decimal, not_decimal}
use Rattle.cert_text.proofs.lrat.is_decimal.Goals as goal

pub returns-in-Some : goal.returns-in-Some
returns-in-Some c =
    rw c.from-in-Some.ensures (same_decimal c.args.word.now c.in-Some.found c.args.n c.ranges.n.fits (sym (c.in-Some.ensures.value ∙ ap (λ (m : ℕ). number_of m c.args.word.now) c.from.ensures)))

pub returns-in-None : goal.returns-in-None
returns-in-None c = not_decimal c.args.word.now c.args.n c.ranges.n.fits (sym (c.in-None.ensures.value ∙ ap (λ (m : ℕ). number_of m c.args.word.now) c.from.ensures))
