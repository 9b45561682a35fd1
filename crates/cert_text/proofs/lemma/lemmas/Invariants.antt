use Rattle.std.proofs.Common.{◌≡◌, ◌-◌}
use Rattle.line_text.specs.Reading.{line_by, times}
use Rattle.cert_text.specs.Ladders.{lemma_of}
use Rattle.line_text.proofs.Loop.{with_front}
use Rattle.cert_text.proofs.lemma.lemmas.Given as goal

abbrev pub invariant-loop : goal.invariant-loop
invariant-loop l = with_front l.lemmas (times (l.count - l.counter) l.counter (λ _. line_by (lemma_of l.forever)) l.lines) ≡ times l.count 0 (λ _. line_by (lemma_of l.forever)) l.fn.lines
