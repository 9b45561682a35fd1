use Rattle.std.proofs.Common.{◌≡◌, ◌-◌}
use Rattle.line_text.specs.Reading.{times}
use Rattle.cert_text.specs.Certs.{claim_at}
use Rattle.line_text.proofs.Loop.{with_front}
use Rattle.cert_text.proofs.read.claims.Given as goal

abbrev pub invariant-loop : goal.invariant-loop
invariant-loop l = with_front l.claims (times (l.count - l.counter) l.counter (λ _. claim_at) l.lines) ≡ times l.count 0 (λ _. claim_at) l.fn.lines
