use Rattle.std.proofs.Common.{◌≡◌, ◌++◌, take}
use Rattle.std.specs.List.{flat_map}
use Rattle.line_text.specs.Lines.{text_of}
use Rattle.cert_text.specs.Spelling.{claim_lines}
use Rattle.cert_text.proofs.write.put_claims.Given as goal

abbrev pub invariant-loop-claim : goal.invariant-loop-claim
invariant-loop-claim l = l.out.items ≡ l.fn.out.items ++ text_of (flat_map claim_lines (take l.claim-index l.claims))
