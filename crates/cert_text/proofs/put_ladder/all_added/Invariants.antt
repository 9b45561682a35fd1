use Rattle.std.proofs.Common.{◌≡◌, ◌*◌, ◌≤◌, map, take}
use Rattle.bit_system.specs.ProofLines.{seen}
use Rattle.cert_text.specs.Spelling.{all_added}
use Rattle.cert_text.proofs.put_ladder.all_added.Given as goal

abbrev pub invariant-loop-line : goal.invariant-loop-line
invariant-loop-line l = (l.count ≡ all_added (map seen (take l.line-index l.lines))) × (l.count ≤ l.line-index * 18446744073709551615)
