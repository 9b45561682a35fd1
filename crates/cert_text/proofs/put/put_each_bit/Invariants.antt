use Rattle.std.proofs.Common.{◌≡◌, ◌++◌, map, take}
use Rattle.cert_text.specs.Spelling.{bit}
use Rattle.cert_text.proofs.put.put_each_bit.Given as goal

abbrev pub invariant-loop-b : goal.invariant-loop-b
invariant-loop-b l = l.out.items ≡ l.fn.out.items ++ map bit (take l.b-index l.bits)
