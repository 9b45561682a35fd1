use Rattle.std.proofs.Common.{◌≡◌, drop, length}
use Rattle.target_blast.specs.Writes.{replaced}
use Rattle.target_blast.proofs.parts.replace.Given as goal

abbrev pub invariant-loop-k : goal.invariant-loop-k
invariant-loop-k l = record {
  rest : replaced (drop l.k l.bits) (drop l.k l.word) l.targets ≡ replaced l.bits l.word l.fn.targets;
  long : length l.targets ≡ length l.fn.targets;
}
