use Rattle.std.proofs.Common.{◌-◌, length}
use Rattle.plain_blast.proofs.ChainLaws.{Linked}
use Rattle.plain_blast.proofs.points.link.Given as goal

abbrev pub invariant-loop-i : goal.invariant-loop-i
invariant-loop-i l = Linked l.paths l.first.items l.next.items (length l.paths - l.i)
