use Rattle.std.proofs.Common.{◌≡◌, take}
use Rattle.std.specs.List.{sum_by}
use Rattle.bit_exprs.specs.Cost.{capped}
use Rattle.plain_blast.specs.Cost.{stmt_cost}
use Rattle.plain_blast.proofs.costs.+stmt_cost.Given as goal

abbrev pub invariant-loop-s : goal.invariant-loop-s
invariant-loop-s l = l.total ≡ capped (sum_by stmt_cost (take l.s-index l.s-items))
