use Rattle.std.proofs.Common.{ap, ◌∙◌}
use Rattle.bit_exprs.specs.Cost.{capped}
use Rattle.plain_blast.specs.Cost.{stmt_cost}
use Rattle.plain_blast.proofs.CostLaws.{branch_cost, block_cost}
use Rattle.plain_blast.proofs.costs.+stmt_cost.Goals as goal

pub returns-in_ok-else_cost-in-Branch : goal.returns-in_ok-else_cost-in-Branch
returns-in_ok-else_cost-in-Branch t c =
    branch_cost _ _ _ _ _ _ _ _ _ _ _ _ c.in-Branch.is c.get.ensures c.get-in-Branch.ensures c.in_ok-fork-in-Branch.ensures
    (c.in_ok-then_cost-in-Branch.ensures ∙ ap (λ s. capped (stmt_cost s)) c.get-in-Branch-2.ensures)
    (c.in_ok-else_cost-in-Branch.ensures ∙ ap (λ s. capped (stmt_cost s)) c.get-in-Branch-3.ensures)
    c.plus.ensures c.plus-in-Branch.ensures

pub returns-after-loop-s : goal.returns-after-loop-s
returns-after-loop-s t c = block_cost _ _ _ _ _ c.in-Block.is c.as_slice-s-items.ensures c.loop-s-test.false c.loop-s.invariant
