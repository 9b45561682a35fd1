use Rattle.std.proofs.Common.{◌∙◌, ap, sym, subst, arith}
use Rattle.std.specs.Prelude.{option_map}
use Rattle.elab_flat.specs.Bodies.{branches_in, sum_over}
use Rattle.elab_flat.specs.Driven.{IsDriven}
use Rattle.elab_flat.proofs.SiteLists.{halved}
use Rattle.elab_flat.proofs.Assembly.{are_processes, next_arm}
use Rattle.elab_flat.proofs.elaborate.driven_processes.Goals as goal

pub branch_count-requires : goal.branch_count-requires
branch_count-requires c =
    let made = ap (option_map (λ ps. (ps, c.processes.new.numbers))) (sym c.in-Some.is) ∙ c.in_ok-processes.ensures in
    let arm = next_arm c.args.clock_name.now c.args.nets.now c.args.clock c.args.items.now c.args.statements c.requires.counted c.in_ok-scope.scope c.in_ok-scope.ensures c.in-Some.processes c.processes.new.numbers made in
    omega arith

pub returns : goal.returns
returns c =
    let made = ap (option_map (λ ps. (ps, c.processes.new.numbers))) (sym c.in-Some.is) ∙ c.in_ok-processes.ensures in
    let arm = next_arm c.args.clock_name.now c.args.nets.now c.args.clock c.args.items.now c.args.statements c.requires.counted c.in_ok-scope.scope c.in_ok-scope.ensures c.in-Some.processes c.processes.new.numbers made in
    let driven = subst (λ ps. IsDriven ps c.in_ok-registers.registers) c.as_slice.ensures (subst (IsDriven c.as_slice.result.now) c.as_slice-2.ensures (c.in_ok-is_driven.ensures.0 c.if-not-branch-2.false)) in (
      are_processes c.args.clock_name.now c.args.nets.now c.args.clock c.args.items.now c.args.statements c.requires.counted c.in_ok-scope.scope c.in_ok-scope.ensures c.in-Some.processes c.processes.new.numbers made
          (sym c.in_ok-are_assignable.ensures ∙ c.if-not-branch.false) c.in_ok-registers.registers c.in_ok-registers.ensures driven,
      c.branch_count.ensures.half ∙ halved c.args.statements c.processes.new.numbers.arm (sum_over branches_in c.args.items.now) arm,
      c.branch_count.ensures.few,
    )
