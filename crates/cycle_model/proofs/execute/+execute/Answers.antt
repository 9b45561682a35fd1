use Rattle.std.proofs.Common.{◌+◌, true, ap, sym, ◌∙◌, rules, set}
use Rattle.std.proofs.lemmas.List.{length-set}
use Rattle.design_core.specs.declared.flat.Stmt.{Stmt}
use Rattle.design_core.specs.declared.flat.Stmt.TheFolds as folds
use Rattle.bit_exprs.specs.declared.forms.Expr.TheFolds as folds2
use Rattle.bit_exprs.specs.Updates.{perform}
use Rattle.design_core.specs.Exec.{Effect, exec}
use Rattle.cycle_model.specs.Flags.{flagged}
use Rattle.cycle_model.proofs.Blocks.{Held, within_item, block_more, block_done, branch_within, branch_then, branch_else}
use Rattle.cycle_model.proofs.execute.+execute.Goals as goal

pub execute-requires : goal.execute-requires
execute-requires t c = (
  search (rules, folds.the_lemmas, folds2.the_lemmas),
  (
    rw (c.get.ensures, length-set) (branch_within _ _ _ _ _ c.in-Branch.is _ _ c.requires.within).2,
    (c.requires.next, c.requires.scratch),
  ),
)

pub execute-requires-else-holds : goal.execute-requires-else-holds
execute-requires-else-holds t c = (
  search (rules, folds.the_lemmas, folds2.the_lemmas),
  (
    rw (c.get-else-holds.ensures, length-set) (branch_within _ _ _ _ _ c.in-Branch.is _ _ c.requires.within).3,
    (c.requires.next, c.requires.scratch),
  ),
)

pub execute-requires-in-loop-s : goal.execute-requires-in-loop-s
execute-requires-in-loop-s t c =
    (search (rules, folds.the_lemmas, folds2.the_lemmas), (within_item _ _ _ _ _ _ _ _ _ c.requires.within c.in-Block.is c.as_slice-s-items.ensures c.s-item.is c.loop-s-test.true c.loop-s.auto.values c.loop-s.auto.marks, search rules))

pub loop-s-preserved : goal.loop-s-preserved
loop-s-preserved t c =
    block_more _ _ c.s-item.result _ _ _ _ _ c.loop-s-test.true c.s-item.is c.execute-in-loop-s.ensures.values c.execute-in-loop-s.ensures.next c.execute-in-loop-s.ensures.marks c.loop-s.invariant

pub returns-then-holds-clause-values : goal.returns-then-holds-clause-values
returns-then-holds-clause-values t c =
    c.execute.ensures.values ∙ ap (λ (s : Stmt). (exec s c.args.values.now).values) c.get.ensures
    ∙ sym (ap (λ (e : Effect). e.values) (branch_then _ _ _ _ _ c.in-Branch.is c.args.values.now _ c.if-holds.true c.holds.ensures))

pub returns-then-holds-clause-next : goal.returns-then-holds-clause-next
returns-then-holds-clause-next t c =
    c.execute.ensures.next ∙ ap (λ (s : Stmt). perform (exec s c.args.values.now).updates c.args.next.now) c.get.ensures
    ∙ sym (ap (λ (e : Effect). perform e.updates c.args.next.now) (branch_then _ _ _ _ _ c.in-Branch.is c.args.values.now _ c.if-holds.true c.holds.ensures))

pub returns-then-holds-clause-marks : goal.returns-then-holds-clause-marks
returns-then-holds-clause-marks t c =
    c.execute.ensures.marks ∙ ap (λ (s : Stmt). flagged (exec s c.args.values.now).marks (set c.args.marks.now c.in-Branch.site true)) c.get.ensures
    ∙ sym (ap (λ (e : Effect). flagged e.marks c.args.marks.now) (branch_then _ _ _ _ _ c.in-Branch.is c.args.values.now _ c.if-holds.true c.holds.ensures))

pub returns-else-holds-clause-values : goal.returns-else-holds-clause-values
returns-else-holds-clause-values t c =
    c.execute-else-holds.ensures.values ∙ ap (λ (s : Stmt). (exec s c.args.values.now).values) c.get-else-holds.ensures
    ∙ sym (ap (λ (e : Effect). e.values) (branch_else _ _ _ _ _ c.in-Branch.is c.args.values.now _ c.if-holds.false c.holds.ensures))

pub returns-else-holds-clause-next : goal.returns-else-holds-clause-next
returns-else-holds-clause-next t c =
    c.execute-else-holds.ensures.next ∙ ap (λ (s : Stmt). perform (exec s c.args.values.now).updates c.args.next.now) c.get-else-holds.ensures
    ∙ sym (ap (λ (e : Effect). perform e.updates c.args.next.now) (branch_else _ _ _ _ _ c.in-Branch.is c.args.values.now _ c.if-holds.false c.holds.ensures))

pub returns-else-holds-clause-marks : goal.returns-else-holds-clause-marks
returns-else-holds-clause-marks t c =
    c.execute-else-holds.ensures.marks ∙ ap (λ (s : Stmt). flagged (exec s c.args.values.now).marks (set c.args.marks.now (c.in-Branch.site + 1) true)) c.get-else-holds.ensures
    ∙ sym (ap (λ (e : Effect). flagged e.marks c.args.marks.now) (branch_else _ _ _ _ _ c.in-Branch.is c.args.values.now _ c.if-holds.false c.holds.ensures))

pub returns-after-loop-s-clause-values : goal.returns-after-loop-s-clause-values
returns-after-loop-s-clause-values t c =
    ap (λ (h : Held). h.values) (block_done _ _ _ _ (record { values = c.loop-s.values; next = c.loop-s.next; marks = c.loop-s.marks }) (record { values = c.args.values.now; next = c.args.next.now; marks = c.args.marks.now })
    c.in-Block.is c.as_slice-s-items.ensures c.loop-s-test.false c.loop-s.invariant)

pub returns-after-loop-s-clause-next : goal.returns-after-loop-s-clause-next
returns-after-loop-s-clause-next t c =
    ap (λ (h : Held). h.next) (block_done _ _ _ _ (record { values = c.loop-s.values; next = c.loop-s.next; marks = c.loop-s.marks }) (record { values = c.args.values.now; next = c.args.next.now; marks = c.args.marks.now })
    c.in-Block.is c.as_slice-s-items.ensures c.loop-s-test.false c.loop-s.invariant)

pub returns-after-loop-s-clause-marks : goal.returns-after-loop-s-clause-marks
returns-after-loop-s-clause-marks t c =
    ap (λ (h : Held). h.marks) (block_done _ _ _ _ (record { values = c.loop-s.values; next = c.loop-s.next; marks = c.loop-s.marks }) (record { values = c.args.values.now; next = c.args.next.now; marks = c.args.marks.now })
    c.in-Block.is c.as_slice-s-items.ensures c.loop-s-test.false c.loop-s.invariant)
