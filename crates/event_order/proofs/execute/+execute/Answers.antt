use Rattle.std.proofs.Common.{◌≡◌, ap, sym, subst, ◌∙◌, rules}
use Rattle.std.specs.Prelude.{OnOk}
use Rattle.design_core.specs.declared.flat.Stmt.{Stmt}
use Rattle.design_core.specs.declared.flat.Stmt.TheFolds as folds
use Rattle.bit_exprs.specs.declared.forms.Expr.TheFolds as folds2
use Rattle.event_order.proofs.Listing.{Laid, laid, laid_done, names_item, names_then, names_else, laid_then, laid_else}
use Rattle.event_order.proofs.execute.+execute.Goals as goal

pub execute-requires : goal.execute-requires
execute-requires t c = (search (rules, folds.the_lemmas, folds2.the_lemmas), rw c.get.ensures (names_then _ _ _ _ _ c.in-Branch.is _ c.requires))

pub execute-requires-else-holds : goal.execute-requires-else-holds
execute-requires-else-holds t c = (search (rules, folds.the_lemmas, folds2.the_lemmas), rw c.get-else-holds.ensures (names_else _ _ _ _ _ c.in-Branch.is _ c.requires))

pub execute-requires-in-loop-s : goal.execute-requires-in-loop-s
execute-requires-in-loop-s t c =
    (search (rules, folds.the_lemmas, folds2.the_lemmas), names_item _ _ _ _ _ _ _ c.requires c.in-Block.is c.as_slice-s-items.ensures c.s-item.is c.loop-s-test.true c.loop-s.auto.values)

pub returns-then-holds-clause-values : goal.returns-then-holds-clause-values
returns-then-holds-clause-values t c =
    let h : Laid = record { values = c.args.values.now; waiting = c.args.waiting.now.items } in
    subst (λ (l : Laid). OnOk c.execute.result (c.execute.new.values ≡ l.values))
    (ap (λ (s : Stmt). laid s h) c.get.ensures ∙ sym (laid_then _ _ _ _ _ c.in-Branch.is h _ c.if-holds.true c.holds.ensures)) c.execute.ensures.values

pub returns-then-holds-clause-waiting : goal.returns-then-holds-clause-waiting
returns-then-holds-clause-waiting t c =
    let h : Laid = record { values = c.args.values.now; waiting = c.args.waiting.now.items } in
    subst (λ (l : Laid). OnOk c.execute.result (c.execute.new.waiting.items ≡ l.waiting))
    (ap (λ (s : Stmt). laid s h) c.get.ensures ∙ sym (laid_then _ _ _ _ _ c.in-Branch.is h _ c.if-holds.true c.holds.ensures)) c.execute.ensures.waiting

pub returns-else-holds-clause-values : goal.returns-else-holds-clause-values
returns-else-holds-clause-values t c =
    let h : Laid = record { values = c.args.values.now; waiting = c.args.waiting.now.items } in
    subst (λ (l : Laid). OnOk c.execute-else-holds.result (c.execute-else-holds.new.values ≡ l.values))
    (ap (λ (s : Stmt). laid s h) c.get-else-holds.ensures ∙ sym (laid_else _ _ _ _ _ c.in-Branch.is h _ c.if-holds.false c.holds.ensures)) c.execute-else-holds.ensures.values

pub returns-else-holds-clause-waiting : goal.returns-else-holds-clause-waiting
returns-else-holds-clause-waiting t c =
    let h : Laid = record { values = c.args.values.now; waiting = c.args.waiting.now.items } in
    subst (λ (l : Laid). OnOk c.execute-else-holds.result (c.execute-else-holds.new.waiting.items ≡ l.waiting))
    (ap (λ (s : Stmt). laid s h) c.get-else-holds.ensures ∙ sym (laid_else _ _ _ _ _ c.in-Branch.is h _ c.if-holds.false c.holds.ensures)) c.execute-else-holds.ensures.waiting

pub returns-after-loop-s-clause-values : goal.returns-after-loop-s-clause-values
returns-after-loop-s-clause-values t c =
    ap (λ (h : Laid). h.values) (laid_done _ _ _ _ (record { values = c.loop-s.values; waiting = c.loop-s.waiting.items }) (record { values = c.args.values.now; waiting = c.args.waiting.now.items })
    c.in-Block.is c.as_slice-s-items.ensures c.loop-s-test.false c.loop-s.invariant)

pub returns-after-loop-s-clause-waiting : goal.returns-after-loop-s-clause-waiting
returns-after-loop-s-clause-waiting t c =
    ap (λ (h : Laid). h.waiting) (laid_done _ _ _ _ (record { values = c.loop-s.values; waiting = c.loop-s.waiting.items }) (record { values = c.args.values.now; waiting = c.args.waiting.now.items })
    c.in-Block.is c.as_slice-s-items.ensures c.loop-s-test.false c.loop-s.invariant)
