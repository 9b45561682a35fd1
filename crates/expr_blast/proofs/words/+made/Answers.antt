use Rattle.std.proofs.Common.{rules, ap, sym, subst, ◌∙◌, length, map, All}
use Rattle.aig_core.specs.Graph.{IsLiteral}
use Rattle.aig_core.proofs.Values.{Extends-trans}
use Rattle.word_blast.specs.Words.{circuit_any, circuit_mux, fold_of}
use Rattle.word_blast.proofs.Combinators.{fold_of-done, recursion, All-literals-Extends}
use Rattle.bit_exprs.specs.declared.forms.Expr.TheFolds as folds
use Rattle.bit_exprs.specs.Values.{width_of, sign_of}
use Rattle.bit_exprs.proofs.Variants.{select_formed, unary_formed, unary_takes, unary_width_is, binary_formed, binary_takes, binary_width_is, choose_formed, choose_width_is, operand_formed}
use Rattle.expr_blast.specs.Circuits.{constant, literal_at, unary_of, binary_of, operand_step, select_from, word_of}
use Rattle.expr_blast.proofs.ExprLaws.{word_gives}
use Rattle.expr_blast.proofs.Forms.{row_step}
use Rattle.expr_blast.proofs.Growing.{made_exist, picked_all}
use Rattle.expr_blast.proofs.Variants.{select_word, unary_word, binary_word, choose_word, logical_word, row_more, is_wide}
use Rattle.expr_blast.proofs.words.+made.Goals as goal

pub returns-in_ok-literals-in-Const-clause-exact : goal.returns-in_ok-literals-in-Const-clause-exact
returns-in_ok-literals-in-Const-clause-exact t c =
    (λ j. (c.args.aig.now, c.in_ok-literals-in-Const.ensures j)) ∙ ap (λ e. word_of e c.args.aig.now c.args.bits.now) (sym c.in-Const.is)

pub returns-in_ok-literals-in-Const-clause-exist : goal.returns-in_ok-literals-in-Const-clause-exist
returns-in_ok-literals-in-Const-clause-exist t c =
    (made_exist (returns-in_ok-literals-in-Const-clause-exact t c) (word_gives c.args.expr.now c.args.aig.now c.args.bits.now c.requires.formed c.allocator-alloc.ensures.well_formed (recursion c.args.aig.now c.args.bits.now c.requires.bits_exist))).0

pub returns-in_ok-literals-in-Const-clause-width : goal.returns-in_ok-literals-in-Const-clause-width
returns-in_ok-literals-in-Const-clause-width t c =
    (made_exist (returns-in_ok-literals-in-Const-clause-exact t c) (word_gives c.args.expr.now c.args.aig.now c.args.bits.now c.requires.formed c.allocator-alloc.ensures.well_formed (recursion c.args.aig.now c.args.bits.now c.requires.bits_exist))).1

pub returns-in_ok-literals-in-Read-clause-exact : goal.returns-in_ok-literals-in-Read-clause-exact
returns-in_ok-literals-in-Read-clause-exact t c =
    (λ j. (c.args.aig.now, (c.in_ok-literals-in-Read.ensures ∙ ap (map (literal_at c.args.bits.now)) c.as_slice.ensures) j)) ∙ ap (λ e. word_of e c.args.aig.now c.args.bits.now) (sym c.in-Read.is)

pub returns-in_ok-literals-in-Read-clause-exist : goal.returns-in_ok-literals-in-Read-clause-exist
returns-in_ok-literals-in-Read-clause-exist t c =
    (made_exist (returns-in_ok-literals-in-Read-clause-exact t c) (word_gives c.args.expr.now c.args.aig.now c.args.bits.now c.requires.formed c.allocator-alloc.ensures.well_formed (recursion c.args.aig.now c.args.bits.now c.requires.bits_exist))).0

-- ---- selects

pub made-requires : goal.made-requires
made-requires t c = (search (rules, folds.the_lemmas), (rw c.get-inner.ensures (select_formed _ _ _ _ c.in-Select.is _ c.requires.formed).2, c.requires.bits_exist))

pub select-requires-clause-wide : goal.select-requires-clause-wide
select-requires-clause-wide t c =
    is_wide c.in-Select.index (length c.args.bits.now) _ (select_formed _ _ _ _ c.in-Select.is _ c.requires.formed).2 (ap length c.deref.ensures.value ∙ c.in_ok-at-in-Select.ensures.width ∙ ap width_of c.get-inner.ensures)

pub select-requires-clause-vector_exists : goal.select-requires-clause-vector_exists
select-requires-clause-vector_exists t c =
    subst (All (IsLiteral c.made.new.aig)) (sym (c.deref-in-Select.ensures.value ∙ c.in_ok-from-in-Select.ensures ∙ ap (map (literal_at c.args.bits.now)) c.as_slice-in-Select.ensures))
    (picked_all c.made.new.aig c.args.bits.now c.in-Select.vector (select_formed _ _ _ _ c.in-Select.is _ c.requires.formed).0.1 (All-literals-Extends _ _ _ c.made.ensures.kept c.requires.bits_exist))

pub returns-in_ok-literals-in-Select-clause-exact : goal.returns-in_ok-literals-in-Select-clause-exact
returns-in_ok-literals-in-Select-clause-exact t c =
    select_word _ _ _ _ c.in-Select.is _ _ _ _ _ _ _ _ (c.in_ok-at-in-Select.ensures.exact ∙ ap (λ e. word_of e c.args.aig.now c.args.bits.now) c.get-inner.ensures)
    (c.in_ok-from-in-Select.ensures ∙ ap (map (literal_at c.args.bits.now)) c.as_slice-in-Select.ensures) (c.is_signed-signed.ensures ∙ ap sign_of c.get-inner.ensures)
    (c.in_ok-literals-in-Select.ensures.exact
    ∙ (λ j. select_from c.in-Select.window c.is_signed-signed.result (c.deref.ensures.value j) (c.deref-in-Select.ensures.value j) c.made.new.aig 0 c.in-Select.window.count))

-- ---- operators

pub made-requires-in-Unary : goal.made-requires-in-Unary
made-requires-in-Unary t c = (search (rules, folds.the_lemmas), (rw c.get-body.ensures (unary_formed _ _ _ c.in-Unary.is _ c.requires.formed).1, c.requires.bits_exist))

pub unary-requires-clause-some : goal.unary-requires-clause-some
unary-requires-clause-some t c =
    (is_wide c.in-Unary.value (length c.args.bits.now) _ (unary_formed _ _ _ c.in-Unary.is _ c.requires.formed).1 (ap length c.deref-in-Unary.ensures.value ∙ c.in_ok-x-in-Unary.ensures.width ∙ ap width_of c.get-body.ensures)).0

pub unary-requires-clause-takes : goal.unary-requires-clause-takes
unary-requires-clause-takes t c =
    unary_takes _ _ _ c.in-Unary.is _ _ c.requires.formed (ap length c.deref-in-Unary.ensures.value ∙ c.in_ok-x-in-Unary.ensures.width ∙ ap width_of c.get-body.ensures)

pub returns-in_ok-literals-in-Unary-clause-exact : goal.returns-in_ok-literals-in-Unary-clause-exact
returns-in_ok-literals-in-Unary-clause-exact t c =
    unary_word _ _ _ c.in-Unary.is _ _ _ _ _ _ (c.in_ok-x-in-Unary.ensures.exact ∙ ap (λ e. word_of e c.args.aig.now c.args.bits.now) c.get-body.ensures)
    (c.in_ok-literals-in-Unary.ensures.exact ∙ ap (unary_of c.in-Unary.op c.made-in-Unary.new.aig) c.deref-in-Unary.ensures.value)

pub returns-in_ok-literals-in-Unary-clause-width : goal.returns-in_ok-literals-in-Unary-clause-width
returns-in_ok-literals-in-Unary-clause-width t c =
    unary_width_is _ _ _ c.in-Unary.is _ _ (ap length c.deref-in-Unary.ensures.value ∙ c.in_ok-x-in-Unary.ensures.width ∙ ap width_of c.get-body.ensures) c.in_ok-literals-in-Unary.ensures.width

pub made-requires-in-Binary : goal.made-requires-in-Binary
made-requires-in-Binary t c = (search (rules, folds.the_lemmas), (rw c.get-l.ensures (binary_formed _ _ _ _ c.in-Binary.is _ c.requires.formed).1, c.requires.bits_exist))

pub made-requires-in-Binary-2 : goal.made-requires-in-Binary-2
made-requires-in-Binary-2 t c =
    (search (rules, folds.the_lemmas), (rw c.get-r.ensures (binary_formed _ _ _ _ c.in-Binary.is _ c.requires.formed).2, All-literals-Extends _ _ _ c.made-in-Binary.ensures.kept c.requires.bits_exist))

pub binary-requires-clause-wide : goal.binary-requires-clause-wide
binary-requires-clause-wide t c =
    is_wide c.in-Binary.left (length c.args.bits.now) _ (binary_formed _ _ _ _ c.in-Binary.is _ c.requires.formed).1 (ap length c.deref-in-Binary.ensures.value ∙ c.in_ok-x-in-Binary.ensures.width ∙ ap width_of c.get-l.ensures)

pub binary-requires-clause-takes : goal.binary-requires-clause-takes
binary-requires-clause-takes t c =
    binary_takes _ _ _ _ c.in-Binary.is _ _ _ c.requires.formed (ap length c.deref-in-Binary.ensures.value ∙ c.in_ok-x-in-Binary.ensures.width ∙ ap width_of c.get-l.ensures)
    (ap length c.deref-in-Binary-2.ensures.value ∙ c.in_ok-y-in-Binary.ensures.width ∙ ap width_of c.get-r.ensures)

pub returns-in_ok-literals-in-Binary-clause-exact : goal.returns-in_ok-literals-in-Binary-clause-exact
returns-in_ok-literals-in-Binary-clause-exact t c =
    binary_word _ _ _ _ c.in-Binary.is _ _ _ _ _ _ _ _ _ _ _ (c.in_ok-x-in-Binary.ensures.exact ∙ ap (λ e. word_of e c.args.aig.now c.args.bits.now) c.get-l.ensures)
    (c.in_ok-y-in-Binary.ensures.exact ∙ ap (λ e. word_of e c.made-in-Binary.new.aig c.args.bits.now) c.get-r.ensures)
    (c.is_signed-sl.ensures ∙ ap sign_of c.get-l.ensures) (c.is_signed-sr.ensures ∙ ap sign_of c.get-r.ensures) c.both-signed.ensures
    (c.in_ok-literals-in-Binary.ensures.exact ∙ (λ j. binary_of c.in-Binary.op c.both-signed.result c.made-in-Binary-2.new.aig (c.deref-in-Binary.ensures.value j) (c.deref-in-Binary-2.ensures.value j)))

pub returns-in_ok-literals-in-Binary-clause-width : goal.returns-in_ok-literals-in-Binary-clause-width
returns-in_ok-literals-in-Binary-clause-width t c =
    binary_width_is _ _ _ _ c.in-Binary.is _ _ _ (ap length c.deref-in-Binary.ensures.value ∙ c.in_ok-x-in-Binary.ensures.width ∙ ap width_of c.get-l.ensures)
    (ap length c.deref-in-Binary-2.ensures.value ∙ c.in_ok-y-in-Binary.ensures.width ∙ ap width_of c.get-r.ensures) c.in_ok-literals-in-Binary.ensures.width

-- ---- choices

pub made-requires-in-Choose : goal.made-requires-in-Choose
made-requires-in-Choose t c = (search (rules, folds.the_lemmas), (rw c.get-t.ensures (choose_formed _ _ _ _ c.in-Choose.is _ c.requires.formed).1, c.requires.bits_exist))

pub made-requires-in-Choose-2 : goal.made-requires-in-Choose-2
made-requires-in-Choose-2 t c =
    let up = Extends-trans _ _ _ c.made-in-Choose.ensures.kept c.any.ensures.kept in
    (search (rules, folds.the_lemmas), (rw c.get-y.ensures (choose_formed _ _ _ _ c.in-Choose.is _ c.requires.formed).2, All-literals-Extends _ _ _ up c.requires.bits_exist))

pub made-requires-in-Choose-3 : goal.made-requires-in-Choose-3
made-requires-in-Choose-3 t c =
    let up = Extends-trans _ _ _ (Extends-trans _ _ _ c.made-in-Choose.ensures.kept c.any.ensures.kept) c.made-in-Choose-2.ensures.kept in
    (search (rules, folds.the_lemmas), (rw c.get-n.ensures (choose_formed _ _ _ _ c.in-Choose.is _ c.requires.formed).3, All-literals-Extends _ _ _ up c.requires.bits_exist))

pub blast_mux-requires-clause-widths : goal.blast_mux-requires-clause-widths
blast_mux-requires-clause-widths t c =
    ap length c.deref-in-Choose-3.ensures.value ∙ c.in_ok-other-in-Choose.ensures.width ∙ ap width_of c.get-n.ensures ∙ (choose_formed _ _ _ _ c.in-Choose.is _ c.requires.formed).0
    ∙ sym (ap length c.deref-in-Choose-2.ensures.value ∙ c.in_ok-one-in-Choose.ensures.width ∙ ap width_of c.get-y.ensures)

pub returns-in_ok-literals-in-Choose-clause-exact : goal.returns-in_ok-literals-in-Choose-clause-exact
returns-in_ok-literals-in-Choose-clause-exact t c =
    choose_word _ _ _ _ c.in-Choose.is _ _ _ _ _ _ _ _ _ _ _ _ (c.in_ok-tested-in-Choose.ensures.exact ∙ ap (λ e. word_of e c.args.aig.now c.args.bits.now) c.get-t.ensures)
    (c.in_ok-test-in-Choose.ensures.exact ∙ ap (circuit_any c.made-in-Choose.new.aig) c.deref-in-Choose.ensures.value)
    (c.in_ok-one-in-Choose.ensures.exact ∙ ap (λ e. word_of e c.any.new.aig c.args.bits.now) c.get-y.ensures)
    (c.in_ok-other-in-Choose.ensures.exact ∙ ap (λ e. word_of e c.made-in-Choose-2.new.aig c.args.bits.now) c.get-n.ensures)
    (c.in_ok-literals-in-Choose.ensures.exact ∙ (λ j. circuit_mux c.made-in-Choose-3.new.aig c.in_ok-test-in-Choose.test (c.deref-in-Choose-2.ensures.value j) (c.deref-in-Choose-3.ensures.value j)))

pub returns-in_ok-literals-in-Choose-clause-width : goal.returns-in_ok-literals-in-Choose-clause-width
returns-in_ok-literals-in-Choose-clause-width t c =
    c.in_ok-literals-in-Choose.ensures.width ∙ ap length c.deref-in-Choose-2.ensures.value ∙ c.in_ok-one-in-Choose.ensures.width ∙ ap width_of c.get-y.ensures ∙ choose_width_is _ _ _ _ c.in-Choose.is

-- ---- rows

pub made-requires-in-loop-operand : goal.made-requires-in-loop-operand
made-requires-in-loop-operand t c = (
  search (rules, folds.the_lemmas),
  (
    operand_formed _ _ _ _ c.in-Logical.is _ _ _ _ c.requires.formed c.as_slice-operand-items.ensures c.loop-operand-test.true c.operand-item.is,
    All-literals-Extends _ _ _ c.loop-operand.invariant.kept c.requires.bits_exist,
  ),
)

pub loop-operand-preserved : goal.loop-operand-preserved
loop-operand-preserved t c =
    record {
      rest =
          sym (row_more c.in-Logical.and c.loop-operand.aig c.made-in-loop-operand.new.aig c.with_operand.new.aig c.loop-operand.so_far c.in_ok-so_far-in-Logical.so_far c.args.bits.now c.in_ok-x-in-Logical.x.items c.operand-item.result _ c.as_slice-operand-items.result.now c.loop-operand.operand-index c.loop-operand-test.true c.operand-item.is
          c.in_ok-x-in-Logical.ensures.exact (c.in_ok-so_far-in-Logical.ensures.exact ∙ ap (operand_step c.in-Logical.and c.loop-operand.so_far c.made-in-loop-operand.new.aig) c.deref-in-loop-operand.ensures.value))
          ∙ c.loop-operand.invariant.rest;
      exists = c.in_ok-so_far-in-Logical.ensures.exists;
      kept = Extends-trans _ _ _ c.loop-operand.invariant.kept (Extends-trans _ _ _ c.made-in-loop-operand.ensures.kept c.with_operand.ensures.kept);
    }

pub returns-in_ok-literals-in-Logical-clause-exact : goal.returns-in_ok-literals-in-Logical-clause-exact
returns-in_ok-literals-in-Logical-clause-exact t c =
    logical_word _ _ _ _ c.in-Logical.is c.args.aig.now c.loop-operand.aig c.args.bits.now c.in_ok-literals-in-Logical.literals.items c.loop-operand.so_far
    (sym (fold_of-done (row_step c.in-Logical.and c.args.bits.now) c.loop-operand.aig c.loop-operand.so_far c.as_slice-operand-items.result.now c.loop-operand.operand-index c.loop-operand-test.false)
    ∙ c.loop-operand.invariant.rest ∙ ap (fold_of (row_step c.in-Logical.and c.args.bits.now) c.args.aig.now (constant c.in-Logical.and)) c.as_slice-operand-items.ensures)
    c.in_ok-literals-in-Logical.ensures
