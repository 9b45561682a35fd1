-- Values and operands, one after another.
use Rattle.std.proofs.Common.{◌≡◌, ℕ, ◌+◌, ◌<◌, List, length, get_or, drop, map, Option, Some, sym, ap, ◌∙◌}
use Rattle.std.proofs.lemmas.List.{at_drop_more}
use Rattle.vlog_syntax.specs.declared.expr.Operand.{Operand}
use Rattle.expr_elab.specs.declared.built.Built.{Built}
use Rattle.expr_elab.specs.declared.built.Row.{Row}
use Rattle.expr_elab.specs.declared.built.RowOp.{RowOp}
use Rattle.expr_elab.specs.Options.{and_then, with_both}
use Rattle.expr_elab.specs.Vectors.{Scope}
use Rattle.expr_elab.specs.Operators.{beside, row_op, one_more}
use Rattle.expr_elab.specs.Elaboration.{concatenated, row_from, built_of, operand_of}
use Rattle.expr_elab.proofs.Forms.{operand_is}

module _ {A : Type 0} (f : A → Option Built) (xs : List A) (k : ℕ) (x : A) (left all : Option Built) (at : x ≡ get_or xs k x) (lt : k < length xs)
    (h : concatenated left (map f (drop k xs)) ≡ all) where
  abbrev behind : Option Built → Option Built
  behind o = and_then (λ z. concatenated (Some z) (map f (drop (k + 1) xs))) (and_then (beside left) o)

  split : behind (f x) ≡ all
  split = ap (λ y. behind (f y)) at ∙ sym (at_drop_more (λ rest. concatenated left (map f rest)) xs k x lt) ∙ h

  pub value_more : (y z : Built) (later : Option Built) → f x ≡ Some y → beside left y ≡ Some z → later ≡ Some z → concatenated later (map f (drop (k + 1) xs)) ≡ all
  value_more y z later is joins el =
      ap (λ o. concatenated o (map f (drop (k + 1) xs))) el ∙ ap (and_then (λ z. concatenated (Some z) (map f (drop (k + 1) xs)))) (sym joins) ∙ ap behind (sym is) ∙ split

-- ---- rows

module _ (scope : Scope) (os : List Operand) (k : ℕ) (row : Option Row) where
  abbrev rows : Option Row → Option Row
  rows r = row_from r (map (operand_of scope) (drop (k + 1) os))

  abbrev with_operand : RowOp × Option Built → Option Row
  with_operand p = rows (with_both (λ r y. one_more r p.0 y) row p.1)

  pub operand_more : (o : Operand) (later all : Option Row) (op : RowOp) (y : Option Built) → o ≡ get_or os k o → k < length os → y ≡ built_of scope o.value → op ≡ row_op o.op →
      later ≡ with_both (λ r y. one_more r op y) row y → row_from row (map (operand_of scope) (drop k os)) ≡ all → row_from later (map (operand_of scope) (drop (k + 1) os)) ≡ all
  operand_more o later all op y at lt ey eo el h =
      ap rows el ∙ (λ j. with_operand (eo j, ey j)) ∙ ap with_operand (sym (operand_is scope o.op o.value)) ∙ ap (λ p. with_operand (operand_of scope p)) at
      ∙ sym (at_drop_more (λ rest. row_from row (map (operand_of scope) rest)) os k o lt) ∙ h
