-- Formed expressions from formed operands.
use Rattle.std.proofs.Common.{◌≡◌, ℕ, Bool, List, None, sym, subst}
use Rattle.std.specs.Prelude.{All}
use Rattle.std.proofs.lemmas.List.Elements.{All-head, All-tail}
use denote.Hole.Carrier.{hidden}
use mathlib.Core.Former.{Count}
use Rattle.bit_exprs.specs.declared.forms.Expr.{Expr, Select, Unary, Binary, Choose, Logical, Row_of-Expr, end_of-Expr, more_of-Expr, items-the_row-Expr, items_hidden-the_row-Expr-1}
use Rattle.bit_exprs.specs.declared.forms.Expr.TheVariants.{Logical'}
use Rattle.bit_exprs.specs.declared.forms.Expr.TheBlock.{hidden-the_row-Expr-0}
use Rattle.bit_exprs.specs.declared.forms.UnaryOp.{UnaryOp}
use Rattle.bit_exprs.specs.declared.forms.BinaryOp.{BinaryOp}
use Rattle.bit_exprs.specs.declared.forms.Window.{Window}
use Rattle.bit_exprs.specs.Values.{width_of}
use Rattle.bit_exprs.specs.Formed.{IsWidth, AreBits, Takes, TakesBoth, IsFormed, AreFormed}

module _ (n : ℕ) where
  pub select_formed : (vector : List ℕ) (window : Window) (e : Expr) → AreBits n vector → IsWidth window.count → IsFormed e n → IsFormed (Select vector window e) n
  unfolding hidden-the_row-Expr-0 hidden
  select_formed vector window e v c f = (v, c, f)

  pub unary_formed : (op : UnaryOp) (e : Expr) → Takes op (width_of e) → IsFormed e n → IsFormed (Unary op e) n
  unfolding hidden-the_row-Expr-0 hidden
  unary_formed op e t f = (t, f)

  pub binary_formed : (op : BinaryOp) (e f : Expr) → TakesBoth op (width_of e) (width_of f) → IsFormed e n → IsFormed f n → IsFormed (Binary op e f) n
  unfolding hidden-the_row-Expr-0 hidden
  binary_formed op e f t fe ff = (t, fe, ff)

  pub choose_formed : (c e f : Expr) → width_of f ≡ width_of e → IsFormed c n → IsFormed e n → IsFormed f n → IsFormed (Choose c e f) n
  unfolding hidden-the_row-Expr-0 hidden
  choose_formed c e f w fc fe ff = (w, fc, fe, ff)

  abbrev row_of : Expr → (m : Count) × Row_of-Expr m
  row_of (Logical' and chain shape row) = (_, row)
  row_of _ = (_, end_of-Expr)

  row_formed : (m : _) (row : Row_of-Expr m) → All (λ e. IsFormed e n) (items-the_row-Expr m row) → AreFormed row n
  row_formed m end_of-Expr h = tt
  row_formed m (more_of-Expr e rest) h =
      (All-head (λ f. IsFormed f n) e (items-the_row-Expr _ rest) h, row_formed _ rest (All-tail (λ f. IsFormed f n) e (items-the_row-Expr _ rest) h))

  pub logical_formed : (and : Bool) (all : List Expr) → All (λ e. IsFormed e n) all → IsFormed (Logical and None all) n
  logical_formed and all h =
      let row = row_of (Logical and None all) in row_formed row.0 row.1 (subst (All (λ e. IsFormed e n)) (sym (items_hidden-the_row-Expr-1 all)) h)
