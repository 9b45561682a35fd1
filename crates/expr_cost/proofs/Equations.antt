-- Costs at the variants whose parts are boxed or listed.
use Rattle.std.proofs.Common.{◌≡◌, ℕ, ◌+◌, ◌*◌, Bool, List, length, refl, sym, ap, ◌∙◌, Option}
use Rattle.std.specs.List.{sum_by}
use Rattle.std.proofs.lemmas.List.Sums.{sum_by-cons}
use denote.Hole.Carrier.{hidden}
use mathlib.Core.Former.{Count}
use Rattle.bit_exprs.specs.declared.forms.Expr.{Expr, Select, Unary, Binary, Choose, Logical, Row_of-Expr, end_of-Expr, more_of-Expr, items-the_row-Expr, items_hidden-the_row-Expr-1}
use Rattle.bit_exprs.specs.declared.forms.Expr.TheVariants.{Logical'}
use Rattle.bit_exprs.specs.declared.forms.Expr.TheBlock.{hidden-the_row-Expr-0}
use Rattle.bit_exprs.specs.declared.forms.UnaryOp.{UnaryOp}
use Rattle.bit_exprs.specs.declared.forms.BinaryOp.{BinaryOp}
use Rattle.bit_exprs.specs.declared.forms.Window.{Window}
use Rattle.bit_exprs.specs.Values.{width_of}
use Rattle.bit_exprs.specs.Cost.{unary_cost, binary_cost, cost_of, tested_of}

pub cost-Select : (vector : List ℕ) (window : Window) (e : Expr) → cost_of (Select vector window e) ≡ cost_of e + window.count * length vector * (width_of e + 2)
unfolding hidden-the_row-Expr-0 hidden
cost-Select vector window e = refl

pub cost-Unary : (op : UnaryOp) (e : Expr) → cost_of (Unary op e) ≡ cost_of e + unary_cost op (width_of e)
unfolding hidden-the_row-Expr-0 hidden
cost-Unary op e = refl

pub cost-Binary : (op : BinaryOp) (e f : Expr) → cost_of (Binary op e f) ≡ cost_of e + cost_of f + binary_cost op (width_of e) (width_of f)
unfolding hidden-the_row-Expr-0 hidden
cost-Binary op e f = refl

pub cost-Choose : (c e f : Expr) → cost_of (Choose c e f) ≡ cost_of c + cost_of e + cost_of f + (3 * width_of e + width_of c)
unfolding hidden-the_row-Expr-0 hidden
cost-Choose c e f = refl

-- ---- rows

-- what an operand of a row costs, made and tested
abbrev pub tested : Expr → ℕ
tested e = cost_of e + (width_of e + 1)

abbrev row_of : Expr → (n : Count) × Row_of-Expr n
row_of (Logical' and chain shape row) = (_, row)
row_of _ = (_, end_of-Expr)

tested_row : (n : _) (row : Row_of-Expr n) → tested_of row ≡ sum_by tested (items-the_row-Expr n row)
tested_row n end_of-Expr = refl
tested_row n (more_of-Expr e rest) = ap (λ m. tested e + m) (tested_row _ rest) ∙ sym (sum_by-cons tested e (items-the_row-Expr _ rest))

pub cost-Logical : (and : Bool) (chain : Option ℕ) (all : List Expr) → cost_of (Logical and chain all) ≡ sum_by tested all
cost-Logical and chain all =
    let row = row_of (Logical and chain all) in
    tested_row row.0 row.1 ∙ ap (sum_by tested) (items_hidden-the_row-Expr-1 all)
