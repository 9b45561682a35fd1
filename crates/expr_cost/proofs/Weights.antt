-- What expressions cost, at the variants as code goes over them.
use Rattle.std.proofs.Common.{◌≡◌, ℕ, ◌+◌, ◌*◌, ◌<◌, ◌≤◌, Bool, List, length, take, get_or, refl, sym, ap, ◌∙◌, Option}
use Rattle.std.specs.List.{sum_by}
use Rattle.std.proofs.lemmas.List.{take_all}
use Rattle.std.proofs.lemmas.List.Sums.{sum_by_more}
use Rattle.bit_exprs.specs.declared.forms.Expr.{Expr, Select, Unary, Binary, Choose, Logical}
use Rattle.bit_exprs.specs.declared.forms.UnaryOp.{UnaryOp}
use Rattle.bit_exprs.specs.declared.forms.BinaryOp.{BinaryOp}
use Rattle.bit_exprs.specs.declared.forms.Window.{Window}
use Rattle.bit_exprs.specs.Operators.{unary_width, binary_width}
use Rattle.bit_exprs.specs.Values.{width_of}
use Rattle.bit_exprs.specs.Cost.{capped, unary_cost, binary_cost, cost_of}
use Rattle.bit_exprs.proofs.Equations.{width-Unary, width-Binary, width-Choose}
use Rattle.expr_cost.proofs.CostLaws.{again, capped_plus, capped_sum, capped_scaled, unary_cost-capped, unary_width-capped, binary_cost-capped, binary_width-capped}
use Rattle.expr_cost.proofs.Equations.{tested, cost-Select, cost-Unary, cost-Binary, cost-Choose, cost-Logical}

module _ (expr e : Expr) (vector : List ℕ) (window : Window) (is : expr ≡ Select vector window e) where
  pub select_cost_is : (c w n r : ℕ) → c ≡ capped (cost_of e) → w ≡ capped (width_of e) → n ≡ length vector → r ≡ capped (c + window.count * n * (w + 2)) → r ≡ capped (cost_of expr)
  select_cost_is c w n r ec ew en er =
      er ∙ (λ j. capped (ec j + window.count * en j * (ew j + 2)))
      ∙ capped_sum (cost_of e) (capped (cost_of e)) (window.count * length vector * (width_of e + 2)) (window.count * length vector * (capped (width_of e) + 2)) (again (cost_of e))
      (capped_scaled (window.count * length vector) (capped (width_of e) + 2) (width_of e + 2) (capped_sum (width_of e) (capped (width_of e)) 2 2 (again (width_of e)) refl))
      ∙ ap capped (sym (cost-Select vector window e) ∙ ap cost_of (sym is))

module _ (expr e : Expr) (op : UnaryOp) (is : expr ≡ Unary op e) where
  pub unary_cost_is : (c w r : ℕ) → c ≡ capped (cost_of e) → w ≡ capped (width_of e) → r ≡ capped (c + unary_cost op w) → r ≡ capped (cost_of expr)
  unary_cost_is c w r ec ew er =
      er ∙ (λ j. capped (ec j + unary_cost op (ew j)))
      ∙ capped_sum (cost_of e) (capped (cost_of e)) (unary_cost op (width_of e)) (unary_cost op (capped (width_of e))) (again (cost_of e)) (unary_cost-capped op (width_of e))
      ∙ ap capped (sym (cost-Unary op e) ∙ ap cost_of (sym is))

  pub unary_width_is : (w r : ℕ) → w ≡ capped (width_of e) → r ≡ capped (unary_width op w) → r ≡ capped (width_of expr)
  unary_width_is w r ew er = er ∙ ap (λ n. capped (unary_width op n)) ew ∙ unary_width-capped op (width_of e) ∙ ap capped (sym (width-Unary op e) ∙ ap width_of (sym is))

module _ (expr e f : Expr) (op : BinaryOp) (is : expr ≡ Binary op e f) where
  pub binary_cost_is : (c d w u r : ℕ) → c ≡ capped (cost_of e) → d ≡ capped (cost_of f) → w ≡ capped (width_of e) → u ≡ capped (width_of f) → r ≡ capped (c + d + binary_cost op w u) → r ≡ capped (cost_of expr)
  binary_cost_is c d w u r ec ed ew eu er =
      er ∙ (λ j. capped (ec j + ed j + binary_cost op (ew j) (eu j)))
      ∙ capped_sum (cost_of e + cost_of f) (capped (cost_of e) + capped (cost_of f)) (binary_cost op (width_of e) (width_of f)) (binary_cost op (capped (width_of e)) (capped (width_of f))) (capped_plus (cost_of e) (cost_of f))
      (binary_cost-capped op (width_of e) (width_of f))
      ∙ ap capped (sym (cost-Binary op e f) ∙ ap cost_of (sym is))

  pub binary_width_is : (w u r : ℕ) → w ≡ capped (width_of e) → u ≡ capped (width_of f) → r ≡ capped (binary_width op w u) → r ≡ capped (width_of expr)
  binary_width_is w u r ew eu er =
      er ∙ (λ j. capped (binary_width op (ew j) (eu j))) ∙ binary_width-capped op (width_of e) (width_of f) ∙ ap capped (sym (width-Binary op e f) ∙ ap width_of (sym is))

module _ (expr t e f : Expr) (is : expr ≡ Choose t e f) where
  pub choose_cost_is : (a c d v w r : ℕ) → a ≡ capped (cost_of t) → c ≡ capped (cost_of e) → d ≡ capped (cost_of f) → v ≡ capped (width_of t) → w ≡ capped (width_of e) →
      r ≡ capped (a + c + d + (3 * w + v)) → r ≡ capped (cost_of expr)
  choose_cost_is a c d v w r ea ec ed ev ew er =
      er ∙ (λ j. capped (ea j + ec j + ed j + (3 * ew j + ev j)))
      ∙ capped_sum (cost_of t + cost_of e + cost_of f) (capped (cost_of t) + capped (cost_of e) + capped (cost_of f)) (3 * width_of e + width_of t) (3 * capped (width_of e) + capped (width_of t))
      (capped_sum (cost_of t + cost_of e) (capped (cost_of t) + capped (cost_of e)) (cost_of f) (capped (cost_of f)) (capped_plus (cost_of t) (cost_of e)) (again (cost_of f)))
      (capped_sum (3 * width_of e) (3 * capped (width_of e)) (width_of t) (capped (width_of t)) (capped_scaled 3 (capped (width_of e)) (width_of e) (again (width_of e))) (again (width_of t)))
      ∙ ap capped (sym (cost-Choose t e f) ∙ ap cost_of (sym is))

  pub choose_width_is : (w r : ℕ) → w ≡ capped (width_of e) → r ≡ w → r ≡ capped (width_of expr)
  choose_width_is w r ew er = er ∙ ew ∙ ap capped (sym (width-Choose t e f) ∙ ap width_of (sym is))

-- ---- sums over lists

-- one item more
pub sum_more : {X : Type 0} (f : X → ℕ) (xs : List X) (i : ℕ) (x : X) (total one new : ℕ) → i < length xs → x ≡ get_or xs i x → total ≡ capped (sum_by f (take i xs)) → one ≡ capped (f x) →
    new ≡ capped (total + one) → new ≡ capped (sum_by f (take (i + 1) xs))
sum_more f xs i x total one new lt at total_is one_is new_is =
    new_is ∙ (λ j. capped (total_is j + one_is j)) ∙ capped_plus (sum_by f (take i xs)) (f x) ∙ ap capped (ap (λ y. sum_by f (take i xs) + f y) at ∙ sym (sum_by_more f xs i x lt))

pub sum_all : {X : Type 0} (f : X → ℕ) (xs items : List X) (i total : ℕ) → items ≡ xs → length items ≤ i → total ≡ capped (sum_by f (take i items)) → total ≡ capped (sum_by f xs)
sum_all f xs items i total listed done so_far = so_far ∙ ap (λ ys. capped (sum_by f ys)) (take_all i items done ∙ listed)

-- an operand of a row
pub tested_is : (e : Expr) (c w r : ℕ) → c ≡ capped (cost_of e) → w ≡ capped (width_of e) → r ≡ capped (c + (w + 1)) → r ≡ capped (tested e)
tested_is e c w r ec ew er =
    er ∙ (λ j. capped (ec j + (ew j + 1)))
    ∙ capped_sum (cost_of e) (capped (cost_of e)) (width_of e + 1) (capped (width_of e) + 1) (again (cost_of e)) (capped_sum (width_of e) (capped (width_of e)) 1 1 (again (width_of e)) refl)

pub row_cost_is : (expr : Expr) (and : Bool) (chain : Option ℕ) (all items : List Expr) (i total : ℕ) → expr ≡ Logical and chain all → items ≡ all → length items ≤ i → total ≡ capped (sum_by tested (take i items)) →
    total ≡ capped (cost_of expr)
row_cost_is expr and chain all items i total is listed done so_far =
    sum_all tested all items i total listed done so_far ∙ ap capped (sym (cost-Logical and chain all) ∙ ap cost_of (sym is))
