-- The circuits at a variant whose parts are boxed or listed.
use Rattle.std.proofs.Common.{◌≡◌, ℕ, Bool, List, map, refl, ap, ◌∙◌, Option, ◌&&◌}
use denote.Hole.Carrier.{hidden}
use mathlib.Core.Former.{Count}
use Rattle.bit_exprs.specs.declared.forms.Expr.{Expr, Select, Unary, Binary, Choose, Logical, Row_of-Expr, end_of-Expr, more_of-Expr, items-the_row-Expr, items_hidden-the_row-Expr-1}
use Rattle.bit_exprs.specs.declared.forms.Expr.TheVariants.{Logical'}
use Rattle.bit_exprs.specs.declared.forms.Expr.TheBlock.{hidden-the_row-Expr-0}
use Rattle.bit_exprs.specs.declared.forms.UnaryOp.{UnaryOp}
use Rattle.bit_exprs.specs.declared.forms.BinaryOp.{BinaryOp}
use Rattle.bit_exprs.specs.declared.forms.Window.{Window}
use Rattle.bit_exprs.specs.Values.{sign_of}
use Rattle.aig_core.specs.Graph.{Graph}
use Rattle.word_blast.specs.Words.{one_bit, fold_of, circuit_any, circuit_mux}
use Rattle.expr_blast.specs.Circuits.{constant, literal_at, unary_of, binary_of, operand_step, select_from, word_of, row_of}

pub word-Select : (vector : List ℕ) (window : Window) (e : Expr) (g : Graph) (bits : List ℕ) →
    word_of (Select vector window e) g bits ≡ select_from window (sign_of e) (word_of e g bits).1 (map (literal_at bits) vector) (word_of e g bits).0 0 window.count
unfolding hidden-the_row-Expr-0 hidden
word-Select vector window e g bits = refl

pub word-Unary : (op : UnaryOp) (e : Expr) (g : Graph) (bits : List ℕ) → word_of (Unary op e) g bits ≡ unary_of op (word_of e g bits).0 (word_of e g bits).1
unfolding hidden-the_row-Expr-0 hidden
word-Unary op e g bits = refl

-- two operands, the left one first
abbrev pub both_of : BinaryOp → Expr → Expr → Graph → List ℕ → Graph × List ℕ
both_of op e f g bits =
    let x = word_of e g bits in
    let y = word_of f x.0 bits in
    binary_of op (sign_of e && sign_of f) y.0 x.1 y.1

pub word-Binary : (op : BinaryOp) (e f : Expr) (g : Graph) (bits : List ℕ) → word_of (Binary op e f) g bits ≡ both_of op e f g bits
unfolding hidden-the_row-Expr-0 hidden
word-Binary op e f g bits = refl

-- a condition, its test, and the arms
abbrev pub choice_of : Expr → Expr → Expr → Graph → List ℕ → Graph × List ℕ
choice_of c e f g bits =
    let w = word_of c g bits in
    let t = circuit_any w.0 w.1 in
    let x = word_of e t.0 bits in
    let y = word_of f x.0 bits in
    circuit_mux y.0 t.1 x.1 y.1

pub word-Choose : (c e f : Expr) (g : Graph) (bits : List ℕ) → word_of (Choose c e f) g bits ≡ choice_of c e f g bits
unfolding hidden-the_row-Expr-0 hidden
word-Choose c e f g bits = refl

-- ---- rows

-- an operand more
abbrev pub row_step : Bool → List ℕ → Graph → ℕ → Expr → Graph × ℕ
row_step and bits g so_far e = operand_step and so_far (word_of e g bits).0 (word_of e g bits).1

abbrev row_in : Expr → (n : Count) × Row_of-Expr n
row_in (Logical' and chain shape row) = (_, row)
row_in _ = (_, end_of-Expr)

row_folded : (n : _) (row : Row_of-Expr n) (and : Bool) (g : Graph) (x : ℕ) (bits : List ℕ) → row_of row and g x bits ≡ fold_of (row_step and bits) g x (items-the_row-Expr n row)
unfolding fold_of
row_folded n end_of-Expr and g x bits = refl
row_folded n (more_of-Expr e rest) and g x bits = row_folded _ rest and (row_step and bits g x e).0 (row_step and bits g x e).1 bits

pub word-Logical : (and : Bool) (chain : Option ℕ) (all : List Expr) (g : Graph) (bits : List ℕ) → word_of (Logical and chain all) g bits ≡ one_bit (fold_of (row_step and bits) g (constant and) all)
word-Logical and chain all g bits =
    let row = row_in (Logical and chain all) in
    ap one_bit (row_folded row.0 row.1 and g (constant and) bits ∙ ap (fold_of (row_step and bits) g (constant and)) (items_hidden-the_row-Expr-1 all))
