-- Operators, and the contexts of their operands (IEEE 1364-2001 clauses 4.1, 4.4 and 4.5).
use Rattle.std.specs.Prelude.{ℕ, ◌+◌, ◌*◌, max, nat_le, Bool, true, false, cond, ◌&&◌, not, [], ◌∷◌, ◌++◌, Option, Some, None}
use Rattle.vlog_syntax.specs.declared.expr.UnaryOp as wide_unary
use Rattle.vlog_syntax.specs.declared.expr.UnaryOp.TheVariants as unary
use Rattle.vlog_syntax.specs.declared.expr.BinaryOp as wide_binary
use Rattle.vlog_syntax.specs.declared.expr.BinaryOp.TheVariants as binary
use Rattle.bit_exprs.specs.declared.forms.Expr.{Expr, Unary, Binary, Choose, Logical}
use Rattle.bit_exprs.specs.declared.forms.UnaryOp.{UnaryOp}
use Rattle.bit_exprs.specs.declared.forms.UnaryOp.TheVariants as one
use Rattle.bit_exprs.specs.declared.forms.BinaryOp.{BinaryOp}
use Rattle.bit_exprs.specs.declared.forms.BinaryOp.TheVariants as two
use Rattle.expr_elab.specs.declared.built.Built.{Built}
use Rattle.expr_elab.specs.declared.built.RowOp.{RowOp}
use Rattle.expr_elab.specs.declared.built.RowOp.TheVariants.{InContext, Compares, Shifts, Logical as LogicalOp, Divides}
use Rattle.expr_elab.specs.declared.built.Row.{Row}
use Rattle.expr_elab.specs.declared.built.Row.TheVariants.{One, Logical as LogicalRow}
use Rattle.expr_elab.specs.Contexts.{brought}

-- ---- on one operand

-- in its own context
abbrev pub kept : UnaryOp → Built → Built
kept op x = record { expr = Unary op x.expr; width = x.width; signed = x.signed; constant = x.constant }

-- to one bit
abbrev pub reduced : UnaryOp → Built → Built
reduced op x = record { expr = Unary op x.expr; width = 1; signed = false; constant = x.constant }

abbrev pub unary_built : wide_unary.UnaryOp → Built → Built
unary_built unary.Plus x = x
unary_built unary.Minus x = kept one.Neg x
unary_built unary.Not x = kept one.Not x
unary_built unary.LogicalNot x = reduced one.NotAny x
unary_built unary.And x = reduced one.All x
unary_built unary.Nand x = reduced one.NotAll x
unary_built unary.Or x = reduced one.Any x
unary_built unary.Nor x = reduced one.NotAny x
unary_built unary.Xor x = reduced one.Odd x
unary_built unary.TildeXor x = reduced one.NotOdd x
unary_built unary.XorTilde x = reduced one.NotOdd x

-- ---- on two operands, whose context is as wide as the wider one, and signed where both are

abbrev pub common_width : Built → Built → ℕ
common_width x y = max x.width y.width

abbrev pub common_sign : Built → Built → Bool
common_sign x y = x.signed && y.signed

abbrev pub joined_in_context : BinaryOp → Built → Built → Expr
joined_in_context op x y = Binary op (brought (common_width x y) (common_sign x y) x) (brought (common_width x y) (common_sign x y) y)

-- which is that of the whole
abbrev pub in_context : BinaryOp → Built → Built → Built
in_context op x y = record { expr = joined_in_context op x y; width = common_width x y; signed = common_sign x y; constant = x.constant && y.constant }

-- which is their own
abbrev pub compared : BinaryOp → Built → Built → Built
compared op x y = record { expr = joined_in_context op x y; width = 1; signed = false; constant = x.constant && y.constant }

-- by a number of places, which has no context
abbrev pub shifted : BinaryOp → Built → Built → Built
shifted op x y = record { expr = Binary op x.expr y.expr; width = x.width; signed = x.signed; constant = x.constant && y.constant }

abbrev pub row_op : wide_binary.BinaryOp → RowOp
row_op binary.Times = InContext two.Mul
row_op binary.Divide = Divides
row_op binary.Remainder = Divides
row_op binary.Plus = InContext two.Add
row_op binary.Minus = InContext two.Sub
row_op binary.ShiftLeft = Shifts two.Shl
row_op binary.ShiftRight = Shifts two.Shr
row_op binary.Less = Compares two.Less
row_op binary.AtMost = Compares two.LessEqual
row_op binary.Greater = Compares two.Greater
row_op binary.AtLeast = Compares two.GreaterEqual
row_op binary.Equal = Compares two.Equal
row_op binary.NotEqual = Compares two.NotEqual
row_op binary.And = InContext two.And
row_op binary.Xor = InContext two.Xor
row_op binary.XorTilde = InContext two.Xnor
row_op binary.TildeXor = InContext two.Xnor
row_op binary.Or = InContext two.Or
row_op binary.LogicalAnd = LogicalOp true
row_op binary.LogicalOr = LogicalOp false

-- ---- rows, evaluated from the left; operands between `&&`, or between `||`, are one expression

-- `&&` goes on with `&&`, and `||` with `||`
abbrev pub goes_on : Bool → RowOp → Bool
goes_on and (InContext op) = false
goes_on and (Compares op) = false
goes_on and (Shifts op) = false
goes_on and (LogicalOp also) = cond and also (not also)
goes_on and Divides = false

abbrev pub one_more : Row → RowOp → Built → Option Row
one_more (One x) (InContext op) y = Some (One (in_context op x y))
one_more (One x) (Compares op) y = Some (One (compared op x y))
one_more (One x) (Shifts op) y = Some (One (shifted op x y))
one_more (One x) (LogicalOp and) y = Some (LogicalRow and (x.expr ∷ y.expr ∷ []) (x.constant && y.constant))
one_more (One x) Divides y = None
one_more (LogicalRow and operands constant) op y =
    cond (goes_on and op) (Some (LogicalRow and (operands ++ y.expr ∷ []) (constant && y.constant))) None

abbrev pub row_built : Row → Built
row_built (One x) = x
row_built (LogicalRow and operands constant) = record { expr = Logical and None operands; width = 1; signed = false; constant = constant }

-- ---- `?:`, with the arms in the context of the whole

abbrev pub chosen : Built → Built → Built → Built
chosen test x y =
    record {
      expr = Choose test.expr (brought (common_width x y) (common_sign x y) x) (brought (common_width x y) (common_sign x y) y);
      width = common_width x y;
      signed = common_sign x y;
      constant = test.constant && (x.constant && y.constant);
    }

-- ---- concatenations, of at most 128 bits; a value in braces has no context but its own

abbrev pub alone : Built → Built
alone x = record { expr = Unary (one.Repeat 1) x.expr; width = x.width; signed = false; constant = x.constant }

abbrev pub joined : ℕ → Built → Built → Built
joined w x y = record { expr = Binary two.Join x.expr y.expr; width = w; signed = false; constant = x.constant && y.constant }

abbrev pub beside : Option Built → Built → Option Built
beside None y = Some (alone y)
beside (Some x) y = cond (nat_le (x.width + y.width) 128) (Some (joined (x.width + y.width) x y)) None

abbrev pub repeated : ℕ → Built → Option Built
repeated n x = cond (nat_le (n * x.width) 128) (Some (record { expr = Unary (one.Repeat n) x.expr; width = n * x.width; signed = false; constant = x.constant })) None
