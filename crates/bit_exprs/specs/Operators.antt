-- The operators: how wide their words are, their signs, and what they compute (IEEE 1364-2001 clauses 4.1 to 4.5).
use Rattle.std.specs.Prelude.{ℕ, zero, suc, ◌+◌, ◌*◌, Bool, false, not, ◌&&◌}
use Rattle.word_core.specs.Words.{bit, bits_of, all, any, odd, word_not, word_neg, word_add, word_sub, word_mul, word_and, word_or, word_xor, word_xnor, word_shl, word_shr, word_equal, word_less, word_extend, word_join}
use Rattle.bit_exprs.specs.declared.forms.UnaryOp.{UnaryOp}
use Rattle.bit_exprs.specs.declared.forms.UnaryOp.TheVariants.{Not, Neg, Extend, Repeat, All, NotAll, Any, NotAny, Odd, NotOdd}
use Rattle.bit_exprs.specs.declared.forms.BinaryOp.{BinaryOp}
use Rattle.bit_exprs.specs.declared.forms.BinaryOp.TheVariants.{Add, Sub, Mul, And, Or, Xor, Xnor, Equal, NotEqual, Less, LessEqual, Greater, GreaterEqual, Shl, Shr, Join}

-- ---- on one word of w bits

abbrev pub unary_width : UnaryOp → ℕ → ℕ
unary_width Not w = w
unary_width Neg w = w
unary_width (Extend width signed) w = width
unary_width (Repeat count) w = count * w
unary_width All w = 1
unary_width NotAll w = 1
unary_width Any w = 1
unary_width NotAny w = 1
unary_width Odd w = 1
unary_width NotOdd w = 1

-- the sign of the result, from that of the operand
abbrev pub unary_sign : UnaryOp → Bool → Bool
unary_sign Not s = s
unary_sign Neg s = s
unary_sign (Extend width signed) s = signed
unary_sign (Repeat count) s = false
unary_sign All s = false
unary_sign NotAll s = false
unary_sign Any s = false
unary_sign NotAny s = false
unary_sign Odd s = false
unary_sign NotOdd s = false

-- the word a of w bits, n times side by side
abbrev pub repeated : ℕ → ℕ → ℕ → ℕ
repeated zero w a = 0
repeated (suc n) w a = word_join w (repeated n w a) a

abbrev pub unary_value : UnaryOp → ℕ → ℕ → ℕ
unary_value Not w a = word_not w a
unary_value Neg w a = word_neg w a
unary_value (Extend width signed) w a = word_extend w width signed a
unary_value (Repeat count) w a = repeated count w a
unary_value All w a = bit (all (bits_of w a))
unary_value NotAll w a = bit (not (all (bits_of w a)))
unary_value Any w a = bit (any (bits_of w a))
unary_value NotAny w a = bit (not (any (bits_of w a)))
unary_value Odd w a = bit (odd (bits_of w a))
unary_value NotOdd w a = bit (not (odd (bits_of w a)))

-- ---- on two words of w and u bits

abbrev pub binary_width : BinaryOp → ℕ → ℕ → ℕ
binary_width Add w u = w
binary_width Sub w u = w
binary_width Mul w u = w
binary_width And w u = w
binary_width Or w u = w
binary_width Xor w u = w
binary_width Xnor w u = w
binary_width Equal w u = 1
binary_width NotEqual w u = 1
binary_width Less w u = 1
binary_width LessEqual w u = 1
binary_width Greater w u = 1
binary_width GreaterEqual w u = 1
binary_width Shl w u = w
binary_width Shr w u = w
binary_width Join w u = w + u

abbrev pub binary_sign : BinaryOp → Bool → Bool → Bool
binary_sign Add s t = s && t
binary_sign Sub s t = s && t
binary_sign Mul s t = s && t
binary_sign And s t = s && t
binary_sign Or s t = s && t
binary_sign Xor s t = s && t
binary_sign Xnor s t = s && t
binary_sign Equal s t = false
binary_sign NotEqual s t = false
binary_sign Less s t = false
binary_sign LessEqual s t = false
binary_sign Greater s t = false
binary_sign GreaterEqual s t = false
binary_sign Shl s t = s
binary_sign Shr s t = s
binary_sign Join s t = false

-- the order is that of signed values where both operands are signed
abbrev pub binary_value : BinaryOp → Bool → ℕ → ℕ → ℕ → ℕ → ℕ
binary_value Add signed w u a b = word_add w a b
binary_value Sub signed w u a b = word_sub w a b
binary_value Mul signed w u a b = word_mul w a b
binary_value And signed w u a b = word_and w a b
binary_value Or signed w u a b = word_or w a b
binary_value Xor signed w u a b = word_xor w a b
binary_value Xnor signed w u a b = word_xnor w a b
binary_value Equal signed w u a b = bit (word_equal a b)
binary_value NotEqual signed w u a b = bit (not (word_equal a b))
binary_value Less signed w u a b = bit (word_less w signed a b)
binary_value LessEqual signed w u a b = bit (not (word_less w signed b a))
binary_value Greater signed w u a b = bit (word_less w signed b a)
binary_value GreaterEqual signed w u a b = bit (not (word_less w signed a b))
binary_value Shl signed w u a b = word_shl w a b
binary_value Shr signed w u a b = word_shr w a b
binary_value Join signed w u a b = word_join u a b
