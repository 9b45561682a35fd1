-- Expressions whose words are of 1 to 128 bits, and whose operands have the widths that their operators want.
use Rattle.std.specs.Prelude.{ℕ, ◌≡◌, ◌+◌, ◌*◌, ◌<◌, ◌≤◌, length, All, List}
use Rattle.bit_exprs.specs.declared.forms.Expr.{Expr, Row_of-Expr, end_of-Expr, more_of-Expr}
use Rattle.bit_exprs.specs.declared.forms.Expr.TheVariants.{Const, Read, Select', Unary', Binary', Choose', Logical'}
use Rattle.bit_exprs.specs.declared.forms.UnaryOp.{UnaryOp}
use Rattle.bit_exprs.specs.declared.forms.UnaryOp.TheVariants as one
use Rattle.bit_exprs.specs.declared.forms.BinaryOp.{BinaryOp}
use Rattle.bit_exprs.specs.declared.forms.BinaryOp.TheVariants.{Add, Sub, Mul, And, Or, Xor, Xnor, Equal, NotEqual, Less, LessEqual, Greater, GreaterEqual, Shl, Shr, Join}
use Rattle.bit_exprs.specs.declared.forms.Part.{Part}
use Rattle.bit_exprs.specs.declared.forms.Part.TheVariants as parts
use Rattle.bit_exprs.specs.declared.forms.Target.{Target}
use Rattle.bit_exprs.specs.Values.{operand_width}
use Rattle.bit_exprs.specs.Updates.{target_width}

-- from 1 to 128
abbrev pub IsWidth : ℕ → Type 0
IsWidth w = (1 ≤ w) × (w ≤ 128)

abbrev pub Takes : UnaryOp → ℕ → Type 0
Takes one.Not w = Unit {0}
Takes one.Neg w = Unit {0}
Takes (one.Extend width signed) w = (w ≤ width) × (width ≤ 128)
Takes (one.Repeat count) w = (1 ≤ count) × (count * w ≤ 128)
Takes one.All w = Unit {0}
Takes one.NotAll w = Unit {0}
Takes one.Any w = Unit {0}
Takes one.NotAny w = Unit {0}
Takes one.Odd w = Unit {0}
Takes one.NotOdd w = Unit {0}

abbrev pub TakesBoth : BinaryOp → ℕ → ℕ → Type 0
TakesBoth Add w u = u ≡ w
TakesBoth Sub w u = u ≡ w
TakesBoth Mul w u = u ≡ w
TakesBoth And w u = u ≡ w
TakesBoth Or w u = u ≡ w
TakesBoth Xor w u = u ≡ w
TakesBoth Xnor w u = u ≡ w
TakesBoth Equal w u = u ≡ w
TakesBoth NotEqual w u = u ≡ w
TakesBoth Less w u = u ≡ w
TakesBoth LessEqual w u = u ≡ w
TakesBoth Greater w u = u ≡ w
TakesBoth GreaterEqual w u = u ≡ w
TakesBoth Shl w u = Unit {0}
TakesBoth Shr w u = Unit {0}
TakesBoth Join w u = w + u ≤ 128

-- some bits, each below n
abbrev pub AreBits : ℕ → List ℕ → Type 0
AreBits n bits = IsWidth (length bits) × All (λ b. b < n) bits

abbrev mutual
  -- over the bits below n
  pub IsFormed : Expr → ℕ → Type 0
  IsFormed (Const word signed) n = IsWidth word.width
  IsFormed (Read bits) n = AreBits n bits
  IsFormed (Select' vector window p index) n = AreBits n vector × IsWidth window.count × OperandFormed index n
  IsFormed (Unary' op p a) n = Takes op (operand_width a) × OperandFormed a n
  IsFormed (Binary' op p a q b) n = TakesBoth op (operand_width a) (operand_width b) × OperandFormed a n × OperandFormed b n
  IsFormed (Choose' p test q a r b) n = (operand_width b ≡ operand_width a) × OperandFormed test n × OperandFormed a n × OperandFormed b n
  IsFormed (Logical' and chain shape all) n = AreFormed all n

  pub OperandFormed : {m : _} → Row_of-Expr m → ℕ → Type 0
  OperandFormed end_of-Expr n = ⊥
  OperandFormed (more_of-Expr e rest) n = IsFormed e n

  pub AreFormed : {m : _} → Row_of-Expr m → ℕ → Type 0
  AreFormed end_of-Expr n = Unit {0}
  AreFormed (more_of-Expr e rest) n = IsFormed e n × AreFormed rest n

-- ---- targets

abbrev pub PartFormed : Part → ℕ → Type 0
PartFormed (parts.Bits bits) n = AreBits n bits
PartFormed (parts.Select vector window index) n = AreBits n vector × IsWidth window.count × IsFormed index n
PartFormed (parts.Outside count) n = IsWidth count

-- over the bits below n, at most 128 places in all
abbrev pub TargetFormed : Target → ℕ → Type 0
TargetFormed t n = All (λ p. PartFormed p n) t.parts × (target_width t ≤ 128)
