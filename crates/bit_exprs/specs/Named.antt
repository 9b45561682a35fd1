-- Which bits expressions and targets name.
use Rattle.std.specs.Prelude.{ℕ, Bool, false, ◌||◌, ◌==◌, List, [], ◌∷◌, flat_map}
use Rattle.bit_exprs.specs.declared.forms.Expr.{Expr, Row_of-Expr, end_of-Expr, more_of-Expr}
use Rattle.bit_exprs.specs.declared.forms.Expr.TheVariants.{Const, Read, Select', Unary', Binary', Choose', Logical'}
use Rattle.bit_exprs.specs.declared.forms.Part.{Part}
use Rattle.bit_exprs.specs.declared.forms.Part.TheVariants as parts
use Rattle.bit_exprs.specs.declared.forms.Target.{Target}

abbrev pub among : List ℕ → ℕ → Bool
among [] b = false
among (x ∷ xs) b = (x == b) || among xs b

abbrev mutual
  -- the expression reads bit b; a select with an index reads its whole vector
  pub reads : Expr → ℕ → Bool
  reads (Const word signed) b = false
  reads (Read bits) b = among bits b
  reads (Select' vector window p index) b = among vector b || any_reads index b
  reads (Unary' op p x) b = any_reads x b
  reads (Binary' op p x q y) b = any_reads x b || any_reads y b
  reads (Choose' p test q x r y) b = any_reads test b || (any_reads x b || any_reads y b)
  reads (Logical' and chain shape all) b = any_reads all b

  -- some operand of the row reads it
  pub any_reads : {m : _} → Row_of-Expr m → ℕ → Bool
  any_reads end_of-Expr b = false
  any_reads (more_of-Expr e rest) b = reads e b || any_reads rest b

-- the bits that a part may write
abbrev pub part_bits : Part → List ℕ
part_bits (parts.Bits bits) = bits
part_bits (parts.Select vector window index) = vector
part_bits (parts.Outside count) = []

-- those that it writes whatever its index is
abbrev pub certain_part : Part → List ℕ
certain_part (parts.Bits bits) = bits
certain_part (parts.Select vector window index) = []
certain_part (parts.Outside count) = []

-- the index of a part reads bit b
abbrev pub part_reads : Part → ℕ → Bool
part_reads (parts.Bits bits) b = false
part_reads (parts.Select vector window index) b = reads index b
part_reads (parts.Outside count) b = false

abbrev pub parts_read : List Part → ℕ → Bool
parts_read [] b = false
parts_read (p ∷ ps) b = part_reads p b || parts_read ps b

-- the bits that a target may write, those that it writes for certain, and those that its indices read
abbrev pub target_bits : Target → List ℕ
target_bits t = flat_map part_bits t.parts

abbrev pub certain_bits : Target → List ℕ
certain_bits t = flat_map certain_part t.parts

abbrev pub target_reads : Target → ℕ → Bool
target_reads t b = parts_read t.parts b
