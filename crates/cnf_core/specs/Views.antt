-- How the types of this crate are seen.
use Rattle.std.specs.Prelude.{◌≡◌, zero, suc, cond, ℤ, pos, negsuc, neg_ℤ, unsigned_abs, int_lt, refl}
use Rattle.std.proofs.Common.{arith}
use Rattle.std.proofs.lemmas.Bool.Decides.{nat_tests}
use Rattle.cnf_core.specs.Literal.{Literal}

-- the literal that a number of DIMACS means
abbrev pub literal_of : ℤ → Literal
literal_of z = record { variable = unsigned_abs z; positive = int_lt (pos 0) z }

-- the number that means this literal
abbrev pub number_of : Literal → ℤ
number_of l = cond l.positive (pos l.variable) (neg_ℤ (pos l.variable))

pub number_of-literal_of : (z : ℤ) → number_of (literal_of z) ≡ z
number_of-literal_of (pos zero) = refl
number_of-literal_of (pos (suc n)) = grind (arith, nat_tests)
number_of-literal_of (negsuc n) = refl
