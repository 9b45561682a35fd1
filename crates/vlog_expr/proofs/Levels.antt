-- The rows of operators stand in one another.
use Rattle.std.proofs.Common.{◌≡◌, ℕ, max, ◌<◌, List, refl, arith}
use Rattle.parsing.specs.Reading.{and_then}
use Rattle.vlog_rules.specs.declared.level.Rows.{Rows}
use Rattle.vlog_rules.specs.declared.level.Rows.TheVariants as rows
use Rattle.vlog_rules.specs.declared.level.Level.{Level}
use Rattle.vlog_rules.specs.declared.level.Level.TheVariants as level
use Rattle.vlog_rules.specs.Grammar.{tighter, operands, row_of, product, sum, shift, order, equality, conjoined, differing, disjoined, conjunction, disjunction, row, expr_rules}
use Rattle.vlog_tokens.specs.Tokens.{Token}
use Rattle.vlog_expr.specs.Reading.{rule_at, behind_first}

abbrev row_rank : Rows → ℕ
row_rank rows.Product = 2
row_rank rows.Sum = 3
row_rank rows.Shift = 4
row_rank rows.Order = 5
row_rank rows.Equality = 6
row_rank rows.And = 7
row_rank rows.Xor = 8
row_rank rows.Or = 9
row_rank rows.Conjunction = 10
row_rank rows.Disjunction = 11

-- how many rules hand on to one another up to this one
abbrev pub rank : Level → ℕ
rank level.Primary = 0
rank level.Unary = 1
rank (level.Row k) = row_rank k
rank level.Whole = 12

-- a row is what binds tighter, and what stands behind it
pub row_is : (below : ℕ) (k : Rows) (i : List Token) → rule_at below (expr_rules (level.Row k)) i ≡ and_then (rule_at below (expr_rules (tighter k)) i) (behind_first below (operands k) row_of)
unfolding tighter expr_rules row product sum shift order equality conjoined differing disjoined conjunction disjunction
row_is below rows.Product i = refl
row_is below rows.Sum i = refl
row_is below rows.Shift i = refl
row_is below rows.Order i = refl
row_is below rows.Equality i = refl
row_is below rows.And i = refl
row_is below rows.Xor i = refl
row_is below rows.Or i = refl
row_is below rows.Conjunction i = refl
row_is below rows.Disjunction i = refl

pub tighter_falls : (k : Rows) → rank (tighter k) < rank (level.Row k)
unfolding tighter
tighter_falls rows.Product = omega arith
tighter_falls rows.Sum = omega arith
tighter_falls rows.Shift = omega arith
tighter_falls rows.Order = omega arith
tighter_falls rows.Equality = omega arith
tighter_falls rows.And = omega arith
tighter_falls rows.Xor = omega arith
tighter_falls rows.Or = omega arith
tighter_falls rows.Conjunction = omega arith
tighter_falls rows.Disjunction = omega arith

pub max_zeros : (h : ℕ) → max 0 (max h 0) ≡ h
max_zeros h = omega arith
