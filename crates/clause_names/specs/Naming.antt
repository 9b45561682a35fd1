-- Names: the variable for each number, and what literals and lines of a proof say in the variables themselves.
use Rattle.std.specs.Prelude.{◌≡◌, ℕ, ◌+◌, ◌<◌, ◌^◌, nat_eq, List, map, slice_index_or, All as Each}
use Rattle.std.specs.List.{IsDistinct}
use Rattle.cnf_core.specs.Literal.{Literal}
use Rattle.bit_system.specs.ProofLines.{ProofLine, addition, deletion}

-- number 0 stands for 0, and each other one for another variable
pub record IsNaming (names : List ℕ) : Type 0 where
  pub zero : slice_index_or names 0 1 ≡ 0
  pub apart : IsDistinct nat_eq names
  pub variables : Each (λ n. n < 2 ^ 31) names

-- the variable for the number; one that no literal has, and each another one, for numbers past the names
abbrev pub variable_at : List ℕ → ℕ → ℕ
variable_at names k = slice_index_or names k (2 ^ 31 + k)

abbrev pub named : List ℕ → Literal → Literal
named names l = record { variable = variable_at names l.variable; positive = l.positive }

abbrev pub named_line : List ℕ → ProofLine → ProofLine
named_line names (addition id lits hints) = addition id (map (named names) lits) hints
named_line names (deletion id ids) = deletion id ids

-- the variables of a line's clause are below n
abbrev pub HasVarsBelow : ℕ → ProofLine → Type 0
HasVarsBelow n (addition id lits hints) = Each (λ l. l.variable < n) lits
HasVarsBelow n (deletion id ids) = Unit {0}
