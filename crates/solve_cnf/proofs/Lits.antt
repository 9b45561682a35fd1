-- Literals by their places.
use Rattle.std.proofs.Common.{false}
use Rattle.cnf_core.specs.Literal.{Literal}

-- a literal for where there is none
abbrev pub no_literal : Literal
no_literal = record { variable = 0; positive = false }
