-- What the tests' design is made of.
use Rattle.std.specs.Prelude.{ℕ, Bool, true, false, List, [], ◌∷◌, None}
use Rattle.bit_exprs.specs.declared.forms.Expr.{Unary}
use Rattle.bit_exprs.specs.declared.forms.Expr.TheVariants.{Read}
use Rattle.bit_exprs.specs.declared.forms.UnaryOp.TheVariants.{Not}
use Rattle.bit_exprs.specs.declared.forms.Part.TheVariants.{Bits}
use Rattle.design_core.specs.declared.flat.ProcKind.{ProcKind}
use Rattle.design_core.specs.declared.flat.ProcKind.TheVariants.{Comb, Clocked}
use Rattle.design_core.specs.declared.flat.Process.{Process}
use Rattle.design_core.specs.declared.flat.Stmt.TheVariants.{Assign}

-- one bit takes the negation of another
abbrev pub negation : ProcKind → Bool → ℕ → ℕ → Process
negation kind delayed to from = record {
  at = record { line = 1; col = 1 };
  kind = kind;
  events = None;
  body = Assign None delayed (record { parts = Bits (to ∷ []) ∷ [] }) (Unary Not (Read (from ∷ [])));
}

abbrev pub all_negations : List Process
all_negations = negation (Clocked None) true 1 2 ∷ negation (Clocked None) true 2 1 ∷ negation Comb false 3 4 ∷ negation Comb false 4 1 ∷ []
