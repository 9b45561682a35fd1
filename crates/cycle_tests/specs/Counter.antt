-- The design of the tests.
use Rattle.std.specs.Prelude.{ℕ, ◌≡◌, true, false, [], ◌∷◌, length, Some, None}
use Rattle.word_core.specs.declared.word.Word.{Word}
use Rattle.bit_exprs.specs.declared.forms.Expr.{Expr, Const, Read, Binary}
use Rattle.bit_exprs.specs.declared.forms.BinaryOp.TheVariants.{Add}
use Rattle.bit_exprs.specs.declared.forms.Part.{Part}
use Rattle.bit_exprs.specs.declared.forms.Part.TheVariants.{Bits, Select}
use Rattle.design_core.specs.declared.flat.Stmt.{Stmt, Assign, Branch}
use Rattle.design_core.specs.declared.flat.ProcKind.TheVariants.{Clocked}
use Rattle.design_core.specs.declared.flat.Process.{Process}
use Rattle.design_core.specs.declared.flat.Design.{Design}
use Rattle.design_core.specs.Legality.{IsLegal}

abbrev pub put : ℕ → Part → Expr → Stmt
put site part value = Assign (Some site) true (record { parts = part ∷ [] }) value

-- v[i] <= 1'b1;
abbrev pub raise : Word → Stmt
raise high = put 0 (Select (7 ∷ 8 ∷ 9 ∷ []) (record { rising = false; right = 0; down = false; count = 1 }) (Read (1 ∷ 2 ∷ []))) (Const high false)

-- s + 4'd1
abbrev pub next : Word → Expr
next one = Binary Add (Read (3 ∷ 4 ∷ 5 ∷ 6 ∷ [])) (Const one false)

-- s <= s + 4'd1;
abbrev pub count : Word → Stmt
count one = put 1 (Bits (3 ∷ 4 ∷ 5 ∷ 6 ∷ [])) (next one)

abbrev pub body_of : Word → Word → Stmt
body_of high one = Branch 2 (Read (0 ∷ [])) (raise high) (count one)

abbrev pub process_of : Stmt → Process
process_of body = record { at = record { line = 1; col = 1 }; kind = Clocked None; events = None; body = body }

-- a legal design of so many bits, inputs, registers and sites
pub record IsCounter (d : Design) : Type 0 where
  pub legal : IsLegal d []
  pub bits : length d.bits ≡ 11
  pub inputs : length d.inputs ≡ 3
  pub registers : length d.registers ≡ 7
  pub sites : length d.sites ≡ 4
