-- What holds of the expressions that are built.
use Rattle.std.specs.Prelude.{ℕ, ◌≡◌, ◌≤◌, true, false}
use Rattle.bit_exprs.specs.declared.forms.Expr.{Expr}
use Rattle.bit_exprs.specs.Values.{width_of, sign_of}
use Rattle.bit_exprs.specs.Formed.{IsWidth, IsFormed}
use Rattle.expr_elab.specs.declared.built.Built.{Built}
use Rattle.expr_elab.specs.declared.built.Picked.{Picked}
use Rattle.expr_elab.specs.declared.built.Picked.TheVariants.{Bit, Bounds, Counted}
use Rattle.expr_elab.specs.Vectors.{Scope, IsWithin}

-- a constant has no bits of the design
abbrev pub IsClosed : Built → Type 0
IsClosed x = x.constant ≡ true → IsFormed x.expr 0

-- the property holds of each expression in the brackets
abbrev pub OfEach : (Built → Type 0) → Picked → Type 0
OfEach P (Bit index) = P index
OfEach P (Bounds left right) = P left × P right
OfEach P (Counted base count down) = P base × P count

abbrev pub AreClosed : Picked → Type 0
AreClosed p = OfEach IsClosed p

-- formed over the bits of the scope, or over none where it is constant, and of its own width and sign
pub record IsGood (scope : Scope) (x : Built) : Type 0 where
  pub formed : (n : ℕ) → (x.constant ≡ false → IsWithin scope n) → IsFormed x.expr n
  pub width : width_of x.expr ≡ x.width
  pub sign : sign_of x.expr ≡ x.signed
  pub wide : IsWidth x.width

-- the right side of an assignment to so many bits: formed over the bits of the scope, and wide enough
pub record IsValue (scope : Scope) (width : ℕ) (e : Expr) : Type 0 where
  pub formed : (n : ℕ) → IsWithin scope n → IsFormed e n
  pub wide : width ≤ width_of e
  pub within : width_of e ≤ 128
