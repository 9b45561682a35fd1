-- Which bits and sites a body may name, and how wide its words are.
use Rattle.std.specs.Prelude.{ℕ, ◌≡◌, ◌+◌, ◌<◌, ◌≤◌, Bool, IfSome}
use Rattle.bit_exprs.specs.Values.{width_of}
use Rattle.bit_exprs.specs.Updates.{target_width}
use Rattle.bit_exprs.specs.Formed.{IsFormed, TargetFormed}
use Rattle.design_core.specs.declared.flat.Stmt.{Stmt, Row_of-Stmt, end_of-Stmt, more_of-Stmt}
use Rattle.design_core.specs.declared.flat.Stmt.TheVariants.{Assign, Branch', Block'}

abbrev mutual
  -- expressions and targets are formed over the bits below n, each site is below m, and no target is wider than its value
  pub IsWithin : Stmt → ℕ → ℕ → Type 0
  IsWithin (Assign site delayed target value) n m =
      IfSome site (λ s. s < m) × TargetFormed target n × (target_width target ≤ width_of value) × IsFormed value n
  IsWithin (Branch' site test p a q b) n m = (site + 1 < m) × IsFormed test n × AreWithin a n m × AreWithin b n m
  IsWithin (Block' shape all) n m = AreWithin all n m

  pub AreWithin : {k : _} → Row_of-Stmt k → ℕ → ℕ → Type 0
  AreWithin end_of-Stmt n m = Unit {0}
  AreWithin (more_of-Stmt s rest) n m = IsWithin s n m × AreWithin rest n m

abbrev mutual
  -- every assignment is nonblocking, or every one is blocking
  pub AssignsBy : Bool → Stmt → Type 0
  AssignsBy kind (Assign site delayed target value) = delayed ≡ kind
  AssignsBy kind (Branch' site test p a q b) = AssignBy kind a × AssignBy kind b
  AssignsBy kind (Block' shape all) = AssignBy kind all

  pub AssignBy : {k : _} → Bool → Row_of-Stmt k → Type 0
  AssignBy kind end_of-Stmt = Unit {0}
  AssignBy kind (more_of-Stmt s rest) = AssignsBy kind s × AssignBy kind rest
