-- Which bits a body reads and drives.
use Rattle.std.specs.Prelude.{ℕ, Bool, false, not, ◌&&◌, ◌||◌}
use Rattle.bit_exprs.specs.Named.{among, reads, target_bits, certain_bits, target_reads}
use Rattle.design_core.specs.declared.flat.Stmt.{Stmt, Row_of-Stmt, end_of-Stmt, more_of-Stmt}
use Rattle.design_core.specs.declared.flat.Stmt.TheVariants.{Assign, Branch', Block'}

abbrev mutual
  -- some path assigns bit b
  pub drives : Stmt → ℕ → Bool
  drives (Assign site delayed target value) b = among (target_bits target) b
  drives (Branch' site test p x q y) b = any_drives x b || any_drives y b
  drives (Block' shape all) b = any_drives all b

  pub any_drives : {m : _} → Row_of-Stmt m → ℕ → Bool
  any_drives end_of-Stmt b = false
  any_drives (more_of-Stmt s rest) b = drives s b || any_drives rest b

abbrev mutual
  -- every path assigns bit b at once, whatever the indices are
  pub always : Stmt → ℕ → Bool
  always (Assign site delayed target value) b = not delayed && among (certain_bits target) b
  always (Branch' site test p x q y) b = any_always x b && any_always y b
  always (Block' shape all) b = any_always all b

  pub any_always : {m : _} → Row_of-Stmt m → ℕ → Bool
  any_always end_of-Stmt b = false
  any_always (more_of-Stmt s rest) b = always s b || any_always rest b

abbrev mutual
  -- bit b is read where not every path has assigned it at once before
  pub needs : Stmt → ℕ → Bool
  needs (Assign site delayed target value) b = reads value b || target_reads target b
  needs (Branch' site test p x q y) b = reads test b || (any_needs x b || any_needs y b)
  needs (Block' shape all) b = any_needs all b

  pub any_needs : {m : _} → Row_of-Stmt m → ℕ → Bool
  any_needs end_of-Stmt b = false
  any_needs (more_of-Stmt s rest) b = needs s b || (not (always s b) && any_needs rest b)
