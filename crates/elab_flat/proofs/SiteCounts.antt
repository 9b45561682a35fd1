-- The sites of a text's design.
use Rattle.std.proofs.Common.{◌≡◌, ℕ, zero, suc, ◌+◌, ◌*◌, ◌≤◌, List, ◌++◌, length, refl, ap, arith}
use Rattle.std.proofs.lemmas.List.{length-append}
use Rattle.vlog_syntax.specs.declared.module.Tree.{Tree}
use Rattle.vlog_syntax.specs.declared.module.Module.{Module}
use Rattle.design_core.specs.declared.setup.Setup.{Setup}
use Rattle.design_core.specs.declared.flat.Design.{Design}
use Rattle.elab_flat.specs.Bodies.{assignments_in, branches_in, sum_over, sites_from, arms_from}
use Rattle.elab_flat.specs.Designs.{IsDesignOf}

assignments_long : (path : List ℕ) (ordinal n : ℕ) → length (sites_from path ordinal n) ≡ n
assignments_long path ordinal zero = refl
assignments_long path ordinal (suc n) = ap suc (assignments_long path (ordinal + 1) n)

arms_long : (path : List ℕ) (ordinal n : ℕ) → length (arms_from path ordinal n) ≡ 2 * n
arms_long path ordinal zero = refl
arms_long path ordinal (suc n) = omega (arith, arms_long path (ordinal + 1) n)

pub sites_count : (path : List ℕ) (statements branches : ℕ) → length (sites_from path 1 statements ++ arms_from path 1 branches) ≡ statements + 2 * branches
sites_count path statements branches =
    omega (arith, length-append (sites_from path 1 statements) (arms_from path 1 branches), assignments_long path 1 statements, arms_long path 1 branches)

-- the sites of a module's assignments, at most 65,536, then those of the arms of its branches; their scope is the module
pub record HasSites (m : Module) (d : Design) : Type 0 where
  pub statements : ℕ
  pub branches : ℕ
  pub few : statements ≤ 65536
  pub are : d.sites ≡ sites_from m.name.name 1 statements ++ arms_from m.name.name 1 branches

pub has_sites : (tree : Tree) (setup : Setup) (d : Design) (is : IsDesignOf tree setup d) → HasSites is.0 d
has_sites tree setup d is = record {
  statements = sum_over assignments_in is.0.items;
  branches = sum_over branches_in is.0.items;
  few = is.2.few_statements;
  are = ap (λ (x : Design). x.sites) is.2.is;
}
