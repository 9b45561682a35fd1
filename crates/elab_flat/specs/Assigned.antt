-- What may be assigned: registers alone (IEEE 1364-2001 clause 6.2).
use Rattle.std.specs.Prelude.{Bool, true, cond, ◌&&◌, List, [], ◌∷◌, flat_map, unwrap_or, is_some}
use Rattle.std.specs.List.{list_all}
use Rattle.vlog_syntax.specs.declared.stmt.Target as wide_target
use Rattle.vlog_syntax.specs.declared.stmt.Target.TheOpen.{Target-F}
use Rattle.vlog_syntax.specs.declared.stmt.Target.TheFolds.{fold-Target}
use Rattle.vlog_syntax.specs.declared.stmt.Stmt as wide_stmt
use Rattle.vlog_syntax.specs.declared.stmt.Stmt.TheOpen.{Stmt-F}
use Rattle.vlog_syntax.specs.declared.stmt.Stmt.TheFolds.{fold-Stmt}
use Rattle.vlog_syntax.specs.declared.module.Item.{Item}
use Rattle.expr_elab.specs.Vectors.{Scope, vector_of}
use Rattle.elab_flat.specs.declared.nets.Net.{Net}
use Rattle.elab_flat.specs.Bodies.{body_of}

-- the registers, by their names
abbrev pub registers_of : List Net → Scope
registers_of nets = flat_map (λ (n : Net). cond n.input [] ((n.name, n.vector) ∷ [])) nets

module _ (registers : Scope) where
  -- each name in a target is a register's
  abbrev pub target_step : Target-F Bool → Bool
  target_step (Target-F.Name x select) = is_some (vector_of registers x.name)
  target_step (Target-F.Concat at parts) = list_all (λ part. part) parts

  abbrev pub targets_registers : wide_target.Target → Bool
  targets_registers = fold-Target Bool target_step

  -- and each in the targets of a statement
  abbrev pub assigns_step : Stmt-F Bool → Bool
  assigns_step (Stmt-F.Nonblocking at target value) = targets_registers target
  assigns_step (Stmt-F.If at test then' else') = then' && unwrap_or else' true
  assigns_step (Stmt-F.Block at statements) = list_all (λ statement. statement) statements

  abbrev pub assigns_registers : wide_stmt.Stmt → Bool
  assigns_registers = fold-Stmt Bool assigns_step

  -- and each in the targets of the items
  abbrev pub assign_registers : List Item → Bool
  assign_registers items = list_all (λ i. assigns_registers (body_of i)) items
