-- Which clocked processes run, and the sites that they pass.
use Rattle.std.specs.Prelude.{ℕ, ◌≡◌, ◌<◌, ◌↔◌, Bool, true, cond, List, [], length, flat_map, All, IfSome}
use Rattle.design_core.specs.declared.flat.Process.{Process}
use Rattle.design_core.specs.declared.flat.Design.{Design}
use Rattle.bit_exprs.specs.Values.{bit_at}
use Rattle.design_core.specs.Exec.{exec}
use Rattle.design_core.specs.declared.flat.ProcKind.{ProcKind}
use Rattle.design_core.specs.Bounds.{IsWithin, AssignsBy}
use Rattle.design_core.specs.Settled.{is_clocked, reset_of, is_active, Hit}
use Rattle.cycle_model.specs.declared.phases.Trigger.{Trigger}
use Rattle.cycle_model.specs.declared.phases.Trigger.TheVariants.{Resets, ClockEdge}

-- the trigger runs a process of this kind, where the bits have these values
abbrev pub is_triggered : Trigger → List Bool → ProcKind → Bool
is_triggered Resets v kind = is_active (reset_of kind) v
is_triggered ClockEdge v kind = is_clocked kind

abbrev pub runs : Trigger → List Bool → Process → Bool
runs trigger v p = is_triggered trigger v p.kind

-- each process can be executed, where its kind says so
pub record CanRun (d : Design) : Type 0 where
  pub within : All (λ p. IsWithin p.body (length d.bits) (length d.sites)) d.processes
  pub assigns : All (λ p. AssignsBy (is_clocked p.kind) p.body) d.processes
  pub resets : All (λ p. IfSome (reset_of p.kind) (λ r. r.bit < length d.bits)) d.processes

-- the sites that the bodies of these processes pass, executed on v
abbrev pub marks_where : (Process → Bool) → List Process → List Bool → List ℕ
marks_where p ps v = flat_map (λ (x : Process). cond (p x) (exec x.body v).marks []) ps

-- the flags that are up are those of the sites hit on v
pub record IsMarked (d : Design) (v flags : List Bool) : Type 0 where
  pub hits : (site : ℕ) → site < length d.sites → (bit_at flags site ≡ true) ↔ Hit d v site
