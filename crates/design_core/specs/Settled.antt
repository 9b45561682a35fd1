-- Settled values, the registers after them, and hits.
use Rattle.std.specs.Prelude.{ℕ, ◌≡◌, ◌==◌, Bool, true, false, cond, not, List, [], ◌∷◌, length, slice_get, map, flat_map, Contains, Option, Some, None}
use Rattle.design_core.specs.declared.flat.Process.{Process}
use Rattle.design_core.specs.declared.flat.ProcKind.{ProcKind}
use Rattle.design_core.specs.declared.flat.ProcKind.TheVariants.{Comb, Clocked}
use Rattle.design_core.specs.declared.flat.Reset.{Reset}
use Rattle.design_core.specs.declared.flat.Design.{Design}
use Rattle.bit_exprs.specs.Values.{bit_at}
use Rattle.design_core.specs.Exec.{xor, exec}

abbrev pub is_clocked : ProcKind → Bool
is_clocked Comb = false
is_clocked (Clocked reset) = true

abbrev pub reset_of : ProcKind → Option Reset
reset_of Comb = None
reset_of (Clocked reset) = reset

-- the reset is at its active level
abbrev pub is_active : Option Reset → List Bool → Bool
is_active None v = false
is_active (Some r) v = not (xor (bit_at v r.bit) r.active)

-- the bit once the updates were performed in order: the last value that they give it, else x
abbrev pub updated : List (ℕ × Bool) → ℕ → Bool → Bool
updated [] b x = x
updated (u ∷ us) b x = updated us b (cond (u.0 == b) u.1 x)

-- what the bodies of the processes that have p put aside, executed on v
abbrev pub updates_where : (Process → Bool) → List Process → List Bool → List (ℕ × Bool)
updates_where p ps v = flat_map (λ (x : Process). cond (p x) (exec x.body v).updates []) ps

-- the updates of the clocked processes, and of those whose reset is active
abbrev pub clocked_updates : List Process → List Bool → List (ℕ × Bool)
clocked_updates ps v = updates_where (λ x. is_clocked x.kind) ps v

abbrev pub reset_updates : List Process → List Bool → List (ℕ × Bool)
reset_updates ps v = updates_where (λ x. is_active (reset_of x.kind) v) ps v

-- In a cycle that begins with these values of the registers and has these inputs, v is settled: it has the inputs, each register has its value
-- or what its active reset gives it, and each combinational body, executed from v, leaves v.
pub record Settled (d : Design) (held inputs v : List Bool) : Type 0 where
  pub wide : length v ≡ length d.bits
  pub held_wide : length held ≡ length d.registers
  pub inputs_wide : length inputs ≡ length d.inputs
  pub given : (k b : ℕ) → slice_get d.inputs k ≡ Some b → bit_at v b ≡ bit_at inputs k
  pub registers : (k b : ℕ) → slice_get d.registers k ≡ Some b → bit_at v b ≡ updated (reset_updates d.processes v) b (bit_at held k)
  pub stable : (p : Process) → Contains d.processes p → is_clocked p.kind ≡ false → (exec p.body v).values ≡ v

-- the registers after the clock's edge: the clocked bodies are executed on v, and then their updates are performed in order
abbrev pub next_of : Design → List Bool → List Bool
next_of d v = map (λ b. updated (clocked_updates d.processes v) b (bit_at v b)) d.registers

-- executing some body on v passes the site
abbrev pub Hit : Design → List Bool → ℕ → Type 0
Hit d v site = (p : Process) × Contains d.processes p × Contains (exec p.body v).marks site
