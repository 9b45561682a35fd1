-- The design of a text.
use Rattle.std.specs.Prelude.{ℕ, ◌≡◌, ◌≤◌, ◌<◌, ◌^◌, true, List, [], ◌∷◌, ◌++◌, length, All, Contains, Some, Result, Ok, Err, slice_get}
use Rattle.word_core.specs.declared.place.Place.{Place}
use Rattle.vlog_syntax.specs.declared.module.Tree.{Tree}
use Rattle.vlog_syntax.specs.declared.module.Module.{Module}
use Rattle.vlog_syntax.specs.declared.module.Item.{Item}
use Rattle.design_core.specs.declared.setup.Setup.{Setup}
use Rattle.design_core.specs.declared.flat.Design.{Design}
use Rattle.design_core.specs.declared.flat.Process.{Process}
use Rattle.expr_elab.specs.Vectors.{vector_width}
use Rattle.elab_flat.specs.declared.nets.Net.{Net}
use Rattle.elab_flat.specs.declared.bodies.Numbers.{Numbers}
use Rattle.elab_flat.specs.declared.elaborate.FlatError.{FlatError}
use Rattle.elab_flat.specs.declared.elaborate.FlatError.TheVariants.{NotBuilt, Memory}
use Rattle.elab_flat.specs.Nets.{nets_from, names_of, each_of, info_of, declared_of, bits_where, is_data_input, is_register, scope_of}
use Rattle.elab_flat.specs.Bodies.{assignments_in, branches_in, sum_over, IsClockedBy, processes_from, sites_from, arms_from}
use Rattle.elab_flat.specs.Assigned.{registers_of, assign_registers}
use Rattle.elab_flat.specs.Driven.{IsDriven}

-- no name stands twice
abbrev pub AreDistinct : List (List ℕ) → Type 0
AreDistinct names = (j k : ℕ) (name : List ℕ) → slice_get names j ≡ Some name → slice_get names k ≡ Some name → j ≡ k

-- the clock is an input of one bit
abbrev pub IsClock : List ℕ → List Net → Net → Type 0
IsClock name nets n = Contains nets n × (n.name ≡ name) × (n.input ≡ true) × (vector_width n.vector ≡ 1)

-- The bits of the ports in order; the processes of the items in order. The sites are those of all assignments, in the order in which they
-- are written, then the two arms of each branch; both are numbered from 1.
abbrev pub design_from : Module → Setup → List Net → ℕ → List Process → Design
design_from m setup nets clock processes =
    let path = m.name.name in
    record {
      bits = each_of (info_of path) nets;
      declared = each_of (declared_of path) nets;
      inputs = bits_where (is_data_input setup.clock) nets;
      clock = clock;
      registers = bits_where is_register nets;
      processes = processes;
      sites = sites_from path 1 (sum_over assignments_in m.items) ++ arms_from path 1 (sum_over branches_in m.items);
    }

-- the nets of a module that is the top and holds no input: its ports are built, and have distinct names
pub record AreNetsOf (m : Module) (setup : Setup) (nets : List Net) : Type 0 where
  pub top : m.name.name ≡ setup.top
  pub no_hold : setup.hold ≡ []
  pub ports : nets_from 0 m.ports ≡ Some nets
  pub distinct : AreDistinct (names_of nets)

-- the items' processes over these nets: they assign registers alone, the bodies are built, and each register is driven by one of them
pub record AreProcesses (clock_name : List ℕ) (nets : List Net) (clock : ℕ) (items : List Item) (processes : List Process) : Type 0 where
  pub assigned : assign_registers (registers_of nets) items ≡ true
  pub next : Numbers
  pub bodies : processes_from (scope_of clock_name nets) clock items (record { site = 0; arm = sum_over assignments_in items }) ≡ Some (processes, next)
  pub driven : IsDriven processes (bits_where is_register nets)

-- the module's design under this setup
pub record IsModuleDesign (m : Module) (setup : Setup) (d : Design) : Type 0 where
  -- it is the top, and no input is held so far
  pub top : m.name.name ≡ setup.top
  pub no_hold : setup.hold ≡ []
  -- its ports are built, and have distinct names
  pub nets : List Net
  pub ports : nets_from 0 m.ports ≡ Some nets
  pub distinct : AreDistinct (names_of nets)
  -- the clock is one of them, and runs each item
  pub clock : Net
  pub clocked : IsClock setup.clock nets clock
  pub items : All (IsClockedBy setup.clock) m.items
  pub few_statements : sum_over assignments_in m.items ≤ 65536
  -- the items assign registers alone
  pub assigned : assign_registers (registers_of nets) m.items ≡ true
  -- the bodies are built, over all ports but the clock
  pub processes : List Process
  pub next : Numbers
  pub bodies : processes_from (scope_of setup.clock nets) clock.vector.first m.items (record { site = 0; arm = sum_over assignments_in m.items }) ≡ Some (processes, next)
  pub driven : IsDriven processes (bits_where is_register nets)
  pub is : d ≡ design_from m setup nets clock.vector.first processes

-- the text's design under a setup: it is one module, which has one
abbrev pub IsDesignOf : Tree → Setup → Design → Type 0
IsDesignOf tree setup d = (m : Module) × (tree.modules ≡ m ∷ []) × IsModuleDesign m setup d

abbrev pub HasDesign : Tree → Setup → Type 0
HasDesign tree setup = (d : Design) × IsDesignOf tree setup d

abbrev pub place_of : List Module → Place
place_of [] = record { line = 1; col = 1 }
place_of (m ∷ ms) = m.at

-- where the text's first token stands
abbrev pub first_place : Tree → Place
first_place tree = place_of tree.modules

-- the answer of flattening: the text's design, whose sites can be numbered, or, where it has none, the place of its first token; nothing where
-- memory ran out
abbrev pub Flattens : Tree → Setup → Result Design FlatError → Type 0
Flattens tree setup (Ok d) = IsDesignOf tree setup d × (length d.sites < 2 ^ 32)
Flattens tree setup (Err (NotBuilt at)) = (HasDesign tree setup → ⊥) × (at ≡ first_place tree)
Flattens tree setup (Err Memory) = Unit {0}
