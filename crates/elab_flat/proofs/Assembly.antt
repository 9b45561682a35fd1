-- The design of a module, put together from what code makes of its parts.
use Rattle.std.proofs.Common.{◌≡◌, ℕ, ◌+◌, ◌*◌, ◌<◌, ◌≤◌, ◌^◌, List, ◌++◌, length, Option, Some, true, sym, ap, ◌∙◌, subst, arith}
use Rattle.std.specs.Prelude.{All}
use Rattle.std.proofs.lemmas.Option.{same_Some}
use Rattle.vlog_syntax.specs.declared.module.Module.{Module}
use Rattle.vlog_syntax.specs.declared.module.Item.{Item}
use Rattle.design_core.specs.declared.setup.Setup.{Setup}
use Rattle.design_core.specs.declared.flat.Design.{Design}
use Rattle.design_core.specs.declared.flat.Process.{Process}
use Rattle.design_core.specs.declared.flat.Site.{Site}
use Rattle.expr_elab.specs.Vectors.{Scope}
use Rattle.elab_flat.specs.declared.nets.Net.{Net}
use Rattle.elab_flat.specs.declared.bodies.Numbers.{Numbers}
use Rattle.elab_flat.specs.Nets.{scope_of, bits_where, is_register, is_data_input, each_of, info_of, declared_of}
use Rattle.elab_flat.specs.Bodies.{assignments_in, branches_in, sum_over, IsClockedBy, processes_from, sites_from, arms_from}
use Rattle.elab_flat.specs.Assigned.{registers_of, assign_registers}
use Rattle.elab_flat.specs.Driven.{IsDriven}
use Rattle.elab_flat.specs.Designs.{IsClock, AreNetsOf, AreProcesses, IsModuleDesign}
use Rattle.elab_flat.proofs.Counts.{items_counted}
use Rattle.elab_flat.proofs.OneDesign.{one_clock}
use Rattle.elab_flat.proofs.SiteCounts.{sites_count}

-- ---- processes

module _ (clock_name : List ℕ) (nets : List Net) (clock : ℕ) (items : List Item) (statements : ℕ) (counted : statements ≡ sum_over assignments_in items) (scope : Scope) (named : scope ≡ scope_of clock_name nets) where
  abbrev made_of : Option (List Process × Numbers)
  made_of = processes_from scope clock items (record { site = 0; arm = statements })

  same_start : made_of ≡ processes_from (scope_of clock_name nets) clock items (record { site = 0; arm = sum_over assignments_in items })
  same_start j = processes_from (named j) clock items (record { site = 0; arm = counted j })

  module _ (ps : List Process) (next : Numbers) (made : Some (ps, next) ≡ made_of) where
    pub are_processes : assign_registers (registers_of nets) items ≡ true → (registers : List ℕ) → registers ≡ bits_where is_register nets → IsDriven ps registers → AreProcesses clock_name nets clock items ps
    are_processes assigned registers are driven = record { assigned = assigned; next = next; bodies = sym same_start ∙ sym made; driven = subst (IsDriven ps) are driven }

    -- each branch took two sites
    pub next_arm : next.arm ≡ statements + 2 * sum_over branches_in items
    next_arm = (items_counted scope clock items (record { site = 0; arm = statements }) (ps, next) (sym made)).arm

-- ---- modules

module _ (m : Module) (setup : Setup) (nets : List Net) (are : AreNetsOf m setup nets) where
  module _ (d : Design) (h : IsModuleDesign m setup d) where
    same_nets : h.nets ≡ nets
    same_nets = same_Some h.nets nets (sym h.ports ∙ are.ports)

    clock_there : IsClock setup.clock nets h.clock
    clock_there = subst (λ ns. IsClock setup.clock ns h.clock) same_nets h.clocked

    pub processes_there : (n : Net) → IsClock setup.clock nets n → (clock : ℕ) → clock ≡ n.vector.first → AreProcesses setup.clock nets clock m.items h.processes
    processes_there n is clock bit =
        let same : clock ≡ h.clock.vector.first = bit ∙ ap (λ (x : Net). x.vector.first) (one_clock setup.clock nets n h.clock are.distinct is clock_there) in
        record {
          assigned = subst (λ ns. assign_registers (registers_of ns) m.items ≡ true) same_nets h.assigned;
          next = h.next;
          bodies = (λ j. processes_from (scope_of setup.clock (sym same_nets j)) (same j) m.items (record { site = 0; arm = sum_over assignments_in m.items })) ∙ h.bodies;
          driven = subst (λ ns. IsDriven h.processes (bits_where is_register ns)) same_nets h.driven;
        }

  module _ (n : Net) (is : IsClock setup.clock nets n) (clock : ℕ) (bit : clock ≡ n.vector.first) (clocked : All (IsClockedBy setup.clock) m.items)
      (statements branches : ℕ) (counted : statements ≡ sum_over assignments_in m.items) (few : statements ≤ 65536) (ps : List Process) (made : AreProcesses setup.clock nets clock m.items ps)
      (halves : branches ≡ sum_over branches_in m.items) where
    pub module_design : (sites : List Site) → sites ≡ sites_from m.name.name 1 statements ++ arms_from m.name.name 1 branches → (d : Design) → d ≡ record {
      bits = each_of (info_of m.name.name) nets;
      declared = each_of (declared_of m.name.name) nets;
      inputs = bits_where (is_data_input setup.clock) nets;
      clock = clock;
      registers = bits_where is_register nets;
      processes = ps;
      sites = sites;
    } → IsModuleDesign m setup d
    module_design sites listed d is_d = record {
      top = are.top;
      no_hold = are.no_hold;
      nets = nets;
      ports = are.ports;
      distinct = are.distinct;
      clock = n;
      clocked = is;
      items = clocked;
      few_statements = subst (λ k. k ≤ 65536) counted few;
      assigned = made.assigned;
      processes = ps;
      next = made.next;
      bodies = subst (λ k. processes_from (scope_of setup.clock nets) k m.items (record { site = 0; arm = sum_over assignments_in m.items }) ≡ Some (ps, made.next)) bit made.bodies;
      driven = made.driven;
      is = is_d ∙ (λ j. record {
        bits = each_of (info_of m.name.name) nets;
        declared = each_of (declared_of m.name.name) nets;
        inputs = bits_where (is_data_input setup.clock) nets;
        clock = bit j;
        registers = bits_where is_register nets;
        processes = ps;
        sites = (listed ∙ (λ i. sites_from m.name.name 1 (counted i) ++ arms_from m.name.name 1 (halves i))) j;
      });
    }

-- the sites of a design are those of its assignments and two for each branch
pub few_sites : (m : Module) (setup : Setup) (d : Design) → IsModuleDesign m setup d → sum_over assignments_in m.items + 2 * sum_over branches_in m.items < 2 ^ 32 → length d.sites < 2 ^ 32
few_sites m setup d h fits =
    let sites = ap (λ (x : Design). length x.sites) h.is in
    omega (arith, fits, sites, sites_count m.name.name (sum_over assignments_in m.items) (sum_over branches_in m.items))
