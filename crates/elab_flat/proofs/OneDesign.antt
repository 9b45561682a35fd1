-- A text has one design under a setup.
use Rattle.std.proofs.Common.{◌≡◌, ℕ, List, [], ◌∷◌, Some, sym, ap, ◌∙◌, subst}
use Rattle.std.specs.Prelude.{slice_get, option_map}
use Rattle.std.proofs.lemmas.Option.{same_Some, slice_get-map}
use Rattle.vlog_syntax.specs.declared.module.Tree.{Tree}
use Rattle.vlog_syntax.specs.declared.module.Module.{Module}
use Rattle.design_core.specs.declared.setup.Setup.{Setup}
use Rattle.design_core.specs.declared.flat.Design.{Design}
use Rattle.design_core.specs.declared.flat.Process.{Process}
use Rattle.design_core.proofs.Settling.{some-Contains}
use Rattle.elab_flat.specs.declared.nets.Net.{Net}
use Rattle.elab_flat.specs.declared.bodies.Numbers.{Numbers}
use Rattle.elab_flat.specs.Nets.{names_of, scope_of}
use Rattle.elab_flat.specs.Bodies.{assignments_in, sum_over, processes_from}
use Rattle.elab_flat.specs.Designs.{AreDistinct, IsClock, design_from, IsModuleDesign, IsDesignOf}

-- the name of a net stands where the net does
pub name_at : (nets : List Net) (k : ℕ) (n : Net) → slice_get nets k ≡ Some n → slice_get (names_of nets) k ≡ Some n.name
name_at nets k n at = slice_get-map (λ (x : Net). x.name) nets k ∙ (λ j. option_map (λ (x : Net). x.name) (at j))

-- of nets with distinct names one is the clock
pub one_clock : (name : List ℕ) (nets : List Net) (c e : Net) → AreDistinct (names_of nets) → IsClock name nets c → IsClock name nets e → c ≡ e
one_clock name nets c e distinct a b =
    let i = some-Contains nets c a.0 in
    let j = some-Contains nets e b.0 in
    let same : i.0 ≡ j.0 = distinct i.0 j.0 name (name_at nets i.0 c i.1 ∙ ap Some a.1) (name_at nets j.0 e j.1 ∙ ap Some b.1) in
    same_Some c e (sym i.1 ∙ ap (slice_get nets) same ∙ j.1)

module_once : (m : Module) (setup : Setup) (d e : Design) → IsModuleDesign m setup d → IsModuleDesign m setup e → d ≡ e
module_once m setup d e a b =
    let start : Numbers = record { site = 0; arm = sum_over assignments_in m.items } in
    let nets : a.nets ≡ b.nets = same_Some a.nets b.nets (sym a.ports ∙ b.ports) in
    let clock : a.clock ≡ b.clock = one_clock setup.clock a.nets a.clock b.clock a.distinct a.clocked (subst (λ ns. IsClock setup.clock ns b.clock) (sym nets) b.clocked) in
    let first : a.clock.vector.first ≡ b.clock.vector.first = ap (λ (c : Net). c.vector.first) clock in
    let same : Some (a.processes, a.next) ≡ Some (b.processes, b.next) = sym a.bodies ∙ (λ j. processes_from (scope_of setup.clock (nets j)) (first j) m.items start) ∙ b.bodies in
    let processes : a.processes ≡ b.processes = ap (λ (x : List Process × Numbers). x.0) (same_Some (a.processes, a.next) (b.processes, b.next) same) in
    a.is ∙ (λ j. design_from m setup (nets j) (first j) (processes j)) ∙ sym b.is

pub one_design : (tree : Tree) (setup : Setup) (d e : Design) → IsDesignOf tree setup d → IsDesignOf tree setup e → d ≡ e
one_design tree setup d e (m, is_m, a) (n, is_n, b) =
    let both : m ∷ [] ≡ n ∷ [] = sym is_m ∙ is_n in
    let same : n ≡ m = cc in
    module_once m setup d e a (subst (λ k. IsModuleDesign k setup e) same b)
