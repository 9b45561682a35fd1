use Rattle.std.proofs.Common.{◌≡◌, ◌<◌, ◌+◌, ◌*◌, ◌^◌, ℕ, List, arith, ap, sym, subst, ◌∙◌}
use Rattle.std.proofs.lemmas.Option.{MatchOption-at_none, MatchOption-at_some}
use Rattle.design_core.specs.declared.flat.Process.{Process}
use Rattle.elab_flat.specs.Bodies.{branches_in, sum_over}
use Rattle.elab_flat.specs.Designs.{AreProcesses}
use Rattle.elab_flat.proofs.Assembly.{processes_there, module_design, few_sites}
use Rattle.elab_flat.proofs.elaborate.clocked_design.Goals as goal

pub returns-in_default : goal.returns-in_default
returns-in_default c =
    let name = c.args.setup.now.clock in
    let nets = c.args.nets.now in
    let items = c.as_slice.result.now in
    let none = MatchOption-at_none ((ps : List Process) → AreProcesses name nets c.args.clock items ps → ⊥)
    (λ (x : List Process × ℕ). AreProcesses name nets c.args.clock items x.0 × (x.1 ≡ sum_over branches_in items) × (c.args.statements + 2 * x.1 < 2 ^ 32)) c.in_default.is c.in_ok-driven.ensures in
    let clock = c.requires.clock in
    λ d h. none h.processes (subst (λ is. AreProcesses name nets c.args.clock is h.processes) (sym c.as_slice.ensures)
    (processes_there c.args.source.now c.args.setup.now nets c.requires.nets d h clock.0 clock.1 c.args.clock clock.2))

pub returns : goal.returns
returns c =
    let source = c.args.source.now in
    let setup = c.args.setup.now in
    let nets = c.args.nets.now in
    let items = c.as_slice.result.now in
    let made = MatchOption-at_some ((ps : List Process) → AreProcesses setup.clock nets c.args.clock items ps → ⊥)
    (λ (x : List Process × ℕ). AreProcesses setup.clock nets c.args.clock items x.0 × (x.1 ≡ sum_over branches_in items) × (c.args.statements + 2 * x.1 < 2 ^ 32)) (c.in-Some.processes, c.in-Some.branches)
    c.in-Some.is c.in_ok-driven.ensures in
    let clock = c.requires.clock in
    let are = subst (λ is. AreProcesses setup.clock nets c.args.clock is c.in-Some.processes) c.as_slice.ensures made.0 in
    let halves = made.1 ∙ ap (sum_over branches_in) c.as_slice.ensures in
    let built = module_design source setup nets c.requires.nets clock.0 clock.1 c.args.clock clock.2 c.requires.clocked c.args.statements c.in-Some.branches c.requires.counted c.requires.few c.in-Some.processes are halves
    c.in_ok-sites.sites c.in_ok-sites.ensures c.in_ok-design.design c.in_ok-design.ensures in
    (built, few_sites source setup c.in_ok-design.design built (omega (arith, made.2, c.requires.counted, halves)))
