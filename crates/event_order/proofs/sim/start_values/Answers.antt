use Rattle.std.proofs.Common.{◌≡◌, ◌∙◌, ap, sym, subst, length, replicate, true, false, rules}
use Rattle.std.specs.Prelude.{zip}
use Rattle.bit_exprs.specs.Updates.{perform}
use Rattle.cycle_model.proofs.Whole.{put_back}
use Rattle.design_core.specs.Legality.{IsLegal}
use Rattle.event_order.specs.Registers.{registers_in}
use Rattle.event_order.specs.Ready.{IsReady}
use Rattle.event_order.specs.Sims.{between, started}
use Rattle.event_order.proofs.Settled.{fresh_ready}
use Rattle.event_order.proofs.Simulating.{started_wide, started_registers}
use Rattle.event_order.proofs.sim.start_values.Goals as goal

pub returns-clause-values : goal.returns-clause-values
returns-clause-values c =
    let d = c.args.legal.now.design in
    let zeros = c.in_ok-bits.bits.items in
    let len : c.in_ok-bits.bits.len ≡ length zeros = sym (ap length (sym c.deref_mut.ensures.value) ∙ c.deref_mut.ensures.len) in
    let same : length c.put_inputs.new.values ≡ length zeros = c.put_inputs.auto.values ∙ ap length c.deref_mut.ensures.value in
    let made : zeros ≡ replicate c.len.result false = search rules in
    let n : c.len.result ≡ length d.bits = c.len.ensures ∙ ap (λ x. length x.bits) c.design-design.ensures.design in
    put_back c.in_ok-bits.bits.len c.put_inputs.new.values zeros same len
    ∙ (c.put_inputs.ensures ∙ (λ j. perform (zip (c.as_slice.ensures j) c.args.start.now) (c.deref_mut.ensures.value j)) ∙ ap (λ x. perform (zip x.registers c.args.start.now) zeros) c.design-design.ensures.design)
    ∙ ap (perform (zip d.registers c.args.start.now)) (made ∙ ap (λ m. replicate m false) n)

pub returns-clause-registers : goal.returns-clause-registers
returns-clause-registers c =
    let legal : IsLegal c.args.legal.now.design c.args.legal.now.order = subst (λ d. IsLegal d c.args.legal.now.order) c.design-design.ensures.design c.design-design.ensures.legal in
    ap (registers_in c.args.legal.now.design) (returns-clause-values c) ∙ started_registers c.args.legal.now.design c.args.legal.now.order c.args.start.now legal c.requires

pub returns-clause-ready : goal.returns-clause-ready
returns-clause-ready c =
    let d = c.args.legal.now.design in
    subst (λ v. IsReady d (between d true v)) (sym (returns-clause-values c)) (fresh_ready d (started d c.args.start.now) (started_wide d c.args.start.now))
