use Rattle.std.proofs.Common.{◌≡◌, ◌∙◌, ap, sym, subst, length}
use Rattle.bit_exprs.specs.Updates.{perform}
use Rattle.std.specs.Prelude.{zip}
use Rattle.design_core.specs.Legality.{IsLegal}
use Rattle.cycle_model.specs.Machine.{held_in}
use Rattle.design_core.proofs.Settling.{registers_put}
use Rattle.cycle_model.proofs.Whole.{put_back}
use Rattle.cycle_model.proofs.sim.started.Goals as goal

pub returns-clause-held : goal.returns-clause-held
returns-clause-held c =
    let d = c.args.legal.now.design in
    let legal : IsLegal d c.args.legal.now.order = subst (λ x. IsLegal x c.args.legal.now.order) c.design-design.ensures.design c.design-design.ensures.legal in
    let zeros = c.in_ok-bits.bits.items in
    let len : c.in_ok-bits.bits.len ≡ length zeros = sym (ap length (sym c.deref_mut.ensures.value) ∙ c.deref_mut.ensures.len) in
    let same : length c.put_inputs.new.values ≡ length zeros = c.put_inputs.auto.values ∙ ap length c.deref_mut.ensures.value in
    let wide : length zeros ≡ length d.bits = sym len ∙ c.in_ok-bits.ensures.len ∙ c.len.ensures ∙ ap (λ x. length x.bits) c.design-design.ensures.design in
    ap (held_in d) (put_back c.in_ok-bits.bits.len c.put_inputs.new.values zeros same len)
    ∙ registers_put d c.args.start.now zeros c.put_inputs.new.values legal.registers_distinct legal.registers_within wide c.requires
    (c.put_inputs.ensures ∙ (λ j. perform (zip (c.as_slice.ensures j) c.args.start.now) (c.deref_mut.ensures.value j)) ∙ ap (λ x. perform (zip x.registers c.args.start.now) zeros) c.design-design.ensures.design)
