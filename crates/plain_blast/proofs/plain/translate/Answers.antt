use Rattle.std.proofs.Common.{◌≡◌, ◌<◌, ap, sym, subst, ◌∙◌, length, map, All}
use Rattle.std.proofs.lemmas.List.{length-map}
use Rattle.design_core.specs.declared.flat.Design.{Design}
use Rattle.aig_core.specs.Graph.{Graph, IsLiteral}
use Rattle.aig_core.proofs.Values.{Extends-trans}
use Rattle.expr_blast.specs.Circuits.{literal_at}
use Rattle.plain_blast.specs.Plain.{state_of, process_of, hits_of, plain_of}
use Rattle.plain_blast.specs.Bridge.{Bridge}
use Rattle.plain_blast.proofs.RunLaws.{bridge}
use Rattle.plain_blast.proofs.Building.{is_plain, next_exist}
use Rattle.plain_blast.proofs.plain.translate.Goals as goal

pub make-requires-2 : goal.make-requires-2
make-requires-2 c =
    let grown = Extends-trans _ _ _ c.process.ensures.kept c.hit_literals.ensures.kept in
    let registers = c.as_slice-registers.ensures in
    let infos : length c.in_ok-states.states ≡ length c.as_slice-registers.result.now =
    ap length c.in_ok-states.ensures ∙ length-map c.as_slice-registers.result.now (state_of c.as_slice.result.now) in
    record {
      state_count = grown.states ∙ ap (λ (g : Graph). g.states) c.in_ok-aig.ensures.made ∙ c.len-registers.ensures ∙ sym (ap length registers) ∙ sym infos;
      next_count = ap length (c.from_vec.ensures ∙ c.in_ok-next-2.ensures) ∙ length-map c.as_slice-registers.result.now (literal_at c.deref-3.result.now) ∙ sym infos;
      next_exist = next_exist c.process.new.aig c.hit_literals.new.aig c.in_ok-next.next.items c.deref-3.result.now c.as_slice-registers.result.now c.from_vec.result (length c.design-design.result.now.bits)
          c.in_ok-hits.ensures.kept c.in_ok-next.ensures.exist.targets_exist (c.in_ok-next.ensures.long ∙ ap length c.deref.ensures.value ∙ c.in_ok-first.ensures.long)
          (subst (All (λ b. b < length c.design-design.result.now.bits)) (sym registers) c.design-design.ensures.legal.registers_within) c.deref-3.ensures.value (c.from_vec.ensures ∙ c.in_ok-next-2.ensures);
      hits_exist = subst (All (IsLiteral c.hit_literals.new.aig)) (sym c.from_vec-2.ensures) c.in_ok-hits.ensures.exist;
    }

exact : (c : goal.After-drop-first-2) → c.make-2.result ≡ plain_of c.design-design.result.now c.args.legal.now.order c.args.sites.now
exact c =
    c.make-2.ensures ∙ is_plain c.design-design.result.now c.args.legal.now.order c.args.sites.now c.len-inputs.result c.len-registers.result
    c.in_ok-aig.aig c.process.new.aig c.hit_literals.new.aig c.in_ok-first.first.items c.in_ok-next.next.items c.from_vec.result c.as_slice-registers.result.now c.from_vec-2.result
    c.process.new.paths.items c.as_slice.result.now c.in_ok-states.states
    record {
      input_count = c.len-inputs.ensures;
      state_count = c.len-registers.ensures;
      made = c.in_ok-aig.ensures.made;
      listed = c.in_ok-first.ensures.exact;
      processed = c.in_ok-next.ensures.exact ∙ (λ j. process_of c.design-design.result.now (c.order.ensures j) c.in_ok-aig.aig (c.deref.ensures.value j));
      hit = (λ j. (c.hit_literals.new.aig, c.from_vec-2.ensures j)) ∙ c.in_ok-hits.ensures.exact ∙ ap (λ ps. hits_of c.process.new.aig ps c.args.sites.now) c.deref-2.ensures.value;
      registers_are = c.as_slice-registers.ensures;
      next_is = c.from_vec.ensures ∙ c.in_ok-next-2.ensures ∙ ap (λ xs. map (literal_at xs) c.as_slice-registers.result.now) c.deref-3.ensures.value;
      bits_are = c.as_slice.ensures;
      infos_are = c.in_ok-states.ensures;
    }

pub returns-clause-exact : goal.returns-clause-exact
returns-clause-exact c = exact c ∙ ap (λ (d : Design). plain_of d c.args.legal.now.order c.args.sites.now) c.design-design.ensures.design

pub returns-clause-bridge : goal.returns-clause-bridge
returns-clause-bridge c =
    subst (λ (d : Design). Bridge d c.args.sites.now c.make-2.result) c.design-design.ensures.design
    (subst (Bridge c.design-design.result.now c.args.sites.now) (sym (exact c)) (bridge c.design-design.result.now c.args.legal.now.order c.design-design.ensures.legal c.args.sites.now))
