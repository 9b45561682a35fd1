use Rattle.std.proofs.Common.{◌≡◌, ◌++◌, ◌∙◌, sym, subst, length, take, drop, replicate, false, arith, rules}
use Rattle.event_order.specs.Cycles.{begun}
use Rattle.event_order.specs.Sims.{between, Turns}
use Rattle.event_order.proofs.Simulating.{simulated, written, turns_same, false_flags}
use Rattle.event_order.proofs.phases.run_cycle.Goals as goal

pub advance-requires-clause-pending : goal.advance-requires-clause-pending
advance-requires-clause-pending c =
    let made : c.deref_mut-2.result.now ≡ replicate c.len.result false = search rules in
    let n : c.len.result ≡ length c.design_of-design.result.now.processes = search rules in
    made ∙ false_flags c.design_of-design.result.now.processes c.len.result n

pub returns-clause-turns : goal.returns-clause-turns
returns-clause-turns c =
    let d = c.args.legal.now.design in
    let kept : c.deref_mut.result.now ≡ c.args.held.now = search rules in
    let whole : take c.in_ok-values.values.len (c.advance.new.values ++ drop (length c.advance.new.values) c.in_ok-values.values.items) ≡ c.advance.new.values =
    written c.in_ok-values.values.len c.advance.new.values c.in_ok-values.values.items (omega arith) (omega arith) in
    subst (λ w. Turns d c.args.number (begun d c.args.inputs.now (between d c.args.is_fresh c.args.held.now)) c.in_ok-halves.halves.settled.items (between d false w) c.in_ok-halves.halves.turns) (sym whole)
    (turns_same d c.design_of-design.result.now c.args.number c.args.is_fresh c.args.held.now c.deref_mut.result.now c.args.inputs.now c.in_ok-halves.halves.settled.items c.advance.new.values c.in_ok-halves.halves.turns c.design_of-design.ensures.design kept c.in_ok-halves.ensures.turns)

pub returns-clause-simulated : goal.returns-clause-simulated
returns-clause-simulated c =
    simulated c.args.legal.now c.args.number c.args.is_fresh c.args.held.now c.args.inputs.now c.in_ok-halves.halves.settled.items _ c.in_ok-halves.halves.turns
    c.design_of-design.ensures.legal c.requires.inputs c.requires.ready (returns-clause-turns c)
