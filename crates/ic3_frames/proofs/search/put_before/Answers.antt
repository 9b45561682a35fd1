use Rattle.std.proofs.Common.{◌∷◌, ap, ◌∙◌}
use Rattle.ic3_frames.proofs.Bits.{after_all}
use Rattle.ic3_frames.proofs.Traces.{chain_next}
use Rattle.ic3_frames.proofs.search.put_before.Goals as goal

pub all_true_after_step-requires : goal.all_true_after_step-requires
all_true_after_step-requires c = c.requires.chain.0.is_cube.in_range

pub lift-requires-clause-state : goal.lift-requires-clause-state
lift-requires-clause-state c = c.requires.steps.is_state

pub lift-requires-clause-input : goal.lift-requires-clause-input
lift-requires-clause-input c = c.requires.steps.is_input

pub lift-requires-clause-forced : goal.lift-requires-clause-forced
lift-requires-clause-forced c =
    rw (c.as_slice.ensures.value, c.in_ok-goal.ensures.value)
    (after_all c.args.system.now c.node_count-nodes.ensures.valid c.args.state c.args.input c.args.first.cube c.requires.chain.0.is_cube.in_range c.requires.steps.into)

pub returns : goal.returns
returns c =
    let lifted = rw (c.as_slice.ensures.value, c.in_ok-goal.ensures.value) at c.in_ok-next.ensures in
    chain_next c.args.system.now c.args.point c.node_count-nodes.ensures.valid c.args.state c.args.input c.in_ok-next.next c.args.first c.args.rest.now c.push-2.new.self
    c.requires.chain lifted c.requires.steps c.requires.level c.requires.starts (c.in_ok-push-2.ensures ∙ ap (λ os. c.in_ok-next.next ∷ os) c.in_ok-push.ensures)
