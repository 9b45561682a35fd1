use Rattle.std.proofs.Common.{arith}
use Rattle.design_core.specs.declared.flat.Process.{Process}
use Rattle.event_order.specs.States.{wakes}
use Rattle.event_order.proofs.Waking.{raised_done}
use Rattle.event_order.proofs.wake.wake.Goals as goal

pub returns : goal.returns
returns c = raised_done (λ (p : Process). wakes p c.args.old.now c.args.new.now) c.args.processes.now c.args.pending.now c.loop-k.k c.loop-k.pending c.requires.pending (omega arith) c.loop-k.invariant
