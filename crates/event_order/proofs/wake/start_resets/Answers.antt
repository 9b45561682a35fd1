use Rattle.std.proofs.Common.{◌∙◌, ◌+◌, sym, subst, arith}
use Rattle.design_core.specs.declared.flat.Process.{Process}
use Rattle.event_order.specs.Cycles.{starts}
use Rattle.event_order.proofs.Waking.{RaisedBefore, raised_done, raised_then, raised_else}
use Rattle.event_order.proofs.wake.start_resets.Goals as goal
use Rattle.event_order.proofs.wake.start_resets.Goals.{then-is_starting, else-is_starting}

pub returns : goal.returns
returns c = raised_done (λ (p : Process). starts c.args.is_first p c.args.old.now c.args.new.now) c.args.processes.now c.args.pending.now c.loop-k.k c.loop-k.pending c.requires (omega arith) c.loop-k.invariant

pub loop-k-preserved : goal.loop-k-preserved
loop-k-preserved c =
    let test = λ (p : Process). starts c.args.is_first p c.args.old.now c.args.new.now in
    elim c.if-is_starting.branch [
      | then-is_starting w ↦ subst (RaisedBefore test c.args.processes.now c.args.pending.now (c.loop-k.k + 1)) (sym w.pending-is)
          (raised_then test c.args.processes.now c.args.pending.now c.loop-k.k c.loop-k.pending c.index-processes-k.result c.loop-k-test.true c.requires c.index-processes-k.is (sym c.is_starting.ensures ∙ w.if-is_starting.true) c.loop-k.invariant)
      | else-is_starting w ↦ subst (RaisedBefore test c.args.processes.now c.args.pending.now (c.loop-k.k + 1)) (sym w.pending-is)
          (raised_else test c.args.processes.now c.args.pending.now c.loop-k.k c.loop-k.pending c.index-processes-k.result c.loop-k-test.true c.index-processes-k.is (sym c.is_starting.ensures ∙ w.if-is_starting.false) c.loop-k.invariant)
    ]
