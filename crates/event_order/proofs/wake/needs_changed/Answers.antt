use Rattle.std.proofs.Common.{◌&&◌, ◌∙◌, sym}
use Rattle.bit_exprs.specs.Values.{bit_at}
use Rattle.design_core.specs.Exec.{xor}
use Rattle.design_core.specs.Drive.{needs}
use Rattle.event_order.proofs.Waking.{some_below_at, changed_needed}
use Rattle.event_order.proofs.wake.needs_changed.Goals as goal

pub returns-then-body_needs : goal.returns-then-body_needs
returns-then-body_needs c =
    sym (some_below_at _ (λ b. needs c.args.body.now b && xor (bit_at c.args.old.now b) (bit_at c.args.new.now b)) c.loop-bit.bit c.loop-bit-test.true
    (changed_needed _ _ _ (sym c.body_needs.ensures ∙ c.if-body_needs.true) c.if-old-bit.true))
