use Rattle.std.proofs.Common.{◌≡◌, ◌+◌, ◌-◌, arith}
use Rattle.bit_system.proofs.Earlier.{reads_at}
use Rattle.generalise.proofs.Marks.{grows_trans, supported_next}
use Rattle.generalise.proofs.lift.support_all.Goals as goal

pub support-requires-clause-left : goal.support-requires-clause-left
support-requires-clause-left c =
    (reads_at c.args.first c.args.gates.now (c.loop-left.left - 1) (record { left = 0; right = 0 }) c.requires.reads (omega arith)).0

pub support-requires-clause-right : goal.support-requires-clause-right
support-requires-clause-right c =
    (reads_at c.args.first c.args.gates.now (c.loop-left.left - 1) (record { left = 0; right = 0 }) c.requires.reads (omega arith)).1

pub loop-left-preserved-then-marks-node : goal.loop-left-preserved-then-marks-node
loop-left-preserved-then-marks-node c =
    let next : c.loop-left.left - 1 + 1 ≡ c.loop-left.left = omega arith in
    record {
      within = omega arith;
      grows = grows_trans _ _ _ _ _ c.loop-left.invariant.grows c.support.ensures.grows (omega arith);
      supported = supported_next c.args.values.now c.loop-left.marks c.support.new.marks c.args.first c.args.gates.now (c.loop-left.left - 1)
          (record { left = 0; right = 0 }) c.support.ensures.grows (omega arith) (rw next c.loop-left.invariant.supported) c.support.ensures.supported;
    }
