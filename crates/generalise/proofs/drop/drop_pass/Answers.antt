use Rattle.std.proofs.Common.{rules}
use Rattle.generalise.proofs.Pass.{under_way, after_less, after_needed}
use Rattle.generalise.proofs.drop.drop_pass.Goals as goal

pub loop-at-init : goal.loop-at-init
loop-at-init g c = record {
  machine = search rules;
  frames = search rules;
  uses = search rules;
  under_way = under_way _ _ _ _ c.requires.learnable;
}

pub loop-at-preserved-in-Less : goal.loop-at-preserved-in-Less
loop-at-preserved-in-Less g c =
    let attempt = rw c.in-Less.is at c.in_ok-rest.ensures.attempt in
    record {
      machine = search rules;
      frames = search rules;
      uses = search rules;
      under_way = after_less _ _ _ _ _ _ _ _ _ _ c.loop-at.invariant.machine c.loop-at.invariant.frames (search rules) c.loop-at.invariant.under_way attempt.0 attempt.1;
    }

pub loop-at-preserved : goal.loop-at-preserved
loop-at-preserved g c =
    let attempt = rw c.in-Needed.is at c.in_ok-rest.ensures.attempt in
    record {
      machine = search rules;
      frames = search rules;
      uses = search rules;
      under_way = after_needed _ _ _ _ _ _ _ _ _ c.loop-at.invariant.machine c.loop-at.invariant.frames c.loop-at.invariant.under_way attempt;
    }
