use Rattle.std.proofs.Common.{rules}
use Rattle.generalise.specs.Parts.{whole}
use Rattle.generalise.proofs.Smaller.{part_trans}
use Rattle.generalise.proofs.Pass.{learnable_along, least_along}
use Rattle.generalise.proofs.drop.drop_literals.Goals as goal

pub loop-part-init : goal.loop-part-init
loop-part-init g c = record {
  machine = search rules;
  frames = search rules;
  uses = search rules;
  learnable = rw (c.in_ok-part.ensures, c.as_slice.ensures) c.requires.learnable;
  part = rw (c.in_ok-part.ensures, c.as_slice.ensures) (whole _);
}

pub loop-part-preserved : goal.loop-part-preserved
loop-part-preserved g c = record {
  machine = search rules;
  frames = search rules;
  uses = search rules;
  learnable = learnable_along _ _ _ _ _ _ c.loop-part.invariant.machine c.loop-part.invariant.frames c.in_ok-drop_pass.ensures.pass.learnable;
  part = part_trans _ _ _ c.in_ok-drop_pass.ensures.pass.part c.loop-part.invariant.part;
}

pub returns-clause-part : goal.returns-clause-part
returns-clause-part g c = part_trans _ _ _ c.in_ok-drop_pass.ensures.pass.part c.loop-part.invariant.part

pub returns-clause-least : goal.returns-clause-least
returns-clause-least g c = λ left. least_along _ _ _ _ _ _ c.loop-part.invariant.machine c.loop-part.invariant.frames (c.in_ok-drop_pass.ensures.pass.least c.if-branch.false left)
