use Rattle.std.proofs.Common.{arith}
use Rattle.std.proofs.lemmas.Grind.{common_steps}
use Rattle.generalise.proofs.Smaller.{cube_without}
use Rattle.generalise.proofs.drop.try_without.Goals as goal

pub step_blocks-requires-clause-cube : goal.step_blocks-requires-clause-cube
step_blocks-requires-clause-cube g c =
    rw c.in_ok-rest.ensures (cube_without _ _ _ c.requires.at c.requires.learnable.is_cube).in_range

pub returns-in-Some-true-clause-attempt : goal.returns-in-Some-true-clause-attempt
returns-in-Some-true-clause-attempt g c =
    let truth = rw (c.in-Some-true.is, c.in-Some-true.field-0-test) at c.in_ok-step_blocks.ensures.truth in (
      c.in_ok-rest.ensures,
      record {
        is_cube = rw c.in_ok-rest.ensures (cube_without _ _ _ c.requires.at c.requires.learnable.is_cube);
        misses = grind (arith, common_steps);
        blocked = truth;
      },
    )
