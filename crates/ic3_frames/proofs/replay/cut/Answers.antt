use Rattle.std.proofs.Common.{◌≡◌, ℕ, ◌+◌, length, take, ap, ◌∙◌, arith}
use Rattle.ic3_frames.proofs.Traces.{cut_is}
use Rattle.ic3_frames.proofs.replay.cut.Goals as goal

pub returns : goal.returns
returns c =
    let long : length c.loop-lines.lines ≡ c.in_ok-last.last + 1 = omega (arith, c.loop-lines.invariant.long) in
    cut_is c.args.system.now c.args.point c.args.walk c.loop-lines.lines c.in_ok-last.last c.requires.trace c.in_ok-last.ensures
    (c.loop-lines.invariant.front ∙ ap (λ (n : ℕ). take n c.args.walk.lines) long)
