use Rattle.std.proofs.Common.{◌-◌, ◌<◌, length, ap, arith, rules}
use Rattle.std.proofs.lemmas.List.Edits.{length-remove}
use Rattle.ic3_frames.specs.Framed.{Framed}
use Rattle.ic3_frames.proofs.Blocked.{lie_in_trans}
use Rattle.ic3_frames.proofs.frames.Frames.tidy.Goals as goal

pub loop-at-preserved-then-is_needless : goal.loop-at-preserved-then-is_needless
loop-at-preserved-then-is_needless c =
    let here : c.loop-at.at - 1 < length c.loop-at.self.lemmas = omega (arith, c.loop-at.invariant.within, c.loop-at-test.true) in
    let less = ap (λ (f : Framed). length f.lemmas) c.forget.ensures.lemmas in
    record {
      kept = λ m h. c.forget.ensures.kept m (c.loop-at.invariant.kept m h);
      inner = lie_in_trans _ _ _ c.forget.ensures.within c.loop-at.invariant.inner;
      point = search rules;
      depth = search rules;
      within = λ low. omega (arith, less, length-remove c.loop-at.self.lemmas (c.loop-at.at - 1) here, c.loop-at.invariant.within);
    }
