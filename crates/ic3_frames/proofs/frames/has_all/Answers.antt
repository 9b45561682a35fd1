use Rattle.std.proofs.Common.{false}
use Rattle.std.specs.Prelude.{Contains}
use Rattle.std.proofs.lemmas.List.{take_all}
use Rattle.std.proofs.lemmas.List.Elements.{All-more}
use Rattle.ic3_frames.proofs.frames.has_all.Goals as goal

pub loop-lit-preserved : goal.loop-lit-preserved
loop-lit-preserved c =
    All-more (Contains c.args.whole.now) c.args.part.now c.loop-lit.lit-index (record { state = 0; positive = false }) c.loop-lit-test.true c.loop-lit.invariant
    (c.has.ensures c.if-not-has.false)

pub returns : goal.returns
returns c = λ all. rw (← take_all c.loop-lit.lit-index c.args.part.now c.loop-lit-test.false) c.loop-lit.invariant
