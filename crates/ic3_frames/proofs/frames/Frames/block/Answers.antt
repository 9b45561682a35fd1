use Rattle.std.proofs.Common.{ap, arith}
use Rattle.ic3_frames.specs.Framed.{Framed}
use Rattle.ic3_frames.proofs.Blocked.{learnt_keeps_out}
use Rattle.ic3_frames.proofs.Laws.{kept_learnt}
use Rattle.ic3_frames.proofs.frames.Frames.block.Goals as goal

pub returns-clause-kept : goal.returns-clause-kept
returns-clause-kept c =
    let view = rw c.in_ok-high.ensures.same at c.self-2.view_is in
    c.tidy.ensures.kept c.args.system.now
    (kept_learnt c.args.system.now c.args.self.now c.learn.new.self c.self-2.inside.point c.self-2.inside.lemmas c.smaller.new.lemmas c.self-2.inside.depth c.in_ok-high.high c.in_ok-part.part
    view c.requires.kept (omega (arith, c.in_ok-high.ensures.highest.from)) c.in_ok-part.ensures.lemmas c.in_ok-part.ensures.learnable c.in_ok-learn.ensures.ok)

pub returns-clause-blocked : goal.returns-clause-blocked
returns-clause-blocked c =
    learnt_keeps_out c.args.system.now c.smaller.new.lemmas c.learn.new.self.lemmas c.tidy.new.self.lemmas c.in_ok-high.high c.in_ok-high.high c.in_ok-part.part c.args.cube.now (omega arith)
    (ap (λ (f : Framed). f.lemmas) c.in_ok-learn.ensures.ok) c.tidy.ensures.within c.in_ok-part.ensures.part
