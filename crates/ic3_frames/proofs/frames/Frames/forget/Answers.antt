use Rattle.ic3_frames.proofs.Laws.{forgotten_lies_in, kept_forgotten}
use Rattle.ic3_frames.proofs.frames.Frames.forget.Goals as goal

pub returns-clause-kept : goal.returns-clause-kept
returns-clause-kept c = λ m h.
    kept_forgotten m c.args.self.now c.self.inside.point c.self.inside.lemmas c.remove.new.self c.self.inside.depth c.args.at
    c.self.view_is c.remove.ensures.rest c.requires.at c.requires.needless h

pub returns-clause-within : goal.returns-clause-within
returns-clause-within c =
    forgotten_lies_in c.args.self.now c.self.inside.point c.self.inside.lemmas c.remove.new.self c.self.inside.depth c.args.at
    c.self.view_is c.remove.ensures.rest c.requires.at c.requires.needless
