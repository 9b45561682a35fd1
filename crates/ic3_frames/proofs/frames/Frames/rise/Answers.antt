use Rattle.ic3_frames.proofs.Laws.{kept_risen}
use Rattle.ic3_frames.proofs.frames.Frames.rise.Goals as goal

pub returns-clause-kept : goal.returns-clause-kept
returns-clause-kept c =
    kept_risen c.args.system.now c.args.self.now c.self.inside.point c.self.inside.lemmas c.self.inside.depth c.self.view_is c.requires.kept c.requires.misses
