use Rattle.ic3_frames.proofs.Laws.{rules_kept}
use Rattle.ic3_frames.proofs.frames.law_kept_frames_keep_the_rules.Goals as goal

pub returns : goal.returns
returns c = rules_kept
