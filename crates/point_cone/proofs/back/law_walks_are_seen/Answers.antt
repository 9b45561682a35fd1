use Rattle.point_cone.proofs.Whole.{walk_seen}
use Rattle.point_cone.proofs.back.law_walks_are_seen.Goals as goal

pub returns : goal.returns
returns c whole cone start lines v h st all = walk_seen whole cone v h start lines st all
