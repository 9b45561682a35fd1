use Rattle.point_cone.proofs.Reaching.{under_more}
use Rattle.point_cone.proofs.reach.reach_read.Goals as goal

pub returns-clause-under : goal.returns-clause-under
returns-clause-under c =
    let first = rw c.reads-left.ensures.value at c.in_ok-reach.ensures in
    let second = rw c.reads-left.ensures.value at c.in_ok-reach-2.ensures in
    under_more c.args.system.now c.args.point c.args.node c.args.marks.now c.reach.new.marks c.reach-2.new.marks c.args.waiting.now.items c.reach.new.waiting.items c.reach-2.new.waiting.items
    c.reads-left.ensures.valid c.requires first second

pub returns-clause-kept : goal.returns-clause-kept
returns-clause-kept c n e =
    let first = rw c.reads-left.ensures.value at c.in_ok-reach.ensures in
    let second = rw c.reads-left.ensures.value at c.in_ok-reach-2.ensures in
    second.kept n (first.kept n e)
