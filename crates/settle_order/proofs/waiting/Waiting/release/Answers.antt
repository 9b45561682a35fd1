use Rattle.std.proofs.Common.{[]}
use Rattle.settle_order.proofs.Lists.{lists-set}
use Rattle.settle_order.proofs.waiting.Waiting.release.Goals as goal

pub returns-clause-waiting : goal.returns-clause-waiting
returns-clause-waiting c = rw (← c.self.view_is) (lists-set c.self.inside.lists.items c.args.bit c.append.new.other [] c.in_ok-append.ensures.other_items)
