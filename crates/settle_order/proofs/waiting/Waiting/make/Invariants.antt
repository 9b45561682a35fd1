use Rattle.std.proofs.Common.{◌≡◌, [], replicate}
use Rattle.settle_order.proofs.Lists.{lists_of}
use Rattle.settle_order.proofs.waiting.Waiting.make.Given as goal

abbrev pub invariant-loop : goal.invariant-loop
invariant-loop l = lists_of l.lists.items ≡ replicate l.counter []
