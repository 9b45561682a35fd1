use Rattle.std.proofs.Common.{refl}
use Rattle.order_tests.proofs.Legal.{negations_legal}
use Rattle.order_tests.proofs.design.legal.Goals as goal

pub make-requires : goal.make-requires
make-requires c = negations_legal _ _ c.in_ok-bits.ensures c.new-2.ensures refl c.in_ok-registers.ensures c.in_ok-processes.ensures c.new-3.ensures c.in_ok-order.ensures
