use Rattle.std.proofs.Common.{◌+◌, ◌∙◌, ap, sym, arith}
use Rattle.elab_flat.proofs.Ports.{net_limit, nets_more}
use Rattle.elab_flat.proofs.nets.nets.Goals as goal

pub loop-port-preserved : goal.loop-port-preserved
loop-port-preserved c =
    let first = c.loop-port.first in
    let made = sym c.in-Some.is ∙ c.in_ok-net.ensures in (
      omega (arith, (net_limit first c.port-item.result c.in-Some.net (sym made)).1, c.width.ensures.value),
      nets_more c.args.ports.now c.loop-port.port-index first c.port-item.result c.loop-port.nets c.port-item.is c.loop-port-test.true c.loop-port.invariant.1 c.in-Some.net c.push.new.self (first + c.width.result)
          made c.in_ok-push.ensures.ok (ap (λ w. first + w) c.width.ensures.value),
    )
