use Rattle.std.proofs.Common.{arith}
use Rattle.text_prover.proofs.Made.{made_none, made_more}
use Rattle.text_prover.proofs.claims.claims.Goals as goal

pub loop-k-init : goal.loop-k-init
loop-k-init c = made_none c.args.system.now c.args.effort c.args.points.now c.new-claims.result c.new-used.result c.new-claims.ensures c.new-used.ensures

pub loop-k-preserved : goal.loop-k-preserved
loop-k-preserved c =
    made_more c.args.system.now c.args.effort c.args.points.now c.loop-k.k c.loop-k.claims c.push.new.self c.loop-k.used c.push-in-loop-k.new.self c.in_ok-one.one.claim c.in_ok-one.one.used
    c.index-points-k.result c.loop-k.invariant c.in_ok-one.ensures.claim c.in_ok-one.ensures.used (omega arith) c.index-points-k.is c.in_ok-push.ensures.ok c.in_ok-push-2.ensures.ok
