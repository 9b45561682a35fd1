use Rattle.std.proofs.Common.{sym, ◌∙◌}
use Rattle.expr_elab.specs.Vectors.{bits_of}
use Rattle.expr_elab.specs.Selects.{bit_named}
use Rattle.expr_elab.proofs.Listing.{one_there}
use Rattle.expr_elab.proofs.selects.bits_named.Goals as goal

pub loop-k-preserved : goal.loop-k-preserved
loop-k-preserved c =
    one_there (bit_named (bits_of c.args.vector) c.args.window c.args.index) c.loop-k.bits c.push.new.self c.loop-k.k c.args.window.count c.in-Some.bit c.loop-k-test.true
    (sym c.bit_named.ensures ∙ c.in-Some.is) c.in_ok-push.ensures.ok c.loop-k.invariant
