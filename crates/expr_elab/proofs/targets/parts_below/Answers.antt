use Rattle.std.proofs.Common.{◌∙◌, ap}
use Rattle.expr_elab.specs.Vectors.{bits_of}
use Rattle.expr_elab.specs.Selects.{bit_named}
use Rattle.expr_elab.specs.Targets.{bit_part, parts_below}
use Rattle.expr_elab.proofs.Limits.{part_more}
use Rattle.expr_elab.proofs.targets.parts_below.Goals as goal

pub loop-k-preserved : goal.loop-k-preserved
loop-k-preserved c =
    let named = bit_named (bits_of c.args.vector) c.args.window c.args.index in
    part_more named c.loop-k.k c.loop-k.parts c.push.new.self (parts_below named c.args.window.count) c.in_ok-bit_part.field-0 c.loop-k-test.true
    (c.in_ok-bit_part.ensures ∙ ap bit_part c.bit_named.ensures) c.in_ok-push.ensures.ok c.loop-k.invariant
