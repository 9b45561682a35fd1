use Rattle.std.proofs.Common.{ap, sym, ◌∙◌}
use Rattle.std.specs.Prelude.{flat_map}
use Rattle.bit_exprs.specs.Named.{among, certain_part}
use Rattle.bit_exprs.proofs.Naming.{certain_found, certain_more}
use Rattle.bit_exprs.proofs.names.is_certain.Goals as goal

pub returns-then-is_certain_part : goal.returns-then-is_certain_part
returns-then-is_certain_part c =
    certain_found _ _ c.args.bit c.part-item.result _ c.loop-part-test.true c.part-item.is (sym c.is_certain_part.ensures ∙ c.if-is_certain_part.true) c.loop-part.invariant
    ∙ ap (λ parts. among (flat_map certain_part parts) c.args.bit) c.as_slice-part-items.ensures

pub loop-part-preserved : goal.loop-part-preserved
loop-part-preserved c =
    certain_more _ _ c.args.bit c.part-item.result _ c.loop-part-test.true c.part-item.is (sym c.is_certain_part.ensures ∙ c.if-is_certain_part.false) c.loop-part.invariant
