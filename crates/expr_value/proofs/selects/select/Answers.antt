use Rattle.std.proofs.Common.{◌-◌, map, ap, ◌∙◌, arith}
use Rattle.word_core.specs.Words.{bit}
use Rattle.bit_exprs.specs.Values.{bit_at, bit_where}
use Rattle.bit_exprs.specs.Indices.{names_place}
use Rattle.expr_value.proofs.Loops.{select_more}
use Rattle.expr_value.proofs.selects.select.Goals as goal

pub loop-from-preserved : goal.loop-from-preserved
loop-from-preserved c = record {
  below = omega (arith, c.loop-from.invariant.below);
  width = omega (arith, c.join-word.ensures.width, c.flag.ensures.width, c.loop-from.invariant.width, c.loop-from.invariant.below, c.loop-from-test.true);
  number =
      select_more (λ k. bit_where (names_place c.args.window c.args.at.width c.args.signed c.args.at.bits k) 0 (map (bit_at c.args.values.now) c.args.vector.now)) c.args.window.count (c.loop-from.from - 1) c.loop-from.from _ _ _ _ (omega (arith, c.loop-from-test.true)) c.loop-from.invariant.below
      c.flag.ensures.width c.loop-from.invariant.number (c.flag.ensures.bits ∙ ap bit c.selected_bit-in-loop-from.ensures) c.join-word.ensures.bits;
}
