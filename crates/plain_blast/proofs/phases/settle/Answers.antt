use Rattle.std.proofs.Common.{◌∙◌, length}
use Rattle.aig_core.proofs.Values.{Extends-trans}
use Rattle.design_core.specs.Legality.{bodies}
use Rattle.plain_blast.proofs.Branching.{each_more}
use Rattle.plain_blast.proofs.Building.{body_at, bodies_long, process_within}
use Rattle.plain_blast.proofs.phases.settle.Goals as goal

pub run-requires-clause-within : goal.run-requires-clause-within
run-requires-clause-within c =
    process_within c.args.design.now.processes c.as_slice-processes.result.now _ c.index-processes-k.result (length c.loop-k.literals) _ _ c.requires.within (c.requires.legal.named _ 0 c.loop-k-test.true) c.as_slice-processes.ensures
    c.index-processes-k.is (c.loop-k.invariant.long ∙ c.requires.long)

pub loop-k-preserved : goal.loop-k-preserved
loop-k-preserved c = record {
  rest = each_more (bodies c.args.design.now c.args.order.now) _ c.index-processes-k.result.body _ _ _ _ _ _ (bodies_long c.args.design.now c.args.order.now _ c.loop-k-test.true)
      (body_at c.args.design.now c.args.order.now c.as_slice-processes.result.now _ c.index-processes-k.result c.loop-k-test.true (c.requires.legal.named _ 0 c.loop-k-test.true) c.as_slice-processes.ensures c.index-processes-k.is)
      c.in_ok-run.ensures.exact c.loop-k.invariant.rest;
  exist = c.in_ok-run.ensures.exist;
  long = c.run.ensures.long ∙ c.loop-k.invariant.long;
  kept = Extends-trans _ _ _ c.loop-k.invariant.kept c.run.ensures.kept;
}
