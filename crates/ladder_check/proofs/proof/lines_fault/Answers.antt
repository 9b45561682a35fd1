use Rattle.std.proofs.Common.{arith, ◌∙◌}
use Rattle.ladder_check.specs.declared.fault.QueryFault.TheVariants.{Line as BadLine}
use Rattle.ladder_check.proofs.Runs.{closes_more, fails_more, fails_here, lits_more, lines_in-one}
use Rattle.ladder_check.proofs.proof.lines_fault.Goals as goal

pub returns-in-Err-clause-fault : goal.returns-in-Err-clause-fault
returns-in-Err-clause-fault c =
    c.loop-line.invariant.fails
    (BadLine c.in-Err.fault)
    (fails_here c.args.checker.now.vars c.loop-line.checker.state c.args.lines.now c.loop-line.line-index c.line-item.result c.loop-line-test.true c.line-item.is
    c.loop-line.checker.vars c.loop-line.invariant.vars c.in-Err.fault c.in-Err.ensures.fault)

pub loop-line-preserved : goal.loop-line-preserved
loop-line-preserved c =
    let passes = c.in_default-line.ensures.passes in
    let room = c.in_default-line.ensures.room in
    record {
      vars = c.line.ensures.vars ∙ c.loop-line.invariant.vars;
      run = λ rest.
          c.loop-line.invariant.run
          (closes_more c.args.checker.now.vars c.loop-line.checker.state c.args.lines.now c.loop-line.line-index c.line-item.result c.loop-line-test.true c.line-item.is
          c.loop-line.checker.vars c.loop-line.invariant.vars c.line.new.self.state passes rest);
      fails = λ f rest.
          c.loop-line.invariant.fails f
          (fails_more c.args.checker.now.vars c.loop-line.checker.state c.args.lines.now c.loop-line.line-index c.line-item.result c.loop-line-test.true c.line-item.is
          c.loop-line.checker.vars c.loop-line.invariant.vars c.line.new.self.state passes f rest);
      lines = omega (arith, room.0, lines_in-one c.line-item.result, c.loop-line.invariant.lines);
      lits = omega (arith, room.1, c.loop-line.invariant.lits, lits_more c.args.checker.now.vars c.loop-line.checker.state c.args.lines.now c.loop-line.line-index c.line-item.result c.loop-line-test.true c.line-item.is);
    }
