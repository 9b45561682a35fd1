use Rattle.std.proofs.Common.{get_or, sym, ◌∙◌, refl, arith}
use Rattle.aig_core.proofs.Values.{Extends-trans}
use Rattle.word_blast.specs.Steps.{gate_of}
use Rattle.word_blast.proofs.Combinators.{fold_of-more, fold_of-done}
use Rattle.word_blast.proofs.loops.fold.Goals as goal

pub loop-i-preserved : goal.loop-i-preserved
loop-i-preserved c =
    let i = c.loop-i.invariant in
    let e = c.in_ok-so_far.ensures in
    let step = fold_of-more (gate_of c.args.op) c.loop-i.aig c.gate.new.aig c.loop-i.so_far c.in_ok-so_far.so_far (get_or c.args.a.now c.loop-i.i 0) 0 c.args.a.now c.loop-i.i (omega arith) refl e.graph e.literal in
    record { rest = sym step ∙ i.rest; kept = Extends-trans _ _ _ i.kept e.kept; exists = e.exists }

pub returns-clause-exact : goal.returns-clause-exact
returns-clause-exact c = sym (fold_of-done (gate_of c.args.op) c.loop-i.aig c.loop-i.so_far c.args.a.now c.loop-i.i (omega arith)) ∙ c.loop-i.invariant.rest
