use Rattle.clause_names.proofs.Grown.{clause_step}
use Rattle.clause_names.proofs.numbering.number_all.Goals as goal

pub loop-at-preserved : goal.loop-at-preserved
loop-at-preserved c =
    let before = c.loop-at.invariant in
    let here = c.in_ok-clause.ensures in
    clause_step c.args.names.now.keys c.loop-at.names.keys c.number_clause.new.names.keys c.args.clauses.now c.loop-at.numbered c.push.new.self
    c.loop-at.at c.get.result.now c.in_ok-clause.clause.items c.as_slice.result.now
    c.loop-at-test.true c.len-at-end.ensures c.get.ensures c.as_slice.ensures.value c.in_ok-push.ensures.ok before.0 before.1 before.2 here.numbered here.grows
