use Rattle.clause_names.proofs.Grown.{literal_step}
use Rattle.clause_names.proofs.numbering.number_clause.Goals as goal

pub loop-literal-preserved : goal.loop-literal-preserved
loop-literal-preserved c =
    let before = c.loop-literal.invariant in
    let here = c.in_ok-number_literal.ensures in
    literal_step c.args.names.now.keys c.loop-literal.names.keys c.number_literal.new.names.keys c.args.clause.now c.loop-literal.numbers.items c.push.new.self.items
    c.loop-literal.literal-index c.literal-item.result c.in_ok-number_literal.field-0
    c.loop-literal-test.true c.literal-item.is c.in_ok-push.ensures.items before.0 before.1 before.2 here.numbered here.grows
