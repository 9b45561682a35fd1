use Rattle.ic3_frames.proofs.Meaning.{finds_hit, has_values}
use Rattle.ic3_frames.proofs.query.query_hit.Goals as goal

pub answer-requires : goal.answer-requires
answer-requires c =
    rw (← c.node_count.ensures.value)
    (has_values c.node_count.result c.in_ok-clauses.clauses c.args.units.now c.solve.new.units c.in_ok-solved.solved c.in_ok-solved.ensures.solved)

pub returns-clause-finds : goal.returns-clause-finds
returns-clause-finds c =
    finds_hit c.args.system.now c.args.point c.args.depth c.args.lemmas.now c.in_ok-clauses.clauses c.node_count.result
    c.args.units.now c.solve.new.units c.in_ok-solved.solved c.in_ok-query.query c.node_count.ensures.valid c.requires.states
    c.requires.point c.requires.level c.in_ok-clauses.ensures.exact c.in_ok-solved.ensures.solved c.in_ok-query.ensures
