use Rattle.std.proofs.Common.{get_or}
use Rattle.ic3_frames.proofs.Meaning.{finds_step, has_values}
use Rattle.ic3_frames.proofs.query.query_step.Goals as goal

pub answer-requires : goal.answer-requires
answer-requires c =
    rw (← c.node_count.ensures.value)
    (has_values c.node_count.result c.in_ok-clauses.clauses c.args.units.now c.solve.new.units c.in_ok-solved.solved c.in_ok-solved.ensures.solved)

pub returns-clause-finds : goal.returns-clause-finds
returns-clause-finds c = λ d.
    finds_step c.args.system.now c.args.lemmas.now (get_or c.args.lemmas.now c.args.at d) c.in_ok-clauses.clauses c.node_count.result
    c.args.units.now c.solve.new.units c.in_ok-solved.solved c.in_ok-query.query c.node_count.ensures.valid c.requires.states
    (c.requires.states c.args.at d c.requires.at) (c.requires.level d) (c.in_ok-clauses.ensures.exact d) c.in_ok-solved.ensures.solved c.in_ok-query.ensures
