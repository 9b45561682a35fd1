use Rattle.std.proofs.Common.{◌∷◌, ◌++◌, [], ap, ◌∙◌}
use Rattle.bit_system.specs.declared.ladder.Lemma.{Lemma}
use Rattle.ic3_frames.proofs.Meaning.{finds_last, states_more}
use Rattle.ic3_frames.proofs.asker.query_cube.Goals as goal

pub query_step-query-requires-clause-states : goal.query_step-query-requires-clause-states
query_step-query-requires-clause-states c =
    rw (c.as_slice.ensures, c.in_ok-push.ensures.ok, c.in_ok-lemma.ensures)
    (states_more c.args.system.now c.args.lemmas.now c.args.level c.args.cube.now c.requires.states c.requires.cube)

pub returns-clause-finds : goal.returns-clause-finds
returns-clause-finds c =
    finds_last c.args.system.now c.args.lemmas.now c.as_slice.result.now c.args.level c.args.cube.now c.len-at.result c.args.units.now c.query_step-query.new.units
    _ c.query_step-query.result
    (c.as_slice.ensures ∙ c.in_ok-push.ensures.ok ∙ ap (λ (l : Lemma). c.args.lemmas.now ++ l ∷ []) c.in_ok-lemma.ensures)
    c.len-at.ensures c.query_step-query.ensures.finds
