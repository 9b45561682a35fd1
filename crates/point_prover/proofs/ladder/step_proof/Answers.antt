use Rattle.point_prover.proofs.Refuted.{none_step}
use Rattle.point_prover.proofs.ladder.step_proof.Goals as goal

pub refute-requires : goal.refute-requires
refute-requires c =
    none_step c.args.system.now c.args.point c.args.depth c.args.lemmas.now c.args.at c.in_ok-clauses.clauses c.requires.good c.requires.at c.in_ok-clauses.ensures.exact
