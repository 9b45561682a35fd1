use Rattle.point_prover.proofs.Refuted.{none_hit}
use Rattle.point_prover.proofs.ladder.hit_proof.Goals as goal

pub refute-requires : goal.refute-requires
refute-requires c =
    none_hit c.args.system.now c.args.point c.args.depth c.args.lemmas.now c.in_ok-clauses.clauses c.requires c.in_ok-clauses.ensures.exact
