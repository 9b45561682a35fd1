use Rattle.std.proofs.Common.{◌∙◌}
use Rattle.text_prover.proofs.Certified.{one_each}
use Rattle.text_prover.proofs.making.claims_for.Goals as goal

pub claims-requires-clause-points : goal.claims-requires-clause-points
claims-requires-clause-points c =
    one_each c.args.legal.now c.args.points.now c.deref.result.now (c.deref.ensures.value ∙ c.in_ok-sites.ensures) c.in_ok-system.system c.in_ok-system.ensures.exact
