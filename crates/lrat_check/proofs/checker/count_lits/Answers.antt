use Rattle.std.proofs.Common.{◌≡◌, arith, refl}
use Rattle.std.specs.Prelude.{sum_by}
use Rattle.std.proofs.lemmas.List.{take_all}
use Rattle.lrat_check.specs.Checking.{lits_in}
use Rattle.lrat_check.proofs.checker.count_lits.Goals as goal

pub returns-clause-fits : goal.returns-clause-fits
returns-clause-fits c =
    let whole : c.loop-line.sum ≡ sum_by lits_in c.args.lines.now =
    rw (take_all c.loop-line.line-index c.args.lines.now c.loop-line-test.false) at c.loop-line.invariant.count in
    (λ _. omega (arith, whole, c.loop-line.invariant.fits), λ _. refl)
