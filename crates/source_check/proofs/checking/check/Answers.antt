use Rattle.std.proofs.Common.{ap}
use Rattle.design_core.specs.declared.setup.Setup.{Setup}
use Rattle.source_check.proofs.checking.check.Goals as goal

pub judge-requires : goal.judge-requires
judge-requires c = ap (λ (s : Setup). s.cycles) c.in_ok-cert.ensures.answers.0.setup.plain
