use Rattle.std.proofs.Common.{[], ◌∷◌, ap, ◌∙◌}
use Rattle.design_core.specs.declared.flat.Stmt.{Stmt}
use Rattle.cycle_tests.proofs.CounterLegal.{is_counter}
use Rattle.cycle_tests.specs.Counter.{process_of}
use Rattle.cycle_tests.proofs.counter.design.Goals as goal

pub returns : goal.returns
returns c =
    is_counter _ c.make.result c.make-2.result c.make.ensures.width c.make-2.ensures.width (c.in_ok-processes.ensures ∙ ap (λ (s : Stmt). process_of s ∷ []) c.in_ok-body.ensures)
    c.in_ok-inputs.ensures c.in_ok-registers.ensures c.in_ok-bits.ensures c.in_ok-sites.ensures
