use Rattle.std.proofs.Common.{◌∙◌, ◌++◌, [], ◌∷◌, ap, sym}
use Rattle.std.specs.Prelude.{option_map}
use Rattle.elab_flat.specs.Bodies.{stmt_of}
use Rattle.elab_flat.proofs.Turns.{processes_more}
use Rattle.elab_flat.proofs.bodies.processes.Goals as goal

pub loop-item-preserved : goal.loop-item-preserved
loop-item-preserved c =
    let scope = c.args.scope.now in
    processes_more scope c.args.clock c.args.items.now c.args.numbers.now c.loop-item.item-index c.item-item.result c.loop-item.numbers c.loop-item.processes c.item-item.is c.loop-item-test.true c.loop-item.invariant
    c.in-Some.made c.stmt.new.numbers c.push.new.self
    (ap (option_map (λ s. (s, c.stmt.new.numbers))) (sym c.in-Some.is) ∙ c.in_ok-made.ensures ∙ ap (λ s. stmt_of scope s c.loop-item.numbers) c.body.ensures)
    (c.in_ok-push.ensures.ok ∙ ap (λ p. c.loop-item.processes ++ p ∷ []) c.in_ok-process.ensures)
