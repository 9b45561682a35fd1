use Rattle.std.proofs.Common.{Vec, Global, ℕ, arith, ◌∙◌}
use Rattle.std.proofs.lemmas.List.{length-map}
use Rattle.sat_core.proofs.watches.Watches.make.Goals as goal

pub returns-clause-places : goal.returns-clause-places
returns-clause-places c =
    length-map c.loop.lists.items (λ (v : Vec ℕ Global). v.items) ∙ omega (arith, c.loop.invariant, c.loop.auto.counter-end, c.loop-test.false)
