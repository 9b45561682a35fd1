use Rattle.std.proofs.Common.{sym, ap, ◌∙◌}
use Rattle.word_blast.proofs.Combinators.{recursion}
use Rattle.expr_blast.specs.Circuits.{unary_of}
use Rattle.expr_blast.proofs.Growing.{made_exist}
use Rattle.expr_blast.proofs.OperatorWords.{unary_gives}
use Rattle.expr_blast.proofs.operators.unary.Goals as goal

pub returns-in_ok-longer-in-Extend-clause-exist : goal.returns-in_ok-longer-in-Extend-clause-exist
returns-in_ok-longer-in-Extend-clause-exist c =
    let g = c.args.aig.now in
    let xs = c.args.word.now in
    (made_exist ((λ j. (g, c.in_ok-longer-in-Extend.ensures j)) ∙ sym (ap (λ op. unary_of op g xs) c.in-Extend.is))
    (unary_gives g xs c.allocator-alloc.ensures.well_formed (recursion g xs c.requires.exists) c.args.op c.requires.some c.requires.takes)).0

pub returns-in_ok-all-in-Repeat-clause-exist : goal.returns-in_ok-all-in-Repeat-clause-exist
returns-in_ok-all-in-Repeat-clause-exist c =
    let g = c.args.aig.now in
    let xs = c.args.word.now in
    (made_exist ((λ j. (g, c.in_ok-all-in-Repeat.ensures j)) ∙ sym (ap (λ op. unary_of op g xs) c.in-Repeat.is))
    (unary_gives g xs c.allocator-alloc.ensures.well_formed (recursion g xs c.requires.exists) c.args.op c.requires.some c.requires.takes)).0

pub returns-in_ok-all-in-Repeat-clause-width : goal.returns-in_ok-all-in-Repeat-clause-width
returns-in_ok-all-in-Repeat-clause-width c =
    let g = c.args.aig.now in
    let xs = c.args.word.now in
    (made_exist ((λ j. (g, c.in_ok-all-in-Repeat.ensures j)) ∙ sym (ap (λ op. unary_of op g xs) c.in-Repeat.is))
    (unary_gives g xs c.allocator-alloc.ensures.well_formed (recursion g xs c.requires.exists) c.args.op c.requires.some c.requires.takes)).1
