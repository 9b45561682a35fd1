use Rattle.std.proofs.Common.{get_or, sym, ◌∙◌, arith}
use Rattle.std.specs.List.{zip}
use Rattle.std.proofs.lemmas.Slice.Zip.{length-zip, get_or-zip}
use Rattle.aig_core.proofs.Values.{Extends-trans}
use Rattle.word_blast.specs.Steps.{compare_of}
use Rattle.word_blast.proofs.Combinators.{fold_of-more, fold_of-done}
use Rattle.word_blast.proofs.loops.compare.Goals as goal

pub loop-i-preserved : goal.loop-i-preserved
loop-i-preserved c =
    let i = c.loop-i.invariant in
    let e = c.in_ok-so_far.ensures in
    let a = c.args.a.now in
    let b = c.args.b.now in
    let k = c.loop-i.i in
    let step = fold_of-more (compare_of c.args.comparison) c.loop-i.aig c.compare_more.new.aig c.loop-i.so_far c.in_ok-so_far.so_far (get_or a k 0, get_or b k 0) (0, 0) (zip a b) k (omega (arith, length-zip a b))
    (sym (get_or-zip a b k (0, 0) (omega arith) (omega arith))) e.graph e.literal in
    record { rest = sym step ∙ i.rest; kept = Extends-trans _ _ _ i.kept e.kept; exists = e.exists }

pub returns-clause-exact : goal.returns-clause-exact
returns-clause-exact c =
    sym (fold_of-done (compare_of c.args.comparison) c.loop-i.aig c.loop-i.so_far (zip c.args.a.now c.args.b.now) c.loop-i.i (omega (arith, length-zip c.args.a.now c.args.b.now))) ∙ c.loop-i.invariant.rest
