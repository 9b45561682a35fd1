use Rattle.std.proofs.Common.{All, sym, ap, ◌∙◌, subst}
use Rattle.aig_core.specs.Graph.{IsLiteral}
use Rattle.word_blast.specs.Words.{circuit_all}
use Rattle.word_blast.proofs.Combinators.{recursion}
use Rattle.expr_blast.specs.Circuits.{equal_to}
use Rattle.expr_blast.proofs.Growing.{first_of, gives_at}
use Rattle.expr_blast.proofs.Selects.{equal_gives, matched_exist}
use Rattle.expr_blast.proofs.places.equal_to.Goals as goal

pub blast_all-requires : goal.blast_all-requires
blast_all-requires c =
    subst (All (IsLiteral c.args.aig.now)) (sym (c.deref.ensures.value ∙ c.in_ok-literals-in-Some.ensures)) (matched_exist c.args.aig.now c.args.word.now c.in-Some.number c.requires.exists)

pub returns-in_ok-equal-in-Some-clause-meaning : goal.returns-in_ok-equal-in-Some-clause-meaning
returns-in_ok-equal-in-Some-clause-meaning c =
    gives_at
    (first_of c.in_ok-equal-in-Some.equal.items c.index.result.now _ c.in_ok-equal-in-Some.ensures.exact c.index.ensures
    ∙ ap (circuit_all c.args.aig.now) (c.deref.ensures.value ∙ c.in_ok-literals-in-Some.ensures) ∙ sym (ap (equal_to c.args.aig.now c.args.word.now) c.in-Some.is))
    (equal_gives c.args.aig.now c.args.word.now c.args.number c.allocator-alloc.ensures.well_formed (recursion c.args.aig.now c.args.word.now c.requires.exists) c.requires.fits)

pub returns-in-None-clause-meaning : goal.returns-in-None-clause-meaning
returns-in-None-clause-meaning c =
    gives_at (sym (ap (equal_to c.args.aig.now c.args.word.now) c.in-None.is))
    (equal_gives c.args.aig.now c.args.word.now c.args.number c.allocator-alloc.ensures.well_formed (recursion c.args.aig.now c.args.word.now c.requires.exists) c.requires.fits)
