use Rattle.std.proofs.Common.{◌≡◌, ℕ, suc, ◌-◌, length, ap, ◌∙◌, arith}
use Rattle.word_blast.specs.Words.{shift_from, moved_down}
use Rattle.word_blast.proofs.Combinators.{recursion, word_at}
use Rattle.word_blast.proofs.ShiftLaws.{sshr_gives, top_at}
use Rattle.word_blast.proofs.shifts.blast_sshr.Goals as goal

pub returns-clause-exact : goal.returns-clause-exact
returns-clause-exact c =
    let last : suc (length c.args.a.now - 1) ≡ length c.args.a.now = omega arith in
    c.in_ok-bits.ensures.exact
    ∙ ap (λ (f : ℕ). shift_from (moved_down f) f c.args.aig.now c.args.a.now 1 c.args.by.now) (top_at c.args.a.now (length c.args.a.now - 1) last)

pub returns-clause-meaning : goal.returns-clause-meaning
returns-clause-meaning c =
    word_at (returns-clause-exact c)
    (sshr_gives c.args.aig.now c.args.a.now c.args.by.now c.in_ok-bits.ensures.was_well_formed (recursion c.args.aig.now c.args.a.now c.requires.a_exists) (recursion c.args.aig.now c.args.by.now c.requires.by_exists) c.requires.some)
