use Rattle.std.proofs.Common.{◌≡◌, ◌-◌, suc, length, cond, sym, ap, ◌∙◌, arith}
use Rattle.word_blast.specs.Words.{top_literal}
use Rattle.word_blast.proofs.ShiftLaws.{top_at}
use Rattle.expr_blast.proofs.literals.fill.Goals as goal

pub returns-then-signed : goal.returns-then-signed
returns-then-signed c =
    let last : suc (length c.args.word.now - 1) ≡ length c.args.word.now = omega (arith, c.requires) in
    top_at c.args.word.now (length c.args.word.now - 1) last ∙ sym (ap (λ b. cond b (top_literal c.args.word.now) 0) c.if-signed.true)
