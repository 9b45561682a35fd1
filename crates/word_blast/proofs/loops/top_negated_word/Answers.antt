use Rattle.std.proofs.Common.{◌≡◌, ℕ, zero, suc, ◌-◌, List, [], ◌∷◌, nat_eq, false, length, get_or, set, sym, ap, ◌∙◌, arith}
use Rattle.aig_core.specs.Graph.{negation}
use Rattle.word_blast.specs.Words.{top_negated}
use Rattle.word_blast.proofs.loops.top_negated_word.Goals as goal

set_top : (xs : List ℕ) (i x : ℕ) → suc i ≡ length xs → x ≡ negation (get_or xs i 0) → set xs i x ≡ top_negated xs
set_top [] i x len e = absurd (omega arith)
set_top (y ∷ []) zero x len e = ap (λ (z : ℕ). z ∷ []) e
set_top (y ∷ []) (suc i) x len e = absurd (omega arith)
set_top (y ∷ z ∷ xs) zero x len e = absurd (omega arith)
set_top (y ∷ z ∷ xs) (suc i) x len e = ap (λ (l : List ℕ). y ∷ l) (set_top (z ∷ xs) i x (omega arith) e)

some : (n : ℕ) → nat_eq n 0 ≡ false → suc (n - 1) ≡ n
some zero e = cc
some (suc n) e = omega arith

pub returns-clause-literals : goal.returns-clause-literals
returns-clause-literals c =
    ap (λ (l : List ℕ). set l (length c.args.a.now - 1) c.negated.result) c.in_ok-bits.ensures.items
    ∙ set_top c.args.a.now (length c.args.a.now - 1) c.negated.result (some (length c.args.a.now) (sym c.is_empty.ensures ∙ c.if-is_empty.false)) c.negated.ensures
