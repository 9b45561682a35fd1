-- Bits of a target one by one, from the top.
use Rattle.std.proofs.Common.{◌≡◌, ℕ, zero, suc, ◌-◌, ◌<◌, List, [], ◌∷◌, ◌++◌, Option, ap, ◌∙◌, arith}
use Rattle.std.proofs.lemmas.List.{append_assoc}
use Rattle.bit_exprs.specs.declared.forms.Part.{Part}
use Rattle.expr_elab.specs.Targets.{bit_part, parts_below}

pub part_more : (named : ℕ → Option ℕ) (k : ℕ) (made later all : List Part) (p : Part) → 0 < k → p ≡ bit_part (named (k - 1)) → later ≡ made ++ p ∷ [] →
    made ++ parts_below named k ≡ all → later ++ parts_below named (k - 1) ≡ all
part_more named zero made later all p some ep grown h = absurd (omega (arith, some))
part_more named (suc k) made later all p some ep grown h =
    let off : suc k - 1 ≡ k = omega arith in
    (λ j. grown j ++ parts_below named (off j)) ∙ ap (λ q. made ++ q ∷ [] ++ parts_below named k) (ep ∙ ap (λ i. bit_part (named i)) off)
    ∙ append_assoc made (bit_part (named k) ∷ []) (parts_below named k) ∙ h
