-- Every stimulus has a run, and its runs are alike.
use Rattle.std.proofs.Common.{◌≡◌, ℕ, Bool, false, List, [], ◌∷◌, refl, map, ◌∙◌, subst, length, replicate}
use Rattle.std.specs.Prelude.{All, zip}
use Rattle.std.proofs.lemmas.List.{length-map, length-replicate}
use Rattle.std.proofs.lemmas.List.Elements.{All-head, All-tail}
use Rattle.bit_exprs.specs.Values.{bit_at}
use Rattle.bit_exprs.specs.Updates.{perform}
use Rattle.bit_exprs.proofs.Performing.{length-perform}
use Rattle.design_core.specs.declared.flat.Design.{Design}
use Rattle.design_core.specs.Settled.{Settled, next_of, updated, clocked_updates}
use Rattle.design_core.specs.Legality.{IsLegal}
use Rattle.design_core.specs.Runs.{IsRun}
use Rattle.design_core.proofs.Settling.{registers_put, is_settled, done}

module _ (d : Design) (order : List ℕ) (legal : IsLegal d order) where
  settled_from : (held i : List Bool) → length held ≡ length d.registers → length i ≡ length d.inputs → (v : List Bool) × Settled d held i v
  settled_from held i wide long =
      let zeros : List Bool = replicate (length d.bits) false in
      let base : List Bool = perform (zip d.registers held) zeros in
      let zeros_wide : length zeros ≡ length d.bits = length-replicate (length d.bits) false in
      let base_wide : length base ≡ length d.bits = length-perform (zip d.registers held) zeros ∙ zeros_wide in
      let is : map (bit_at base) d.registers ≡ held = registers_put d held zeros base legal.registers_distinct legal.registers_within zeros_wide wide refl in
      (done d order legal base i, subst (λ h. Settled d h i (done d order legal base i)) is (is_settled d order legal base i base_wide long))

  pub run_exists : (held : List Bool) (lines : List (List Bool)) → length held ≡ length d.registers → All (λ line. length line ≡ length d.inputs) lines →
      (vs : List (List Bool)) × IsRun d held lines vs
  run_exists held [] wide long = ([], tt)
  run_exists held (line ∷ lines) wide long =
      let here = settled_from held line wide (All-head (λ l. length l ≡ length d.inputs) line lines long) in
      let next_wide : length (next_of d here.0) ≡ length d.registers = length-map d.registers (λ b. updated (clocked_updates d.processes here.0) b (bit_at here.0 b)) in
      let rest = run_exists (next_of d here.0) lines next_wide (All-tail (λ l. length l ≡ length d.inputs) line lines long) in
      (here.0 ∷ rest.0, (here.1, rest.1))
