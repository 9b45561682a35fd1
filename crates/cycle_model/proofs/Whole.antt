-- A whole cycle.
use Rattle.std.proofs.Common.{◌≡◌, ℕ, Bool, List, [], ◌∷◌, ◌++◌, refl, sym, ap, map, ◌∙◌, subst, take, drop, length, ◌<◌, arith}
use Rattle.std.specs.Prelude.{All}
use Rattle.std.proofs.lemmas.List.{drop_all, take_all, append-nil}
use Rattle.std.proofs.lemmas.List.Elements.{All-head, All-tail}
use Rattle.design_core.specs.declared.flat.Design.{Design}
use Rattle.bit_exprs.specs.Updates.{perform}
use Rattle.bit_exprs.specs.Values.{bit_at}
use Rattle.design_core.specs.Settled.{updated, clocked_updates, next_of}
use Rattle.design_core.proofs.Updates.{bit_performed}
use Rattle.cycle_model.specs.Machine.{held_in}

performed_at : (us : List (ℕ × Bool)) (v : List Bool) (bits : List ℕ) → All (λ b. b < length v) bits → map (bit_at (perform us v)) bits ≡ map (λ b. updated us b (bit_at v b)) bits
performed_at us v [] within = refl
performed_at us v (b ∷ bits) within =
    λ j. bit_performed us v b (All-head (λ c. c < length v) b bits within) j ∷ performed_at us v bits (All-tail (λ c. c < length v) b bits within) j

-- the registers after the clock's edge
pub next_held : (d : Design) (v next : List Bool) → length v ≡ length d.bits → All (λ b. b < length d.bits) d.registers →
    next ≡ perform (clocked_updates d.processes v) v → held_in d next ≡ next_of d v
next_held d v next wide within is =
    ap (λ (n : List Bool). map (bit_at n) d.registers) is
    ∙ performed_at (clocked_updates d.processes v) v d.registers (subst (λ n. All (λ b. b < n) d.registers) (sym wide) within)

-- a slice of the whole list, put back
pub put_back : (n : ℕ) (new old : List Bool) → length new ≡ length old → n ≡ length old → take n (new ++ drop (length new) old) ≡ new
put_back n new old same whole =
    ap (λ (r : List Bool). take n (new ++ r)) (drop_all (length new) old (omega arith)) ∙ ap (take n) (append-nil new) ∙ take_all n new (omega arith)
