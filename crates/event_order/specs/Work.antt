-- How much work is left. Every step makes it less.
use Rattle.std.specs.Prelude.{ℕ, zero, suc, ◌+◌, ◌*◌, ◌^◌, Bool, cond, ◌&&◌, List, [], ◌∷◌, length}
use Rattle.design_core.specs.declared.flat.Design.{Design}
use Rattle.bit_exprs.specs.Values.{bit_at}
use Rattle.design_core.specs.Settled.{is_clocked}
use Rattle.design_core.specs.Legality.{process_at}

-- the flags in a legal order, read as a number, the first the highest
abbrev pub rank : List ℕ → List Bool → ℕ
rank [] flags = 0
rank (k ∷ rest) flags = cond (bit_at flags k) (2 ^ length rest) 0 + rank rest flags

-- how many numbers below n
abbrev pub count_below : ℕ → (ℕ → Bool) → ℕ
count_below zero f = 0
count_below (suc n) f = count_below n f + cond (f n) 1 0

abbrev pub some_waiting : List (ℕ × Bool) → ℕ
some_waiting [] = 0
some_waiting (u ∷ us) = 1

abbrev pub clocked_pending : Design → List Bool → ℕ
clocked_pending d flags = count_below (length d.processes) (λ k. is_clocked (process_at d k).kind && bit_at flags k)

-- what is left to do
abbrev pub work : Design → List ℕ → List Bool → List (ℕ × Bool) → ℕ
work d order flags waiting = 2 * 2 ^ length order * clocked_pending d flags + 2 ^ length order * some_waiting waiting + rank order flags
