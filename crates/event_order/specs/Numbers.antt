-- The steps that an order number names.
use Rattle.std.specs.Prelude.{ℕ, ◌≡◌, ◌+◌, ◌*◌, ◌/◌, ◌%◌, ◌^◌, Bool, cond, List, [], ◌∷◌, length, slice_index}
use Rattle.design_core.specs.declared.flat.Design.{Design}
use Rattle.event_order.specs.States.{State}
use Rattle.event_order.specs.Steps.{Step, Run, Update, MayTake, ran, updated}

-- the numbers of the flags that are up, the first flag having number k
abbrev pub numbers_from : ℕ → List Bool → List ℕ
numbers_from k [] = []
numbers_from k (f ∷ flags) = cond f (k ∷ numbers_from (k + 1) flags) (numbers_from (k + 1) flags)

-- the pending process that a number names
abbrev pub chosen : List Bool → ℕ → ℕ
chosen flags x = slice_index (numbers_from 0 flags) ((x / 2 ^ 33) % length (numbers_from 0 flags))

-- the number once a process was taken by it
abbrev pub next_number : ℕ → ℕ
next_number x = (x * 6364136223846793005 + 1442695040888963407) % 2 ^ 64

-- the steps that the number x names from s lead to t, where the number is y
abbrev pub Follows : Design → ℕ → State → List Step → ℕ → State → Type 0
Follows d x s [] y t = (x ≡ y) × (s ≡ t)
Follows d x s (Run k ∷ xs) y t = MayTake d s (Run k) × (k ≡ chosen s.pending x) × Follows d (next_number x) (ran d k s) xs y t
Follows d x s (Update ∷ xs) y t = MayTake d s Update × Follows d x (updated d s) xs y t
