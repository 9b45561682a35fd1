-- The search for a loop through one bit, from it back to what feeds it.
use Rattle.std.specs.Prelude.{◌≡◌, ◌≢◌, ℕ, ◌+◌, ◌<◌, Bool, true, false, List, [], ◌∷◌, length, slice_index_or}
use Rattle.std.specs.List.{All as Each}
use Rattle.settle_order.specs.declared.nodes.Node.{Node}
use Rattle.settle_order.specs.declared.search.Step.{Step}
use Rattle.settle_order.specs.Loops.{Feeds, IsChain}
use Rattle.settle_order.specs.Sweeping.{on, down}

abbrev pub step_at : List Step → ℕ → Step
step_at steps i = slice_index_or steps i (record { bit = 0; toward = 0 })

-- each step but the first goes toward an earlier one
abbrev pub AreEarlier : List Step → Type 0
AreEarlier steps = (i : ℕ) → 0 < i → i < length steps → (step_at steps i).toward < i

-- whose bit it feeds; the first one is c
pub record AreSteps (nodes : List Node) (c bits : ℕ) (steps : List Step) : Type 0 where
  pub some : 0 < length steps
  pub first : (step_at steps 0).bit ≡ c
  pub within : Each (λ (s : Step). s.bit < bits) steps
  pub earlier : AreEarlier steps
  pub feeds : (i : ℕ) → 0 < i → i < length steps → Feeds nodes (step_at steps i).bit (step_at steps (step_at steps i).toward).bit

-- what feeds the bit was seen, and isn't c
abbrev pub IsExpanded : List Node → ℕ → List Bool → ℕ → Type 0
IsExpanded nodes c seen y = (x : ℕ) → Feeds nodes x y → (x ≢ c) × (on seen x ≡ true)

-- the first of these bits were seen, and c isn't one of them
pub record IsPassed (needs : List ℕ) (count c : ℕ) (seen : List Bool) : Type 0 where
  pub apart : (j : ℕ) → j < count → slice_index_or needs j 0 ≢ c
  pub seen_all : (j : ℕ) → j < count → on seen (slice_index_or needs j 0) ≡ true

-- the steps before a place are expanded, and each seen bit is a step's
pub record IsSearched (nodes : List Node) (c bits : ℕ) (seen : List Bool) (steps : List Step) (at : ℕ) : Type 0 where
  pub formed : AreSteps nodes c bits steps
  pub size : length seen ≡ bits
  pub stepped : (x : ℕ) → on seen x ≡ true → (i : ℕ) × (i < length steps) × ((step_at steps i).bit ≡ x)
  pub expanded : (i : ℕ) → i < at → i < length steps → IsExpanded nodes c seen (step_at steps i).bit

-- going on from a step: c feeds its bit, or all that does was seen
pub record Expands (nodes : List Node) (c bits at : ℕ) (seen : List Bool) (steps : List Step) (new_seen : List Bool) (new_steps : List Step) (found : Bool) : Type 0 where
  pub formed : AreSteps nodes c bits new_steps
  pub there : at < length new_steps
  pub feeds : found ≡ true → Feeds nodes c (step_at new_steps at).bit
  pub searched : found ≡ false → IsSearched nodes c bits new_seen new_steps (at + 1)
  pub count : down new_seen + length new_steps ≡ down seen + length steps

-- a loop that begins with c
abbrev pub IsLoopOf : List Node → ℕ → List ℕ → Type 0
IsLoopOf nodes c [] = ⊥
IsLoopOf nodes c (b ∷ rest) = (b ≡ c) × IsChain nodes b rest b

-- where c feeds the bit of this step, the bits from c over it on are a loop
abbrev pub IsBack : ℕ → List Step → ℕ → List ℕ → Type 0
IsBack c steps at loop = (nodes : List Node) (bits : ℕ) → AreSteps nodes c bits steps → Feeds nodes c (step_at steps at).bit → IsLoopOf nodes c loop
