-- Lemmas that others make needless.
use Rattle.std.specs.Prelude.{◌≡◌, ℕ, ◌-◌, Bool, true, List, length, slice_index_or}
use Rattle.bit_system.specs.declared.ladder.Lemma.{Lemma}
use Rattle.bit_system.specs.Ladders.{is_at_least, lemma_true}

-- the first lemma is of the second one's level or above, and where it holds so does the second one
pub record Subsumes (first second : Lemma) : Type 0 where
  pub level : is_at_least first.level second.level ≡ true
  pub implies : (state : List Bool) → lemma_true state first ≡ true → lemma_true state second ≡ true

-- the last lemma subsumes the one at this place
abbrev pub IsNeedless : List Lemma → ℕ → Type 0
IsNeedless lemmas at = (d : Lemma) → Subsumes (slice_index_or lemmas (length lemmas - 1) d) (slice_index_or lemmas at d)
