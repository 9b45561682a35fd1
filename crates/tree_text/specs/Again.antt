-- A text that has a given tree, but for places.
use Rattle.std.specs.Prelude.{◌≡◌, ◌≤◌, ℕ, List, length, Ok}
use Rattle.vlog_syntax.specs.declared.module.Tree.{Tree}
use Rattle.vlog_modules.specs.Answers.{TextAnswers}
use Rattle.tree_text.specs.Places.{without_places}

-- a text that isn't too long to be read has this tree, but for places
abbrev pub ReadsAgain : List ℕ → Tree → Type 0
ReadsAgain text tree = length text ≤ 4194304 → (other : Tree) × TextAnswers text (Ok other) × (without_places other ≡ without_places tree)
