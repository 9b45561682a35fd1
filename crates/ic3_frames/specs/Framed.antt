-- What contracts see of frames, and of what asks about them.
use Rattle.std.specs.Prelude.{ℕ, List}
use Rattle.bit_system.specs.declared.ladder.Lemma.{Lemma}
use Rattle.bit_system.specs.Machine.{Machine}

-- the point, the lemmas, each with the highest level at which it stands, and the number of steps without a hit
pub record Framed : Type 0 where
  pub point : ℕ
  pub lemmas : List Lemma
  pub depth : ℕ

-- a system, and the lemmas of its frames
pub record Told : Type 0 where
  pub machine : Machine
  pub lemmas : List Lemma
