-- What is done to literals at some bits alone.
use Rattle.std.specs.Prelude.{ℕ, ◌≡◌, ◌<◌, List, [], ◌∷◌, length, map, All, slice_set}
use Rattle.std.specs.List.Sorted.{IsStrictlyIncreasing}
use Rattle.bit_exprs.specs.Named.{among}
use Rattle.aig_core.specs.Graph.{Graph}
use Rattle.word_blast.specs.Bits.{mux_of}
use Rattle.expr_blast.specs.Circuits.{literal_at}

-- each of the bits gets the literal given for it
abbrev pub set_at : List ℕ → List ℕ → List ℕ → List ℕ
set_at [] given targets = targets
set_at (b ∷ bits) [] targets = targets
set_at (b ∷ bits) (x ∷ given) targets = set_at bits given (slice_set targets b x)

-- at each of the bits, the choice by c between the literal given for it and its own
abbrev pub choose_at : Graph → ℕ → List ℕ → List ℕ → List ℕ → Graph × List ℕ
choose_at g c [] given targets = (g, targets)
choose_at g c (b ∷ bits) [] targets = (g, targets)
choose_at g c (b ∷ bits) (x ∷ given) targets =
    let p = mux_of g c x (literal_at targets b) in
    choose_at p.0 c bits given (slice_set targets b p.1)

-- these are the bits that are among some, in order of number, and their literals
pub record IsSaved (some targets bits literals : List ℕ) : Type 0 where
  pub rises : IsStrictlyIncreasing bits
  pub same : (b : ℕ) → among bits b ≡ among some b
  pub within : All (λ b. b < length targets) bits
  pub literals_are : literals ≡ map (literal_at targets) bits
