-- Queries about frames: a step that makes a lemma false, one into a cube, a hit.
use Rattle.std.specs.Prelude.{◌≡◌, ℕ, ◌<◌, Bool, true, false, if◌then◌else◌, List, map}
use Rattle.aig_core.specs.Graph.{negation}
use Rattle.bit_system.specs.declared.ladder.Depth.{Depth}
use Rattle.bit_system.specs.declared.ladder.StateLit.{StateLit}
use Rattle.bit_system.specs.declared.ladder.Lemma.{Lemma}
use Rattle.bit_system.specs.Machine.{Machine, IsInput, hit_literal, next_literal, next_state, value_in_step}
use Rattle.bit_system.specs.Ladders.{previous, lemma_true}
use Rattle.generalise.specs.Cubes.{in_cube}
use Rattle.generalise.specs.Frames.{InFrame}
use Rattle.generalise.specs.declared.units.Units.{Units}
use Rattle.ic3_frames.specs.declared.query.Query.{Query}
use Rattle.ic3_frames.specs.declared.query.Query.TheVariants.{Refuted, Found, Spent}

-- a state of the frame before the lemma's level from which a step makes the lemma false
pub record Fails (m : Machine) (lemmas : List Lemma) (lemma : Lemma) (state input : List Bool) : Type 0 where
  pub in_frame : InFrame m lemmas (previous lemma.level) state
  pub is_input : IsInput m input
  pub false_after : lemma_true (next_state m state input) lemma ≡ false

-- a state of the frame before the level, outside the cube, that steps into it
pub record StepsInto (m : Machine) (lemmas : List Lemma) (level : Depth) (cube : List StateLit) (state input : List Bool) : Type 0 where
  pub in_frame : InFrame m lemmas (previous level) state
  pub is_input : IsInput m input
  pub outside : in_cube state cube ≡ false
  pub into : in_cube (next_state m state input) cube ≡ true

-- a state of the frame before the depth that hits the point
pub record Hits (m : Machine) (point : ℕ) (lemmas : List Lemma) (depth : Depth) (state input : List Bool) : Type 0 where
  pub in_frame : InFrame m lemmas (previous depth) state
  pub is_input : IsInput m input
  pub hit : value_in_step m state input (hit_literal m point) ≡ true

-- what a query finds: no such state and input, or a pair, each for a unit or more; or the effort is used
abbrev pub Finds : (List Bool → List Bool → Type 0) → Units → Units → Query → Type 0
Finds Is old new Refuted = ((state input : List Bool) → Is state input → ⊥) × (old.used < new.used)
Finds Is old new (Found state input) = Is state input × (old.used < new.used)
Finds Is old new Spent = new.used ≡ new.effort

-- the literal that says that a state bit's literal is true after the step
abbrev pub true_after : Machine → StateLit → ℕ
true_after m l = if l.positive then next_literal m l.state else negation (next_literal m l.state)

-- those of all literals of a cube
abbrev pub all_true_after : Machine → List StateLit → List ℕ
all_true_after m cube = map (true_after m) cube
