-- Cubes: the states that make each of some literals true.
use Rattle.std.specs.Prelude.{◌≡◌, ◌<◌, Bool, true, not, List, map, length, All as Each}
use Rattle.std.specs.List.{list_all}
use Rattle.bit_system.specs.declared.ladder.Depth.{Depth}
use Rattle.bit_system.specs.declared.ladder.Depth.TheVariants.{All}
use Rattle.bit_system.specs.declared.ladder.StateLit.{StateLit}
use Rattle.bit_system.specs.declared.ladder.Lemma.{Lemma}
use Rattle.bit_system.specs.Machine.{Machine}
use Rattle.bit_system.specs.Ladders.{lit_true}
use Rattle.bit_system.specs.Accepted.{Rises, true_at_start}

-- the opposite literal of a state bit
abbrev pub opposite : StateLit → StateLit
opposite l = record { state = l.state; positive = not l.positive }

-- whether the state makes each literal true
abbrev pub in_cube : List Bool → List StateLit → Bool
in_cube state cube = list_all (lit_true state) cube

-- the literals' state bits exist
abbrev pub HasBits : Machine → List StateLit → Type 0
HasBits m cube = Each (λ l. l.state < length m.states) cube

-- literals on bits of the system, in strictly rising order of the bits
pub record IsCube (m : Machine) (cube : List StateLit) : Type 0 where
  pub in_range : HasBits m cube
  pub rises : Rises cube

-- the lemma that keeps states out of the cube
abbrev pub lemma_of : Depth → List StateLit → Lemma
lemma_of level cube = record { level = level; lits = map opposite cube }

-- whether a starting value makes a literal of the cube false
abbrev pub misses_start : Machine → List StateLit → Bool
misses_start m cube = true_at_start m (lemma_of All cube)

-- each state of the second cube lies in the first one
abbrev pub Includes : List StateLit → List StateLit → Type 0
Includes wide narrow = (state : List Bool) → in_cube state narrow ≡ true → in_cube state wide ≡ true
