-- Lemmas of frames at the levels of a ladder.
use Rattle.std.specs.Prelude.{ℕ, min, ◌==◌, List, [], filter, map, if◌then◌else◌}
use Rattle.bit_system.specs.declared.ladder.Depth.{Depth}
use Rattle.bit_system.specs.declared.ladder.Depth.TheVariants.{All, Steps}
use Rattle.bit_system.specs.declared.ladder.Lemma.{Lemma}
use Rattle.bit_system.specs.Ladders.{is_at_least}

abbrev pub at_level : Depth → Lemma → Lemma
at_level level l = record l { level = level }

-- the lemmas of this level and above, for any number of steps
abbrev pub all_for_ever : ℕ → List Lemma → List Lemma
all_for_ever level lemmas = map (at_level All) (filter (λ l. is_at_least l.level (Steps level)) lemmas)

-- the level, or the top where it is above that
abbrev pub capped : ℕ → Depth → Depth
capped top All = Steps top
capped top (Steps n) = Steps (min n top)

-- the lemmas with levels up to the top
abbrev pub all_capped : ℕ → List Lemma → List Lemma
all_capped top lemmas = if top == 0 then [] else map (λ l. at_level (capped top l.level) l) lemmas
