-- Places in a text: lines are counted by line feeds, columns by bytes, both from 1.
use Rattle.std.specs.Prelude.{ℕ, ◌+◌, ◌==◌, List, [], ◌∷◌, if◌then◌else◌}
use Rattle.word_core.specs.declared.place.Place.{Place}

-- the place of a text's first byte
abbrev pub start : Place
start = record { line = 1; col = 1 }

-- the place behind a byte
abbrev pub step : Place → ℕ → Place
step at b = if b == 10 then record { line = at.line + 1; col = 1 } else record { line = at.line; col = at.col + 1 }

-- the place behind some bytes
abbrev pub past : Place → List ℕ → Place
past at [] = at
past at (b ∷ bs) = past (step at b) bs
