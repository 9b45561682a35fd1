-- Flags of the sites that are passed.
use Rattle.std.specs.Prelude.{ℕ, Bool, true, List, [], ◌∷◌, slice_set}

-- the flags, with those of these sites up
abbrev pub flagged : List ℕ → List Bool → List Bool
flagged [] flags = flags
flagged (site ∷ sites) flags = flagged sites (slice_set flags site true)
