-- Tables of the places of names.
use Rattle.std.specs.Prelude.{ℕ, List, [], ◌∷◌, ◌++◌, cond, unwrap_or}
use Rattle.std.specs.Map.{lookup}
use Rattle.std.specs.Option.{is_some}
use Rattle.std.specs.Str.{bytes_eq}
use Rattle.source_check.specs.declared.places.Places.{Places}

-- the place that a table gives to a name
abbrev pub place_in : Places → List ℕ → ℕ
place_in places name = unwrap_or (lookup (bytes_eq name) places.first.entries) places.count

-- a name gets this place, where it has none so far
abbrev pub with_place : List (List ℕ × ℕ) → List ℕ → ℕ → List (List ℕ × ℕ)
with_place entries name place = cond (is_some (lookup (bytes_eq name) entries)) entries (entries ++ (name, place) ∷ [])
