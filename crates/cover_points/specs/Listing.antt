-- What listing the cover points of a design answers.
use Rattle.std.specs.Prelude.{ℕ, ◌≡◌, ◌<◌, ◌≤◌, List, [], ◌∷◌, ◌++◌, length, Result, Ok, Err}
use Rattle.design_core.specs.declared.flat.Design.{Design}
use Rattle.design_core.specs.declared.flat.Site.{Site}
use Rattle.design_core.specs.declared.setup.Setup.{Setup}
use Rattle.cover_points.specs.declared.error.PointError.{PointError}
use Rattle.cover_points.specs.declared.error.PointError.TheVariants.{TooMany, Memory}
use Rattle.cover_points.specs.declared.point.Point.{Point}
use Rattle.cover_points.specs.Points.{point_of, points_of}

-- these points are refused: there are more than 200,000 of them; nothing is said where memory ran out
abbrev pub Refuses : List Point → PointError → Type 0
Refuses points (TooMany number) = (200000 < length points) × (number ≡ 200001)
Refuses points Memory = Unit {0}

-- the answer for all of these points
abbrev pub ListsThese : List Point → Result (List Point) PointError → Type 0
ListsThese all (Ok points) = (points ≡ all) × (length all ≤ 200000)
ListsThese all (Err error) = Refuses all error

-- the answer for the points of a design
abbrev pub Lists : Design → Setup → Result (List Point) PointError → Type 0
Lists d setup answer = ListsThese (points_of d setup) answer

-- the answer of putting these points behind others
abbrev pub Adds : List Point → List Point → List Point → Result (Unit {0}) PointError → Type 0
Adds more old new (Ok done) = (new ≡ old ++ more) × (length new ≤ 200000)
Adds more old new (Err error) = Refuses (old ++ more) error

abbrev pub AddsOne : ℕ → Site → List Point → List Point → Result (Unit {0}) PointError → Type 0
AddsOne number site old new answer = Adds (point_of number site ∷ []) old new answer
