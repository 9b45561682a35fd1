-- The points of a design are of its sites.
use Rattle.std.proofs.Common.{ℕ, ◌+◌, ◌<◌, ◌≤◌, Bool, true, false, cond, List, [], ◌∷◌, length, arith}
use Rattle.std.specs.Prelude.{All}
use Rattle.std.proofs.lemmas.List.Elements.{All-nil, All-cons, All-append}
use Rattle.design_core.specs.declared.flat.Design.{Design}
use Rattle.design_core.specs.declared.flat.Site.{Site}
use Rattle.design_core.specs.declared.setup.Setup.{Setup}
use Rattle.cover_points.specs.declared.listing.PointKind.{PointKind}
use Rattle.cover_points.specs.declared.listing.PointKind.TheVariants.{Statement, Branch}
use Rattle.cover_points.specs.declared.point.Point.{Point}
use Rattle.cover_points.specs.Points.{is_of, point_of, points_from, points_of, IsSiteBelow}

-- the site of the point is one of so many
abbrev Below : ℕ → Point → Type 0
Below bound p = IsSiteBelow bound p.test

one_more : (kind : PointKind) (s : Site) (ss : List Site) (n bound : ℕ) (b : Bool) → n < bound → All (Below bound) (points_from kind (n + 1) ss) →
    All (Below bound) (cond b (point_of n s ∷ points_from kind (n + 1) ss) (points_from kind (n + 1) ss))
one_more kind s ss n bound true lt rest = All-cons (Below bound) (point_of n s) (points_from kind (n + 1) ss) lt rest
one_more kind s ss n bound false lt rest = rest

points_below : (kind : PointKind) (sites : List Site) (n bound : ℕ) → n + length sites ≤ bound → All (Below bound) (points_from kind n sites)
points_below kind [] n bound room = All-nil (Below bound)
points_below kind (s ∷ ss) n bound room = one_more kind s ss n bound (is_of kind s.kind) (omega arith) (points_below kind ss (n + 1) bound (omega arith))

abbrev chosen : PointKind → Bool → List Site → List Point
chosen kind b sites = cond b (points_from kind 0 sites) []

chosen_below : (kind : PointKind) (b : Bool) (sites : List Site) → All (Below (length sites)) (chosen kind b sites)
chosen_below kind true sites = points_below kind sites 0 (length sites) (omega arith)
chosen_below kind false sites = All-nil (Below (length sites))

pub points_of_sites : (d : Design) (setup : Setup) → All (λ (p : Point). IsSiteBelow (length d.sites) p.test) (points_of d setup)
points_of_sites d setup =
    All-append (Below (length d.sites)) (chosen Statement setup.kinds.s d.sites) (chosen Branch setup.kinds.b d.sites)
    (chosen_below Statement setup.kinds.s d.sites) (chosen_below Branch setup.kinds.b d.sites)
