-- Which designs of texts are accepted.
use Rattle.std.specs.Prelude.{ℕ, ◌≡◌, ◌<◌, ◌≤◌, ◌^◌, List, [], length, Result, Ok, Err}
use Rattle.vlog_syntax.specs.declared.module.Tree.{Tree}
use Rattle.design_core.specs.declared.flat.Design.{Design}
use Rattle.design_core.specs.declared.setup.Setup.{Setup}
use Rattle.design_core.specs.Ordered.{Ordered}
use Rattle.design_core.specs.Legality.{IsLegal}
use Rattle.bit_exprs.specs.Cost.{capped}
use Rattle.plain_blast.specs.Cost.{cost_of}
use Rattle.source_check.specs.declared.error.SourceError.{SourceError}
use Rattle.source_check.specs.declared.error.SourceError.TheVariants.{Text, NotBuilt, CostOver, Points, Memory}
use Rattle.cover_points.specs.declared.error.PointError.{PointError}
use Rattle.cover_points.specs.declared.error.PointError.TheVariants as point_error
use Rattle.cover_points.specs.declared.point.Point.{Point}
use Rattle.cover_points.specs.Points.{points_of}
use Rattle.elab_flat.specs.Designs.{IsDesignOf, HasDesign, first_place}

-- the text's design, which doesn't cost too much
pub record IsAffordable (tree : Tree) (setup : Setup) (d : Design) : Type 0 where
  pub design : IsDesignOf tree setup d
  pub cheap : cost_of d ≤ 4194304

-- the text's design, which neither costs too much nor has too many cover points
pub record IsElaborated (tree : Tree) (setup : Setup) (d : Design) : Type 0 where
  pub design : IsDesignOf tree setup d
  pub cheap : cost_of d ≤ 4194304
  pub few : length (points_of d setup) ≤ 200000

-- the text's design costs more than it may, and this is what it costs
abbrev pub TooCostly : Tree → Setup → ℕ → Type 0
TooCostly tree setup cost = (d : Design) × IsDesignOf tree setup d × (4194304 < cost_of d) × (cost ≡ capped (cost_of d))

-- The answer of elaboration: a legal design that is the text's, without combinational processes to put in order; or that there is no
-- design, or one that costs too much. Nothing where memory ran out.
abbrev pub Elaborates : Tree → Setup → Result Ordered SourceError → Type 0
Elaborates tree setup (Ok legal) =
    IsAffordable tree setup legal.design × (legal.order ≡ []) × (length legal.design.sites < 2 ^ 32) × IsLegal legal.design legal.order
Elaborates tree setup (Err (NotBuilt at)) = (HasDesign tree setup → ⊥) × (at ≡ first_place tree)
Elaborates tree setup (Err (CostOver cost)) = TooCostly tree setup cost
Elaborates tree setup (Err (Text error)) = ⊥
Elaborates tree setup (Err (Points error)) = ⊥
Elaborates tree setup (Err Memory) = Unit {0}

-- ---- cover points

-- the text's design has more than 200,000 cover points, and this is said; want of memory is the whole call's
abbrev pub TooManyPoints : Tree → Setup → PointError → Type 0
TooManyPoints tree setup (point_error.TooMany number) = (d : Design) × IsAffordable tree setup d × (200000 < length (points_of d setup)) × (number ≡ 200001)
TooManyPoints tree setup point_error.Memory = ⊥

-- The answer of listing a design's cover points: the list, or that there are too many. Nothing where memory ran out.
abbrev pub ListsPoints : Design → Setup → Result (List Point) SourceError → Type 0
ListsPoints d setup (Ok points) = (points ≡ points_of d setup) × (length (points_of d setup) ≤ 200000)
ListsPoints d setup (Err (Points (point_error.TooMany number))) = (200000 < length (points_of d setup)) × (number ≡ 200001)
ListsPoints d setup (Err (Points point_error.Memory)) = ⊥
ListsPoints d setup (Err (Text error)) = ⊥
ListsPoints d setup (Err (NotBuilt at)) = ⊥
ListsPoints d setup (Err (CostOver cost)) = ⊥
ListsPoints d setup (Err Memory) = Unit {0}
