use Rattle.std.proofs.Common.{◌≡◌, ◌++◌, ◌≤◌, length, drop}
use Rattle.cover_points.specs.Points.{points_from}
use Rattle.cover_points.proofs.listing.add_points.Given as goal

abbrev pub invariant-loop-number : goal.invariant-loop-number
invariant-loop-number l = record {
  so_far : l.points ++ points_from l.kind l.number (drop l.number l.sites) ≡ l.initial.points ++ points_from l.kind 0 l.sites;
  few : length l.points ≤ 200000;
}
