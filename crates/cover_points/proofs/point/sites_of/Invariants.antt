use Rattle.std.proofs.Common.{◌≡◌, map, take}
use Rattle.cover_points.specs.declared.point.Point.{Point}
use Rattle.cover_points.specs.Points.{site_of}
use Rattle.cover_points.proofs.point.sites_of.Given as goal

abbrev pub invariant-loop-point : goal.invariant-loop-point
invariant-loop-point l = l.sites.items ≡ map (λ (p : Point). site_of p.test) (take l.point-index l.points)
