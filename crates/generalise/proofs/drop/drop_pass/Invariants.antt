use Rattle.std.proofs.Common.{◌≡◌, ◌-◌, length}
use Rattle.generalise.specs.Effort.{Uses}
use Rattle.generalise.proofs.Pass.{UnderWay}
use Rattle.generalise.proofs.drop.drop_pass.Given as goal

abbrev pub invariant-loop-at : goal.invariant-loop-at
invariant-loop-at g l = record {
  machine : g.A.Ask.machine l.ask ≡ g.A.Ask.machine l.fn.ask;
  frames : g.A.Ask.frames l.ask ≡ g.A.Ask.frames l.fn.ask;
  uses : Uses l.fn.units l.units;
  under_way : UnderWay (g.A.Ask.machine l.fn.ask) (g.A.Ask.frames l.fn.ask) l.level l.fn.cube l.cube l.at l.dropped;
}

abbrev pub decreases-loop-at : goal.decreases-loop-at
decreases-loop-at g l = length l.cube - l.at
