use Rattle.std.proofs.Common.{◌≡◌, ◌+◌, take, ◌∙◌, arith}
use Rattle.std.proofs.lemmas.List.{take_all}
use Rattle.sat_core.specs.Watching.{AreWatched}
use Rattle.sat_core.proofs.Propagations.{Propagates-trans, Within-extends, Within-less}
use Rattle.sat_core.proofs.WatchPairs.{AreWatched-fewer, Rewatches-trans}
use Rattle.sat_core.proofs.propagate.propagate.Goals as goal

pub returns-in-Some-clause-rewatches : goal.returns-in-Some-clause-rewatches
returns-in-Some-clause-rewatches c =
    Rewatches-trans
    c.args.clauses.now
    c.args.trail.now.falses
    c.loop-done.trail.falses
    c.args.watches.now
    c.loop-done.watches
    c.visit.new.watches
    (Within-extends c.args.trail.now c.loop-done.trail c.loop-done.invariant.propagates.extends)
    c.loop-done.invariant.rewatches
    c.in_ok-conflict.ensures.rewatches

pub returns-in-Some-clause-watched : goal.returns-in-Some-clause-watched
returns-in-Some-clause-watched c =
    AreWatched-fewer
    c.args.clauses.now
    c.visit.new.watches.pairs
    (take c.args.from c.visit.new.trail.falses)
    (take c.loop-done.done c.visit.new.trail.falses)
    c.visit.new.trail.falses
    (Within-less c.args.from c.loop-done.done c.visit.new.trail.falses c.loop-done.invariant.low)
    c.in_ok-conflict.ensures.watched

pub loop-done-preserved : goal.loop-done-preserved
loop-done-preserved c =
    let longer = c.in_ok-conflict.ensures.propagates.extends.longer in
    let watched : AreWatched c.args.clauses.now c.visit.new.watches.pairs (take (c.loop-done.done + 1) c.visit.new.trail.falses) c.visit.new.trail.falses =
    rw c.in_default.is at c.in_ok-conflict.ensures.found in
    record {
      propagates = Propagates-trans c.args.clauses.now c.args.trail.now c.loop-done.trail c.visit.new.trail c.loop-done.invariant.propagates c.in_ok-conflict.ensures.propagates;
      places = c.in_ok-conflict.ensures.places ∙ c.loop-done.invariant.places;
      low = omega (arith, c.loop-done.invariant.low);
      within = omega (arith, longer, c.len.ensures.value, c.loop-done-test.true);
      listed = c.in_ok-conflict.ensures.rewatches.listed c.loop-done.invariant.listed;
      rewatches =
          Rewatches-trans
          c.args.clauses.now
          c.args.trail.now.falses
          c.loop-done.trail.falses
          c.args.watches.now
          c.loop-done.watches
          c.visit.new.watches
          (Within-extends c.args.trail.now c.loop-done.trail c.loop-done.invariant.propagates.extends)
          c.loop-done.invariant.rewatches
          c.in_ok-conflict.ensures.rewatches;
      watched = watched;
    }

pub returns-clause-watched : goal.returns-clause-watched
returns-clause-watched c =
    AreWatched-fewer
    c.args.clauses.now
    c.loop-done.watches.pairs
    (take c.args.from c.loop-done.trail.falses)
    (take c.loop-done.done c.loop-done.trail.falses)
    c.loop-done.trail.falses
    (Within-less c.args.from c.loop-done.done c.loop-done.trail.falses c.loop-done.invariant.low)
    c.loop-done.invariant.watched

pub returns-clause-found : goal.returns-clause-found
returns-clause-found c =
    let all : take c.loop-done.done c.loop-done.trail.falses ≡ c.loop-done.trail.falses =
    take_all c.loop-done.done c.loop-done.trail.falses (omega (arith, c.len.ensures.value, c.loop-done-test.false)) in
    rw all at c.loop-done.invariant.watched
