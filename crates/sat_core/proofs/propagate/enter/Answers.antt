use Rattle.std.proofs.Common.{◌≡◌, ◌+◌, length, ◌∙◌, sym}
use Rattle.sat_core.proofs.Entries.{IsEntered-trans}
use Rattle.sat_core.proofs.Propagations.{Propagates-trans, Within-extends}
use Rattle.sat_core.proofs.propagate.enter.Goals as goal

pub returns-then-not-branch-clause-entered : goal.returns-then-not-branch-clause-entered
returns-then-not-branch-clause-entered c =
    IsEntered-trans
    c.args.clauses.now
    c.args.trail.now.falses
    c.loop-at.trail.falses
    c.enter_next.new.trail.falses
    c.args.watches.now
    c.loop-at.watches
    c.enter_next.new.watches
    (Within-extends c.args.trail.now c.loop-at.trail c.loop-at.invariant.propagates.extends)
    c.loop-at.invariant.entered
    c.in_ok-enter_next.ensures.entered

pub loop-at-preserved : goal.loop-at-preserved
loop-at-preserved c =
    let next : length c.enter_next.new.watches.pairs ≡ c.loop-at.at + 1 = rw c.if-not-branch.false at c.in_ok-enter_next.ensures.next in
    record {
      vars = c.note_all.ensures ∙ c.loop-at.invariant.vars;
      propagates = Propagates-trans c.args.clauses.now c.args.trail.now c.loop-at.trail c.enter_next.new.trail c.loop-at.invariant.propagates c.in_ok-enter_next.ensures.propagates;
      places = c.in_ok-enter_next.ensures.places ∙ c.loop-at.invariant.places;
      next = sym next;
      entered =
          IsEntered-trans
          c.args.clauses.now
          c.args.trail.now.falses
          c.loop-at.trail.falses
          c.enter_next.new.trail.falses
          c.args.watches.now
          c.loop-at.watches
          c.enter_next.new.watches
          (Within-extends c.args.trail.now c.loop-at.trail c.loop-at.invariant.propagates.extends)
          c.loop-at.invariant.entered
          c.in_ok-enter_next.ensures.entered;
    }
