use Rattle.std.proofs.Common.{◌≡◌, ◌+◌, ◌-◌, ◌<◌, ◌||◌, List, take, sym, ◌∙◌, ap, arith}
use Rattle.std.specs.Prelude.{reverse}
use Rattle.cnf_core.specs.Literal.{Literal}
use Rattle.cnf_core.specs.Lrat.{is_false, numbered}
use Rattle.sat_core.specs.Assigned.{Assigned}
use Rattle.sat_core.proofs.Shortened.{Keep-start, Keep-end}
use Rattle.sat_core.proofs.analysis.shorten.Goals as goal

pub loop-at-init : goal.loop-at-init
loop-at-init c = record {
  low = omega arith;
  within = rw c.new-kept.ensures.items (λ k d h. absurd (omega arith));
  seen = rw c.new-kept.ensures.items (λ m e. absurd cc);
  closing = λ closing. rw c.new-kept.ensures.items (Keep-start (numbered 1 c.args.clauses.now) (take c.args.to c.args.trail.now.falses) c.args.seen.now.falses (reverse c.args.hints.now.items) closing);
}

pub loop-at-preserved : goal.loop-at-preserved
loop-at-preserved c =
    let before : c.loop-at.at - 1 < c.args.to = omega (arith, c.loop-at.invariant.low, c.loop-at-test.true) in
    let next : (c.loop-at.at - 1) + 1 ≡ c.loop-at.at = omega (arith, c.loop-at-test.true) in
    record {
      low = omega arith;
      within = c.in_ok-keep.ensures.within c.loop-at.invariant.within;
      seen = c.in_ok-keep.ensures.seen c.loop-at.invariant.seen;
      closing = λ closing. c.in_ok-keep.ensures.closing c.args.to before (rw next (c.loop-at.invariant.closing closing));
    }

pub returns-clause-fewer : goal.returns-clause-fewer
returns-clause-fewer c m e =
    let marked : is_false c.mark.new.seen.falses m ≡ is_false c.loop-at.kept.items m =
    c.mark.ensures.marked m
    ∙ ap (λ (a : Assigned). is_false a.falses m || is_false c.deref.result.now m) c.clear.ensures
    ∙ ap (λ (ls : List Literal). is_false ls m) c.deref.ensures.value in
    c.loop-at.invariant.seen m (sym marked ∙ e)

pub returns-clause-closing : goal.returns-clause-closing
returns-clause-closing c closing =
    Keep-end
    (numbered 1 c.args.clauses.now)
    (take c.args.to c.args.trail.now.falses)
    c.args.trail.now.falses
    c.args.seen.now.falses
    c.loop-at.kept.items
    c.mark.new.seen.falses
    c.loop-at.at
    (reverse c.loop-at.hints.items)
    (omega (arith, c.loop-at-test.false))
    (λ m e.
    c.mark.ensures.marked m
    ∙ ap (λ (a : Assigned). is_false a.falses m || is_false c.deref.result.now m) c.clear.ensures
    ∙ ap (λ (ls : List Literal). is_false ls m) c.deref.ensures.value
    ∙ e)
    (c.loop-at.invariant.closing closing)
