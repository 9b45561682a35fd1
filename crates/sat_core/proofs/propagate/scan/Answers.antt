use Rattle.std.proofs.Common.{◌≡◌, ◌+◌, ◌-◌, ◌<◌, cond, ◌∷◌, drop, get_or, length, sym, ◌∙◌, ap, arith}
use Rattle.std.proofs.lemmas.List.{get_or_default}
use Rattle.std.specs.Prelude.{option_to_list}
use Rattle.cnf_core.specs.Lrat.{open_lits}
use Rattle.sat_core.specs.Assigned.{no_literal}
use Rattle.sat_core.proofs.WatchPairs.{AreOpen-scan, open_lits-drop}
use Rattle.sat_core.proofs.propagate.scan.Goals as goal

pub returns-in-Some : goal.returns-in-Some
returns-in-Some c =
    let inside : c.loop-at.at - 1 < length c.args.clause.now = omega (arith, c.loop-at.invariant.within, c.loop-at-test.true) in
    let next : (c.loop-at.at - 1) + 1 ≡ c.loop-at.at = omega (arith, c.loop-at-test.true) in
    AreOpen-scan
    c.args.trail.now.falses
    c.args.clause.now
    (c.loop-at.at - 1)
    (record { first = c.index-clause-at.result; second = c.in-Some.second })
    inside
    (ap (λ n. open_lits c.args.trail.now.falses (drop n c.args.clause.now)) next ∙ c.loop-at.invariant.open_ones ∙ ap option_to_list c.in-Some.is)
    (c.index-clause-at.is ∙ get_or_default c.args.clause.now (c.loop-at.at - 1) c.index-clause-at.result no_literal inside)
    (sym c.is_false.ensures ∙ c.if-not-is_false.true)

pub loop-at-preserved : goal.loop-at-preserved
loop-at-preserved c =
    let inside : c.loop-at.at - 1 < length c.args.clause.now = omega (arith, c.loop-at.invariant.within, c.loop-at-test.true) in
    let next : (c.loop-at.at - 1) + 1 ≡ c.loop-at.at = omega (arith, c.loop-at-test.true) in
    let item : c.index-clause-at.result ≡ get_or c.args.clause.now (c.loop-at.at - 1) no_literal =
    c.index-clause-at.is ∙ get_or_default c.args.clause.now (c.loop-at.at - 1) c.index-clause-at.result no_literal inside in
    record {
      within = omega (arith, c.loop-at.invariant.within);
      open_ones =
          open_lits-drop c.args.trail.now.falses c.args.clause.now (c.loop-at.at - 1) c.index-clause-at.result inside item
          ∙ ap
          (λ b. cond b (open_lits c.args.trail.now.falses (drop ((c.loop-at.at - 1) + 1) c.args.clause.now)) (c.index-clause-at.result ∷ open_lits c.args.trail.now.falses (drop ((c.loop-at.at - 1) + 1) c.args.clause.now)))
          (sym c.is_false.ensures ∙ c.if-not-is_false.false)
          ∙ ap (λ n. open_lits c.args.trail.now.falses (drop n c.args.clause.now)) next
          ∙ c.loop-at.invariant.open_ones;
    }
