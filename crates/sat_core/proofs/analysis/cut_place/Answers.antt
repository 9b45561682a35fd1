use Rattle.std.proofs.Common.{◌≡◌, ◌+◌, ◌-◌, ◌<◌, ◌≤◌, true, inl, inr, length, sym, ◌∙◌, ap, arith}
use Rattle.std.proofs.lemmas.Bool.{cases_lt}
use Rattle.cnf_core.specs.Lrat.{is_false}
use Rattle.sat_core.specs.Trailed.{falsified_at, seen_from}
use Rattle.sat_core.proofs.Settled.{seen_from-more, length-seen}
use Rattle.sat_core.proofs.analysis.cut_place.Goals as goal

pub returns-then-count-gt1-clause-many : goal.returns-then-count-gt1-clause-many
returns-then-count-gt1-clause-many c d low lt e =
    let marked : is_false c.args.seen.now.falses (falsified_at c.args.trail.now (c.loop-at.at - 1)) ≡ true =
    ap (is_false c.args.seen.now.falses) (sym c.falsified.ensures.value) ∙ sym c.is_false.ensures ∙ c.if-is_false.true in
    let below : c.loop-at.at - 1 < c.args.to = omega arith in
    let here : length (seen_from c.args.seen.now.falses (c.loop-at.at - 1) c.args.to c.args.trail.now) ≡ length (seen_from c.args.seen.now.falses c.loop-at.at c.args.to c.args.trail.now) + 1 =
    length-seen c.args.seen.now.falses c.args.trail.now (c.loop-at.at - 1) c.loop-at.at c.args.to (omega arith) below c.requires.within marked in
    elim (cases_lt d c.loop-at.at) [
      | inl less ↦ (let le : d ≤ c.loop-at.at - 1 = omega arith in omega (arith, seen_from-more c.args.seen.now.falses c.args.trail.now d (c.loop-at.at - 1) c.args.to le, here, c.loop-at.invariant.counted, c.if-count-gt1.true))
      | inr more ↦ absurd (c.loop-at.invariant.none d more lt e)
    ]
