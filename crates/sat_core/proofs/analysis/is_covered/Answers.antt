use Rattle.std.proofs.Common.{◌≡◌, ◌⊎◌, true, arith}
use Rattle.cnf_core.specs.Lrat.{is_false}
use Rattle.sat_core.proofs.Shortened.{Covered-more, Covered-all}
use Rattle.sat_core.proofs.analysis.is_covered.Goals as goal

pub loop-literal-preserved : goal.loop-literal-preserved
loop-literal-preserved c =
    let here : (is_false c.args.seen.now.falses c.literal-item.result ≡ true) ⊎ (c.literal-item.result.variable ≡ c.args.variable) =
    rw c.if-not-is_seen_or_of.false at c.is_seen_or_of.ensures in
    Covered-more
    c.args.seen.now.falses
    c.args.clause.now
    c.args.variable
    c.loop-literal.literal-index
    c.literal-item.result
    c.loop-literal-test.true
    c.literal-item.is
    here
    c.loop-literal.invariant

pub returns : goal.returns
returns c =
    Covered-all c.args.seen.now.falses c.args.clause.now c.args.variable c.loop-literal.literal-index (omega (arith, c.loop-literal-test.false)) c.loop-literal.invariant
