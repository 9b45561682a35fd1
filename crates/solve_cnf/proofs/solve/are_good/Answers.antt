use Rattle.std.proofs.Common.{◌≡◌, ◌≢◌, ◌<◌, ◌≤◌, length, get_or, take, sym, ap, ◌∙◌, arith}
use Rattle.std.specs.Prelude.{All}
use Rattle.std.proofs.lemmas.List.{get_or_default, take_all}
use Rattle.std.proofs.lemmas.List.Elements.{All-more}
use Rattle.cnf_core.specs.Literal.{Literal}
use Rattle.sat_core.proofs.Lines.{good-more}
use Rattle.solve_cnf.proofs.Lits.{no_literal}
use Rattle.solve_cnf.proofs.solve.are_good.Goals as goal

pub loop-before-preserved : goal.loop-before-preserved
loop-before-preserved c =
    let lits = c.args.lits.now in
    let at_inside : c.loop-at.at < length lits = omega arith in
    let inside : c.loop-before.before < length lits = omega arith in
    let at_is : c.index-lits-at-in-loop-before.result ≡ get_or lits c.loop-at.at no_literal =
    c.index-lits-at-in-loop-before.is ∙ get_or_default lits c.loop-at.at c.index-lits-at-in-loop-before.result no_literal at_inside in
    let here_is : c.index-lits-before.result ≡ get_or lits c.loop-before.before no_literal =
    c.index-lits-before.is ∙ get_or_default lits c.loop-before.before c.index-lits-before.result no_literal inside in
    All-more
    (λ (m : Literal). m.variable ≢ (get_or lits c.loop-at.at no_literal).variable)
    lits
    c.loop-before.before
    no_literal
    inside
    c.loop-before.invariant
    (λ e. c.if-variable.false (
    c.variable-in-loop-before.ensures.value ∙ ap (λ (m : Literal). m.variable) here_is ∙ e
    ∙ sym (ap (λ (m : Literal). m.variable) at_is) ∙ sym c.variable-in-loop-before-2.ensures.value
    ))

pub loop-at-preserved : goal.loop-at-preserved
loop-at-preserved c =
    let lits = c.args.lits.now in
    let inside : c.loop-at.at < length lits = omega arith in
    let is : c.index-lits-at.result ≡ get_or lits c.loop-at.at no_literal =
    c.index-lits-at.is ∙ get_or_default lits c.loop-at.at c.index-lits-at.result no_literal inside in
    let same : c.index-lits-at.result.variable ≡ (get_or lits c.loop-at.at no_literal).variable = ap (λ (m : Literal). m.variable) is in
    let value = c.variable.ensures.value in
    let within : (get_or lits c.loop-at.at no_literal).variable ≤ c.args.vars = omega (arith, same, value, c.if-variable-vars.false) in
    let ended : c.loop-before.before ≡ c.loop-at.at = omega arith in
    let apart : All (λ (m : Literal). m.variable ≢ (get_or lits c.loop-at.at no_literal).variable) (take c.loop-at.at lits) = rw ended at c.loop-before.invariant in
    good-more c.args.vars lits c.loop-at.at no_literal inside c.loop-at.invariant within apart

pub returns : goal.returns
returns c good =
    let all : length c.args.lits.now ≤ c.loop-at.at = omega arith in
    rw (take_all c.loop-at.at c.args.lits.now all) at c.loop-at.invariant
