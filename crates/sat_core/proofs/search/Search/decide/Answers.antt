use Rattle.std.proofs.Common.{◌≡◌, ◌<◌, false, None, ap, ◌∙◌}
use Rattle.cnf_core.specs.Literal.{Literal, negated}
use Rattle.cnf_core.specs.Lrat.{is_false}
use Rattle.sat_core.specs.Trailed.{Trailed, Good, IsFree, pushed}
use Rattle.sat_core.proofs.Sets.{negated-negated}
use Rattle.sat_core.proofs.Steps.{Searched-decide}
use Rattle.sat_core.proofs.Trails.{Good-push}
use Rattle.sat_core.proofs.search.Search.decide.Goals as goal

pub returns-in_ok-push-in-Some-clause-searched : goal.returns-in_ok-push-in-Some-clause-searched
returns-in_ok-push-in-Some-clause-searched c =
    let t : Trailed = c.args.self.now.trail in
    let clauses = c.args.self.now.clauses in
    let l : Literal = c.in-Some.literal in
    let free : IsFree t.vars t.falses l = rw c.in-Some.is at c.in_ok-choose.ensures.chosen in
    let pushes : c.push.new.self ≡ pushed t (negated l) None = c.in_ok-push-in-Some.ensures.ok ∙ ap (λ (x : Literal). pushed t x None) c.negated.ensures in
    let positive : 0 < l.variable = rw c.negated.ensures at c.in_ok-push-in-Some.ensures.positive in
    let not_false : is_false t.falses (negated (negated l)) ≡ false = ap (is_false t.falses) (negated-negated l) ∙ free.not_false in
    let good : Good clauses (pushed t (negated l) None) = Good-push clauses t (negated l) None c.requires.searched.good free.within positive free.not_true not_false (λ k e. absurd cc) in
    rw pushes (Searched-decide clauses t c.args.self.now.watches c.args.self.now.done c.args.assumptions.now (negated l) c.requires.searched c.requires.complete good)
