use Rattle.std.proofs.Common.{◌≡◌, ◌<◌, ◌≤◌, true, false, ◌||◌, [], ◌∷◌, ◌++◌, sym, ap, ◌∙◌}
use Rattle.std.specs.Prelude.{All}
use Rattle.cnf_core.specs.Literal.{Literal, negated}
use Rattle.cnf_core.specs.Lrat.{is_false, open_lits}
use Rattle.sat_core.specs.Trailed.{Trailed, clause_in}
use Rattle.sat_core.proofs.Lines.{unit-within}
use Rattle.sat_core.proofs.Propagations.{Propagates-push}
use Rattle.sat_core.proofs.Sets.{negated-negated, open_lits-head, is_false-push, same-refl, or-true}
use Rattle.sat_core.proofs.WatchPairs.{satisfied-has, unit-in}
use Rattle.sat_core.proofs.propagate.settle.Goals as goal

pub is_false-requires : goal.is_false-requires
is_false-requires c =
    let within : All (λ (l : Literal). l.variable ≤ c.args.trail.now.vars) c.get.result.now = rw c.get.ensures (c.requires.vars c.args.at [] c.requires.there) in
    rw c.negated.ensures (unit-within c.args.trail.now.vars c.args.trail.now.falses c.get.result.now c.in-One.literal within c.in-One.ensures)

pub returns-then-is_false-clause-settled : goal.returns-then-is_false-clause-settled
returns-then-is_false-clause-settled c =
    let l : Literal = c.in-One.literal in
    let unit : open_lits c.args.trail.now.falses (clause_in c.args.clauses.now c.args.at) ≡ l ∷ [] = rw (← c.get.ensures) c.in-One.ensures in
    let negation : is_false c.args.trail.now.falses (negated l) ≡ true = ap (is_false c.args.trail.now.falses) (sym c.negated.ensures) ∙ sym c.is_false.ensures ∙ c.if-is_false.true in
    satisfied-has c.args.trail.now.falses (clause_in c.args.clauses.now c.args.at) l (unit-in c.args.trail.now.falses (clause_in c.args.clauses.now c.args.at) l unit) negation

pub push-requires-clause-within : goal.push-requires-clause-within
push-requires-clause-within c =
    let within : All (λ (l : Literal). l.variable ≤ c.args.trail.now.vars) c.get.result.now = rw c.get.ensures (c.requires.vars c.args.at [] c.requires.there) in
    rw c.negated-in-One.ensures (unit-within c.args.trail.now.vars c.args.trail.now.falses c.get.result.now c.in-One.literal within c.in-One.ensures)

pub returns-in_ok-push-in-One-clause-propagates : goal.returns-in_ok-push-in-One-clause-propagates
returns-in_ok-push-in-One-clause-propagates c =
    let t : Trailed = c.args.trail.now in
    let l : Literal = c.in-One.literal in
    let within : All (λ (m : Literal). m.variable ≤ t.vars) c.get.result.now = rw c.get.ensures (c.requires.vars c.args.at [] c.requires.there) in
    let unit : open_lits t.falses (clause_in c.args.clauses.now c.args.at) ≡ l ∷ [] = rw (← c.get.ensures) c.in-One.ensures in
    let low : l.variable ≤ t.vars = unit-within t.vars t.falses c.get.result.now l within c.in-One.ensures in
    let positive : 0 < l.variable = rw c.negated-in-One.ensures at c.in_ok-push-in-One.ensures.positive in
    let apart : is_false t.falses (negated l) ≡ false = ap (is_false t.falses) (sym c.negated.ensures) ∙ sym c.is_false.ensures ∙ c.if-is_false.false in
    let apart_too : is_false t.falses (negated (negated l)) ≡ false = ap (is_false t.falses) (negated-negated l) ∙ open_lits-head t.falses (clause_in c.args.clauses.now c.args.at) l [] unit in
    rw (c.in_ok-push-in-One.ensures.ok, c.negated-in-One.ensures) (Propagates-push c.args.clauses.now t l c.args.at c.requires.good c.requires.there unit low positive apart apart_too)

pub returns-in_ok-push-in-One-clause-settled : goal.returns-in_ok-push-in-One-clause-settled
returns-in_ok-push-in-One-clause-settled c =
    let t : Trailed = c.args.trail.now in
    let l : Literal = c.in-One.literal in
    let unit : open_lits t.falses (clause_in c.args.clauses.now c.args.at) ≡ l ∷ [] = rw (← c.get.ensures) c.in-One.ensures in
    let here : is_false (t.falses ++ negated l ∷ []) (negated l) ≡ true =
    is_false-push t.falses (negated l) (negated l) ∙ ap (λ b. is_false t.falses (negated l) || b) (same-refl (negated l)) ∙ or-true (is_false t.falses (negated l)) in
    rw
    (c.in_ok-push-in-One.ensures.ok, c.negated-in-One.ensures)
    (satisfied-has (t.falses ++ negated l ∷ []) (clause_in c.args.clauses.now c.args.at) l (unit-in t.falses (clause_in c.args.clauses.now c.args.at) l unit) here)
