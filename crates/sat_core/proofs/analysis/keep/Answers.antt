use Rattle.std.proofs.Common.{◌≡◌, ◌+◌, ◌≤◌, false, true, Some, [], ◌∷◌, take, sym, ◌∙◌, ap, arith}
use Rattle.std.specs.Prelude.{reverse}
use Rattle.std.proofs.lemmas.List.{take_more, reverse-append}
use Rattle.std.proofs.lemmas.List.Elements.{All-push}
use Rattle.cnf_core.specs.Literal.{Literal}
use Rattle.cnf_core.specs.Lrat.{clause_at, is_false, numbered}
use Rattle.cnf_core.proofs.Runs.{clause_at-numbered}
use Rattle.sat_core.specs.Assigned.{no_literal}
use Rattle.sat_core.specs.Trailed.{falsified_at, clause_in, IsReason}
use Rattle.sat_core.proofs.Shortened.{Covered, Keep-unseen, Keep-kept, Keep-dropped, Within-push}
use Rattle.sat_core.proofs.analysis.keep.Goals as goal

pub returns-then-not-is_false-clause-closing : goal.returns-then-not-is_false-clause-closing
returns-then-not-is_false-clause-closing c to lt closing =
    let unseen : is_false c.args.seen.now.falses (falsified_at c.args.trail.now c.args.at) ≡ false =
    ap (is_false c.args.seen.now.falses) (sym c.falsified-literal.ensures.value) ∙ sym c.is_false.ensures ∙ c.if-not-is_false.true in
    Keep-unseen
    (numbered 1 c.args.clauses.now)
    (take to c.args.trail.now.falses)
    (take c.args.at c.args.trail.now.falses)
    c.args.seen.now.falses
    c.args.kept.now.items
    (falsified_at c.args.trail.now c.args.at)
    (reverse c.args.hints.now.items)
    unseen
    (rw (take_more c.args.trail.now.falses c.args.at no_literal c.requires.there) at closing)

pub get-requires : goal.get-requires
get-requires c =
    (c.requires.good.reasoned c.args.at c.in-Some.reason c.requires.there (sym c.reason.ensures ∙ c.in-Some.is)).there

pub number-id-requires : goal.number-id-requires
number-id-requires c =
    (c.requires.good.reasoned c.args.at c.in-Some.reason c.requires.there (sym c.reason.ensures ∙ c.in-Some.is)).there

pub returns-then-is_covered-clause-closing : goal.returns-then-is_covered-clause-closing
returns-then-is_covered-clause-closing c to lt closing =
    let r : IsReason c.args.clauses.now (take c.args.at c.args.trail.now.falses) (falsified_at c.args.trail.now c.args.at) c.in-Some.reason =
    c.requires.good.reasoned c.args.at c.in-Some.reason c.requires.there (sym c.reason.ensures ∙ c.in-Some.is) in
    let id : c.number-id.result ≡ 1 + c.in-Some.reason = omega (arith, c.number-id.ensures) in
    let there : clause_at (numbered 1 c.args.clauses.now) c.number-id.result ≡ Some (clause_in c.args.clauses.now c.in-Some.reason) =
    ap (clause_at (numbered 1 c.args.clauses.now)) id ∙ clause_at-numbered 1 c.args.clauses.now c.in-Some.reason r.there in
    let hints : reverse c.push.new.self.items ≡ c.number-id.result ∷ reverse c.args.hints.now.items =
    ap reverse c.in_ok-push.ensures.items ∙ reverse-append c.args.hints.now.items (c.number-id.result ∷ []) in
    let raw = rw c.if-is_covered.true at c.is_covered.ensures in
    let covered : Covered c.args.seen.now.falses (clause_in c.args.clauses.now c.in-Some.reason) (falsified_at c.args.trail.now c.args.at).variable =
    rw (c.get.ensures, c.variable.ensures.value, c.falsified-literal.ensures.value) at raw in
    rw
    hints
    (Keep-dropped
    c.args.trail.now.vars
    (numbered 1 c.args.clauses.now)
    c.args.trail.now.falses
    c.args.seen.now.falses
    c.args.kept.now.items
    (clause_in c.args.clauses.now c.in-Some.reason)
    c.args.at
    to
    r.literal
    c.number-id.result
    (reverse c.args.hints.now.items)
    c.requires.good.good_vars
    lt
    c.requires.there
    r.negation
    there
    r.unit
    covered
    closing)

pub returns-clause-within : goal.returns-clause-within
returns-clause-within c all =
    rw
    c.in_ok-push-2.ensures.items
    (All-push (λ (l : Literal). l.variable ≤ c.args.trail.now.vars) c.args.kept.now.items c.falsified-literal.result all c.falsified-literal.ensures.within)

pub returns-clause-seen : goal.returns-clause-seen
returns-clause-seen c within =
    let seen : is_false c.args.seen.now.falses c.falsified-literal.result ≡ true = sym c.is_false.ensures ∙ c.if-not-is_false.false in
    rw c.in_ok-push-2.ensures.items (Within-push c.args.kept.now.items c.args.seen.now.falses c.falsified-literal.result seen within)

pub returns-clause-closing : goal.returns-clause-closing
returns-clause-closing c to lt closing =
    rw
    (c.in_ok-push-2.ensures.items, c.falsified-literal.ensures.value)
    (Keep-kept
    (numbered 1 c.args.clauses.now)
    (take to c.args.trail.now.falses)
    (take c.args.at c.args.trail.now.falses)
    c.args.seen.now.falses
    c.args.kept.now.items
    (falsified_at c.args.trail.now c.args.at)
    (reverse c.args.hints.now.items)
    (rw (take_more c.args.trail.now.falses c.args.at no_literal c.requires.there) at closing))
