use Rattle.std.proofs.Common.{◌≡◌, ◌+◌, ◌||◌, false, Some, [], ◌∷◌, List, take, sym, ◌∙◌, ap, arith}
use Rattle.std.specs.Prelude.{reverse}
use Rattle.std.proofs.lemmas.List.{take_more, reverse-append}
use Rattle.cnf_core.specs.Literal.{Literal}
use Rattle.cnf_core.specs.Lrat.{clause_at, is_false, numbered}
use Rattle.cnf_core.proofs.Runs.{clause_at-numbered}
use Rattle.sat_core.specs.Assigned.{no_literal}
use Rattle.sat_core.specs.Trailed.{falsified_at, clause_in, IsReason}
use Rattle.sat_core.proofs.Closings.{Closing-skip, Closing-resolve}
use Rattle.sat_core.proofs.analysis.resolve.Goals as goal

pub returns-then-not-is_false-clause-closing : goal.returns-then-not-is_false-clause-closing
returns-then-not-is_false-clause-closing c closing =
    let falses = c.args.trail.now.falses in
    let unseen : is_false c.args.seen.now.falses (falsified_at c.args.trail.now c.args.at) ≡ false =
    ap (is_false c.args.seen.now.falses) (sym c.falsified.ensures.value) ∙ sym c.is_false.ensures ∙ c.if-not-is_false.true in
    Closing-skip
    (numbered 1 c.args.clauses.now)
    (take c.args.at c.args.trail.now.falses)
    c.args.seen.now.falses
    (falsified_at c.args.trail.now c.args.at)
    (reverse c.args.hints.now.items)
    (rw (take_more c.args.trail.now.falses c.args.at no_literal c.requires.there) at closing)
    unseen

pub number-requires : goal.number-requires
number-requires c =
    (c.requires.good.reasoned c.args.at c.in-Some.reason c.requires.there (sym c.reason.ensures ∙ c.in-Some.is)).there

pub get-requires : goal.get-requires
get-requires c =
    (c.requires.good.reasoned c.args.at c.in-Some.reason c.requires.there (sym c.reason.ensures ∙ c.in-Some.is)).there

pub returns-clause-closing : goal.returns-clause-closing
returns-clause-closing c closing =
    let r : IsReason c.args.clauses.now (take c.args.at c.args.trail.now.falses) (falsified_at c.args.trail.now c.args.at) c.in-Some.reason =
    c.requires.good.reasoned c.args.at c.in-Some.reason c.requires.there (sym c.reason.ensures ∙ c.in-Some.is) in
    let id : c.number.result ≡ 1 + c.in-Some.reason = omega (arith, c.number.ensures) in
    let there : clause_at (numbered 1 c.args.clauses.now) c.number.result ≡ Some (clause_in c.args.clauses.now c.in-Some.reason) =
    ap (clause_at (numbered 1 c.args.clauses.now)) id ∙ clause_at-numbered 1 c.args.clauses.now c.in-Some.reason r.there in
    let marked : (m : Literal) → is_false c.mark.new.seen.falses m ≡ (is_false c.args.seen.now.falses m || is_false (clause_in c.args.clauses.now c.in-Some.reason) m) =
    λ m. c.mark.ensures.marked m ∙ ap (λ (k : List Literal). is_false c.args.seen.now.falses m || is_false k m) c.get.ensures in
    let hints : reverse c.push.new.self.items ≡ c.number.result ∷ reverse c.args.hints.now.items =
    ap reverse c.in_ok-push.ensures.items ∙ reverse-append c.args.hints.now.items (c.number.result ∷ []) in
    rw
    hints
    (Closing-resolve
    (numbered 1 c.args.clauses.now)
    (take c.args.at c.args.trail.now.falses)
    c.args.seen.now.falses
    c.mark.new.seen.falses
    (clause_in c.args.clauses.now c.in-Some.reason)
    (falsified_at c.args.trail.now c.args.at)
    r.literal
    c.number.result
    (reverse c.args.hints.now.items)
    (rw (take_more c.args.trail.now.falses c.args.at no_literal c.requires.there) at closing)
    r.negation
    there
    r.unit
    marked)
