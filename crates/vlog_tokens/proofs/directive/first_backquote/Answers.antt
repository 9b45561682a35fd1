use Rattle.std.proofs.Common.{◌≡◌, ◌<◌, ℕ, List, length, sym, ◌∙◌, ap, subst, arith}
use Rattle.vlog_tokens.specs.declared.directive.Scan.{Scan}
use Rattle.vlog_tokens.specs.declared.directive.Scan.TheVariants.{Skip, Quote, Rest}
use Rattle.vlog_tokens.specs.Directives.{scan}
use Rattle.vlog_tokens.specs.Places.{past}
use Rattle.vlog_tokens.proofs.Scanning.{IsScan, scan_of_some, scan_turn, quote_found, rest_hidden, none_found}
use Rattle.vlog_tokens.proofs.directive.first_backquote.Goals as goal

meant : (text : List ℕ) (s : Scan) → 0 < length text → s ≡ scan text → IsScan text s
meant text s h e = subst (λ z. IsScan text z) (sym e) (scan_of_some text h)

pub loop-rest-preserved : goal.loop-rest-preserved
loop-rest-preserved c =
    let rest = c.loop-rest.rest.now in
    let n = c.in-Skip.length in
    let some : 0 < length c.loop-rest.rest.now = omega arith in
    scan_turn c.args.text.now c.loop-rest.at _ rest _ n (c.past-at.ensures ∙ ap (past c.loop-rest.at) c.split_at.ensures.front) c.split_at.ensures.back c.loop-rest.invariant (meant rest (Skip n) some c.in-Skip.ensures.value)

pub returns-in-Quote : goal.returns-in-Quote
returns-in-Quote c =
    let some : 0 < length c.loop-rest.rest.now = omega arith in
    quote_found c.args.text.now c.loop-rest.at c.loop-rest.rest.now c.loop-rest.invariant (meant c.loop-rest.rest.now Quote some c.in-Quote.ensures.value)

pub returns-in-Rest : goal.returns-in-Rest
returns-in-Rest c =
    let some : 0 < length c.loop-rest.rest.now = omega arith in
    rest_hidden c.args.text.now c.loop-rest.at c.loop-rest.rest.now c.loop-rest.invariant (meant c.loop-rest.rest.now Rest some c.in-Rest.ensures.value)

pub returns : goal.returns
returns c = none_found c.args.text.now c.loop-rest.at c.loop-rest.rest.now c.loop-rest.invariant c.in_default.len_below
