use Rattle.std.proofs.Common.{◌≡◌, ◌+◌, ◌-◌, ◌<◌, length, get_or, subst, ◌∙◌, arith, rules}
use Rattle.std.proofs.lemmas.List.{get_or_default}
use Rattle.plain_blast.specs.declared.bodies.Passed.{Passed}
use Rattle.plain_blast.proofs.ChainLaws.{Linked, linked_none, linked_more}
use Rattle.plain_blast.proofs.points.link.Goals as goal

pub loop-i-init : goal.loop-i-init
loop-i-init c =
    linked_none c.args.paths.now c.in_ok-first.first.items c.in_ok-next.next.items c.site_bound.result (length c.args.paths.now - 0) c.site_bound.ensures (search rules) (search rules) (omega arith)

pub loop-i-preserved : goal.loop-i-preserved
loop-i-preserved c =
    let n = length c.args.paths.now in
    let k = n - 1 - c.loop-i.i in
    let lt : k < n = omega arith in
    let p : Passed = get_or c.args.paths.now k (record { site = 0; path = 0 }) in
    let one : n - c.loop-i.i ≡ k + 1 = omega arith in
    let same : k ≡ n - (c.loop-i.i + 1) = omega arith in
    let made : c.index.result.now ≡ get_or c.loop-i.first.items p.site n = c.index.ensures ∙ get_or_default c.loop-i.first.items p.site c.index.result.now n (c.loop-i.invariant.within k _ lt) in
    subst (Linked c.args.paths.now _ _) same (linked_more c.args.paths.now c.loop-i.first.items c.loop-i.next.items (n - c.loop-i.i) k p c.loop-i.invariant one lt (get_or_default c.args.paths.now k _ p lt) c.index.result.now made)
