use Rattle.std.proofs.Common.{[], length, get_or, ap, ◌∙◌, arith}
use Rattle.std.proofs.lemmas.List.{get_or_default}
use Rattle.std.proofs.lemmas.List.Elements.{Contains-get_or}
use Rattle.settle_order.specs.declared.search.Step.{Step}
use Rattle.settle_order.specs.Nodes.{node_at}
use Rattle.settle_order.specs.Loops.{Feeds}
use Rattle.settle_order.specs.Search.{step_at}
use Rattle.settle_order.proofs.Tables.{drives_exist}
use Rattle.settle_order.proofs.Searching.{expands_found, expands_all, expands_none, expanding_seen, expanding_new}
use Rattle.settle_order.proofs.search.expand.Goals as goal
use Rattle.settle_order.proofs.search.expand.Goals.{then-not-seen-need+in_ok-push, else-not-seen-need}

pub returns-in_default : goal.returns-in_default
returns-in_default c =
    let nodes = c.args.nodes.now in
    let bit = ap (λ (t : Step). t.bit) (c.index.ensures ∙ get_or_default c.args.steps.now.items c.args.at c.index.result.now (record { bit = 0; toward = 0 }) c.requires.at) in
    expands_none nodes c.args.c (length c.args.table.now) c.args.at c.args.seen.now c.args.steps.now.items c.requires.searched c.requires.at
    (λ x f. c.in_default.not-Some f.by (rw bit (c.requires.table.each f.by _ (drives_exist nodes f.by _ f.drives) f.drives)))

pub bounds-nodes-driver : goal.bounds-nodes-driver
bounds-nodes-driver c = drives_exist c.args.nodes.now c.in-Some.driver _ (c.requires.table.drives c.in-Some.driver _ c.in-Some.is)

pub returns-then-need-c : goal.returns-then-need-c
returns-then-need-c c =
    let nodes = c.args.nodes.now in
    let bit = ap (λ (t : Step). t.bit) (c.index.ensures ∙ get_or_default c.args.steps.now.items c.args.at c.index.result.now (record { bit = 0; toward = 0 }) c.requires.at) in
    let drives = c.requires.table.drives c.in-Some.driver _ c.in-Some.is in
    let node = get_or_default nodes c.in-Some.driver c.index-nodes-driver.result (record { needs = []; drives = [] }) (drives_exist nodes c.in-Some.driver _ drives) in
    let low = rw (c.as_slice-need-items.ensures, node) at c.loop-need-test.true in
    let is = rw (c.as_slice-need-items.ensures, node) at c.if-need-c.true in
    let need = rw is at (Contains-get_or (node_at nodes c.in-Some.driver).needs c.loop-need.need-index 0 low) in
    expands_found nodes c.args.c (length c.args.table.now) c.args.at (node_at nodes c.in-Some.driver).needs c.args.seen.now c.args.steps.now.items c.loop-need.need-index c.loop-need.seen c.loop-need.steps.items c.loop-need.invariant
    (record { by = c.in-Some.driver; needs = need; drives = rw bit at drives })

pub bounds-seen-need : goal.bounds-seen-need
bounds-seen-need c =
    let exists = drives_exist c.args.nodes.now c.in-Some.driver _ (c.requires.table.drives c.in-Some.driver _ c.in-Some.is) in
    let node = get_or_default c.args.nodes.now c.in-Some.driver c.index-nodes-driver.result (record { needs = []; drives = [] }) exists in
    let low = rw (c.as_slice-need-items.ensures, node) at c.loop-need-test.true in
    rw (c.as_slice-need-items.ensures, node, c.loop-need.invariant.searched.size) (c.requires.net.needed c.in-Some.driver _ (Contains-get_or (node_at c.args.nodes.now c.in-Some.driver).needs c.loop-need.need-index 0 low))

pub bounds-seen-need-then-not-seen-need : goal.bounds-seen-need-then-not-seen-need
bounds-seen-need-then-not-seen-need c =
    let exists = drives_exist c.args.nodes.now c.in-Some.driver _ (c.requires.table.drives c.in-Some.driver _ c.in-Some.is) in
    let node = get_or_default c.args.nodes.now c.in-Some.driver c.index-nodes-driver.result (record { needs = []; drives = [] }) exists in
    let low = rw (c.as_slice-need-items.ensures, node) at c.loop-need-test.true in
    rw (c.as_slice-need-items.ensures, node, c.loop-need.invariant.searched.size) (c.requires.net.needed c.in-Some.driver _ (Contains-get_or (node_at c.args.nodes.now c.in-Some.driver).needs c.loop-need.need-index 0 low))

pub loop-need-preserved : goal.loop-need-preserved
loop-need-preserved c =
    let nodes = c.args.nodes.now in
    let needs = (node_at nodes c.in-Some.driver).needs in
    let bit = ap (λ (t : Step). t.bit) (c.index.ensures ∙ get_or_default c.args.steps.now.items c.args.at c.index.result.now (record { bit = 0; toward = 0 }) c.requires.at) in
    let drives = c.requires.table.drives c.in-Some.driver _ c.in-Some.is in
    let node = get_or_default nodes c.in-Some.driver c.index-nodes-driver.result (record { needs = []; drives = [] }) (drives_exist nodes c.in-Some.driver _ drives) in
    let low = rw (c.as_slice-need-items.ensures, node) at c.loop-need-test.true in
    let ne = rw (c.as_slice-need-items.ensures, node) at c.if-need-c.false in
    let need = Contains-get_or (node_at nodes c.in-Some.driver).needs c.loop-need.need-index 0 low in
    elim c.if-not-seen-need.branch [
      | then-not-seen-need+in_ok-push w ↦
          let x = get_or (node_at nodes c.in-Some.driver).needs c.loop-need.need-index 0 in
          let off = rw (c.as_slice-need-items.ensures, node) at w.if-not-seen-need.true in
          let steps = rw (c.as_slice-need-items.ensures, node) at w.in_ok-push.ensures.items in
          let fed : Feeds nodes x (step_at c.args.steps.now.items c.args.at).bit = record { by = c.in-Some.driver; needs = need; drives = rw bit at drives } in
          rw (w.seen-is, w.steps-is, steps, c.as_slice-need-items.ensures, node)
          (expanding_new nodes c.args.c (length c.args.table.now) c.args.at needs c.args.seen.now c.args.steps.now.items c.loop-need.need-index c.loop-need.seen c.loop-need.steps.items c.loop-need.invariant ne off
          (c.requires.net.needed c.in-Some.driver x need) fed)
      | else-not-seen-need w ↦
          let up = rw (c.as_slice-need-items.ensures, node) at w.if-not-seen-need.false in
          rw (w.seen-is, w.steps-is)
          (expanding_seen nodes c.args.c (length c.args.table.now) c.args.at needs c.args.seen.now c.args.steps.now.items c.loop-need.need-index c.loop-need.seen c.loop-need.steps.items c.loop-need.invariant ne up)
    ]

pub returns : goal.returns
returns c =
    let nodes = c.args.nodes.now in
    let bit = ap (λ (t : Step). t.bit) (c.index.ensures ∙ get_or_default c.args.steps.now.items c.args.at c.index.result.now (record { bit = 0; toward = 0 }) c.requires.at) in
    let drives = c.requires.table.drives c.in-Some.driver _ c.in-Some.is in
    let node = get_or_default nodes c.in-Some.driver c.index-nodes-driver.result (record { needs = []; drives = [] }) (drives_exist nodes c.in-Some.driver _ drives) in
    let far = rw (c.as_slice-need-items.ensures, node) at c.loop-need-test.false in
    let end = rw (c.as_slice-need-items.ensures, node) at c.loop-need.auto.need-index-end in
    expands_all nodes c.args.c (length c.args.table.now) c.args.at c.in-Some.driver c.args.table.now c.args.seen.now c.args.steps.now.items c.loop-need.need-index c.loop-need.seen c.loop-need.steps.items c.requires.table
    (rw (← bit) c.in-Some.is) c.loop-need.invariant (omega arith)
