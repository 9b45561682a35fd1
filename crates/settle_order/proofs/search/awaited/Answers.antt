use Rattle.std.proofs.Common.{[]}
use Rattle.std.proofs.lemmas.List.{get_or_default}
use Rattle.std.proofs.lemmas.List.Elements.{Contains-get_or}
use Rattle.settle_order.specs.Nodes.{node_at}
use Rattle.settle_order.proofs.Placing.{unknown_at, needs_within}
use Rattle.settle_order.proofs.search.awaited.Goals as goal

pub scan-at-requires-clause-within : goal.scan-at-requires-clause-within
scan-at-requires-clause-within c =
    let node = get_or_default c.args.nodes.now c.args.node c.index-nodes-node.result (record { needs = []; drives = [] }) c.requires.left.exists in
    rw (c.as_slice-needs.ensures, node, c.as_slice-2.ensures) (needs_within c.args.nodes.now c.args.sweep.now c.args.node c.requires.stuck.1.swept.sized)

pub bounds-needs-at : goal.bounds-needs-at
bounds-needs-at c =
    let node = get_or_default c.args.nodes.now c.args.node c.index-nodes-node.result (record { needs = []; drives = [] }) c.requires.left.exists in
    let scan = rw (c.as_slice-needs.ensures, node, c.as_slice-2.ensures) at c.scan-at.ensures in
    rw (c.as_slice-needs.ensures, node) (unknown_at c.args.nodes.now c.requires.stuck.0 c.args.sweep.now c.args.node c.scan-at.result c.requires.stuck.1 c.requires.left scan)

pub returns-clause-needed : goal.returns-clause-needed
returns-clause-needed c =
    let node = get_or_default c.args.nodes.now c.args.node c.index-nodes-node.result (record { needs = []; drives = [] }) c.requires.left.exists in
    let scan = rw (c.as_slice-needs.ensures, node, c.as_slice-2.ensures) at c.scan-at.ensures in
    let low = unknown_at c.args.nodes.now c.requires.stuck.0 c.args.sweep.now c.args.node c.scan-at.result c.requires.stuck.1 c.requires.left scan in
    rw (c.as_slice-needs.ensures, node) (Contains-get_or (node_at c.args.nodes.now c.args.node).needs c.scan-at.result 0 low)

pub returns-clause-unknown : goal.returns-clause-unknown
returns-clause-unknown c =
    let node = get_or_default c.args.nodes.now c.args.node c.index-nodes-node.result (record { needs = []; drives = [] }) c.requires.left.exists in
    let scan = rw (c.as_slice-needs.ensures, node, c.as_slice-2.ensures) at c.scan-at.ensures in
    let low = unknown_at c.args.nodes.now c.requires.stuck.0 c.args.sweep.now c.args.node c.scan-at.result c.requires.stuck.1 c.requires.left scan in
    rw (c.as_slice-needs.ensures, node) (scan.stops low)
