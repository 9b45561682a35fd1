use Rattle.std.proofs.Common.{[]}
use Rattle.std.proofs.lemmas.List.{get_or_default}
use Rattle.std.proofs.lemmas.List.Elements.{All-head}
use Rattle.settle_order.specs.Sweeping.{IsLeft}
use Rattle.settle_order.proofs.Placing.{needs_within}
use Rattle.settle_order.proofs.Watching.{need_at, swept_waits, swept_ready}
use Rattle.settle_order.proofs.sweep.Sweep.watch.Goals as goal

pub scan-at-requires-clause-within : goal.scan-at-requires-clause-within
scan-at-requires-clause-within c =
    let left = All-head (IsLeft c.args.nodes.now c.args.self.now.placed) c.args.node c.requires.0 c.requires.1.moves in
    let node = get_or_default c.args.nodes.now c.args.node c.index-nodes-node.result (record { needs = []; drives = [] }) left.exists in
    rw (c.as_slice-needs.ensures, node, c.as_slice-2.ensures) (needs_within c.args.nodes.now c.args.self.now c.args.node c.requires.1.sized)

pub wait-requires : goal.wait-requires
wait-requires c =
    let left = All-head (IsLeft c.args.nodes.now c.args.self.now.placed) c.args.node c.requires.0 c.requires.1.moves in
    let node = get_or_default c.args.nodes.now c.args.node c.index-nodes-node.result (record { needs = []; drives = [] }) left.exists in
    let low = rw (c.as_slice-needs.ensures, node) at c.if-at-needs.true in
    rw (c.as_slice-needs.ensures, node, c.requires.1.sized.waiting) (c.requires.1.sized.needs c.args.node _ (need_at c.args.nodes.now c.args.node c.scan-at.result low))

pub returns-then-at-needs-clause-swept : goal.returns-then-at-needs-clause-swept
returns-then-at-needs-clause-swept c rest w =
    let left = All-head (IsLeft c.args.nodes.now c.args.self.now.placed) c.args.node rest w.moves in
    let node = get_or_default c.args.nodes.now c.args.node c.index-nodes-node.result (record { needs = []; drives = [] }) left.exists in
    let scan = rw (c.as_slice-needs.ensures, node, c.as_slice-2.ensures) at c.scan-at.ensures in
    let low = rw (c.as_slice-needs.ensures, node) at c.if-at-needs.true in
    let lists = rw (c.as_slice-needs.ensures, node) at c.in_ok-wait.ensures in
    rw (c.set.ensures, lists) (swept_waits c.args.nodes.now c.args.self.now c.args.node rest c.scan-at.result w scan low)

pub returns-clause-swept : goal.returns-clause-swept
returns-clause-swept c rest w =
    let left = All-head (IsLeft c.args.nodes.now c.args.self.now.placed) c.args.node rest w.moves in
    let node = get_or_default c.args.nodes.now c.args.node c.index-nodes-node.result (record { needs = []; drives = [] }) left.exists in
    let scan = rw (c.as_slice-needs.ensures, node, c.as_slice-2.ensures) at c.scan-at.ensures in
    let far = rw (c.as_slice-needs.ensures, node) at c.if-at-needs.false in
    rw c.set.ensures (swept_ready c.args.nodes.now c.args.self.now c.args.node rest c.scan-at.result c.insert.new.self w scan far c.in_ok-insert.ensures.keys c.in_ok-insert.ensures.updates)
