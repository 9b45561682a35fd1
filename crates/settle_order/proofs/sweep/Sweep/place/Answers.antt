use Rattle.std.proofs.Common.{◌≡◌, ◌+◌, ◌<◌, ℕ, [], length, get_or, sym, ap, ◌∙◌, subst, arith}
use Rattle.std.proofs.lemmas.List.{get_or_default}
use Rattle.settle_order.specs.declared.sweep.Sweep.{Sweep}
use Rattle.settle_order.specs.Nodes.{node_at}
use Rattle.settle_order.specs.Sweeping.{IsRaised}
use Rattle.settle_order.proofs.Placing.{placed_swept, ordered_next}
use Rattle.settle_order.proofs.Watching.{swept_released, raised_more, raised_none}
use Rattle.settle_order.proofs.sweep.Sweep.place.Goals as goal

pub loop-bit-init : goal.loop-bit-init
loop-bit-init c =
    let nodes = c.args.nodes.now in
    let s = c.args.self.now in
    record {
      swept = rw (c.set.ensures, c.in_ok-push.ensures.ok, c.new-loose.ensures.items) (placed_swept nodes s c.args.node c.requires.swept c.requires.known c.requires.apart);
      placed = c.set.ensures;
      order = c.in_ok-push.ensures.ok;
      raised = raised_none (node_at nodes c.args.node).drives s.known;
    }

pub loop-bit-preserved : goal.loop-bit-preserved
loop-bit-preserved c =
    let nodes = c.args.nodes.now in
    let node = get_or_default nodes c.args.node c.index-nodes-node.result (record { needs = []; drives = [] }) c.requires.next.ready.exists in
    let drives = c.as_slice-bit-items.ensures in
    let old = c.loop-bit.self in
    let new = c.release.new.self in
    let inv = c.loop-bit.invariant in
    let r = rw (drives, node) at c.in_ok-release.ensures in
    let low = rw (drives, node) at c.loop-bit-test.true in
    let b = get_or (node_at nodes c.args.node).drives c.loop-bit.bit-index 0 in
    let within : get_or (node_at nodes c.args.node).drives c.loop-bit.bit-index 0 < length c.loop-bit.self.known = inv.swept.sized.drives c.args.node c.loop-bit.bit-index 0 low in
    record {
      swept = swept_released nodes old new b c.loop-bit.loose.items c.release.new.loose.items inv.swept within r;
      placed = ap (λ (t : Sweep). t.placed) r.sweep ∙ inv.placed;
      order = ap (λ (t : Sweep). t.order) r.sweep ∙ inv.order;
      raised = subst (IsRaised (node_at nodes c.args.node).drives (c.loop-bit.bit-index + 1) c.args.self.now.known) (sym (ap (λ (t : Sweep). t.known) r.sweep))
          (raised_more (node_at nodes c.args.node).drives c.loop-bit.bit-index c.args.self.now.known c.loop-bit.self.known low within inv.raised);
    }

pub returns-clause-ordered : goal.returns-clause-ordered
returns-clause-ordered c =
    let nodes = c.args.nodes.now in
    let node = get_or_default nodes c.args.node c.index-nodes-node.result (record { needs = []; drives = [] }) c.requires.next.ready.exists in
    let inv = c.loop-bit.invariant in
    let same = c.in_ok-watch_all.ensures.same in
    let far = rw (c.as_slice-bit-items.ensures, node) at c.loop-bit-test.false in
    let ends = rw (c.as_slice-bit-items.ensures, node) at c.loop-bit.auto.bit-index-end in
    let all : c.loop-bit.bit-index ≡ length (node_at c.args.nodes.now c.args.node).drives = omega arith in
    let raised = subst (λ (n : ℕ). IsRaised (node_at nodes c.args.node).drives n c.args.self.now.known c.loop-bit.self.known) all inv.raised in
    ordered_next nodes (length c.args.self.now.known) c.args.self.now c.watch_all.new.self c.args.node c.requires.net c.requires.swept.sized c.requires.ordered c.requires.next
    (same.order ∙ inv.order) (same.placed ∙ inv.placed)
    (subst (IsRaised (node_at nodes c.args.node).drives (length (node_at nodes c.args.node).drives) c.args.self.now.known) (sym same.known) raised)
