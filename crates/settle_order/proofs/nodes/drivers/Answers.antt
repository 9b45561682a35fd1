use Rattle.std.proofs.Common.{◌≡◌, ℕ, [], length, ◌∙◌, subst, arith}
use Rattle.std.proofs.lemmas.List.{get_or_default}
use Rattle.settle_order.specs.Nodes.{IsTable}
use Rattle.settle_order.proofs.Tables.{drives_within, table_more}
use Rattle.settle_order.proofs.nodes.drivers.Goals as goal

pub note-requires : goal.note-requires
note-requires c =
    let node = c.index-nodes-k.is ∙ get_or_default c.args.nodes.now c.loop-k.k c.index-nodes-k.result (record { needs = []; drives = [] }) c.loop-k-test.true in
    rw (c.as_slice.ensures, node, c.loop-k.invariant.size) (drives_within c.args.nodes.now c.args.bits c.loop-k.k c.requires.net)

pub loop-k-preserved : goal.loop-k-preserved
loop-k-preserved c =
    let node = c.index-nodes-k.is ∙ get_or_default c.args.nodes.now c.loop-k.k c.index-nodes-k.result (record { needs = []; drives = [] }) c.loop-k-test.true in
    let noted = rw (c.as_slice.ensures, node) at c.note.ensures in
    table_more c.args.nodes.now c.args.bits c.loop-k.k c.loop-k.table c.note.new.table c.requires.net c.loop-k.invariant noted

pub returns : goal.returns
returns c =
    let all : c.loop-k.k ≡ length c.args.nodes.now = omega (arith, c.loop-k-test.false, c.loop-k.auto.k-end) in
    subst (λ (n : ℕ). IsTable c.args.nodes.now c.args.bits n c.loop-k.table) all c.loop-k.invariant
